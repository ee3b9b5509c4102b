-- `step::arm64::RegistersArm64Registers::step` meets its contract: a step by the rule is the step by the word.
-- Assumes nothing.
use mathlib.Core.Path.{◌∙◌}
use Rattle.step.proofs.Stepping.{passed_on, refused-arm64, by_slots, by-link}
use Rattle.step.proofs.arm64.RegistersArm64Registers.step.Goals as goal

pub returns-in_err-cfa_register : goal.returns-in_err-cfa_register
returns-in_err-cfa_register c = passed_on _ _ _ c.from_residual.ensures.1 ∙ refused-arm64 _ _ _ c.args.self.now _ c.in_err-cfa_register.ensures

pub returns-in-FramePointer : goal.returns-in-FramePointer
returns-in-FramePointer c =
    (rw (c.new-window.ensures.0, c.new-window.ensures.1) at c.by_slots.ensures)
    ∙ by_slots c.args.opcode c.args.base c.args.window.now c.args.self.now _ c.in_ok-cfa_register.ensures c.in-FramePointer.is

pub returns-in-StackPointer : goal.returns-in-StackPointer
returns-in-StackPointer c =
    (rw (c.new-window.ensures.0, c.new-window.ensures.1) at c.by_link.ensures)
    ∙ by-link c.args.opcode c.args.base c.args.window.now c.args.self.now _ c.in_ok-cfa_register.ensures c.in-StackPointer.is
