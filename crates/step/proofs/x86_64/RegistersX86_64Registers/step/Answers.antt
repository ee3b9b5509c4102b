-- `step::x86_64::RegistersX86_64Registers::step` meets its contract: a step by the rule is the step by the word.
-- Assumes nothing.
use mathlib.Core.Path.{◌∙◌}
use Rattle.step.specs.Steps.{regs_of}
use Rattle.step.proofs.Stepping.{passed_on, refused-x86, stepped-x86}
use Rattle.step.proofs.x86_64.RegistersX86_64Registers.step.Goals as goal

pub returns-in_err-cfa_register : goal.returns-in_err-cfa_register
returns-in_err-cfa_register c = passed_on _ _ _ c.from_residual.ensures.1 ∙ refused-x86 _ _ _ c.args.self.now _ c.in_err-cfa_register.ensures

pub returns-in_err-landed : goal.returns-in_err-landed
returns-in_err-landed c =
    let s = c.args.self.now in
    passed_on _ _ (regs_of s.rip s.rsp c.step.new.kept) c.from_residual-in_err-landed.ensures.1
    ∙ (rw (c.new.ensures.0, c.new.ensures.1) at (c.in_err-landed.ensures s.rip s.rsp))
    ∙ stepped-x86 c.args.opcode c.args.base c.args.window.now s _ c.in_ok-cfa_register.ensures _ c.choose_anchor-anchor.ensures

pub returns : goal.returns
returns c =
    let s = c.args.self.now in
    (rw (c.new.ensures.0, c.new.ensures.1) at (c.in_ok-landed.ensures s.rip s.rsp))
    ∙ stepped-x86 c.args.opcode c.args.base c.args.window.now s _ c.in_ok-cfa_register.ensures _ c.choose_anchor-anchor.ensures
