-- What rules and steps tell (docs/FORMAT.md, 10.1 to 10.3), as the flat structs of include/brasspurse.h.
-- Assumes nothing.
use Rattle.std.specs.Prelude.{ℕ}
use Rattle.frame.specs.Frame.{Anchor, stack, register}
use Rattle.rules.specs.Answers.{Ruling}
use Rattle.rules.specs.declared.CfaRegister.{CfaRegister}
use Rattle.step.specs.Steps.{Told}
use Rattle.brasspurse.specs.declared.frames.RuleX86_64Answer.{RuleX86_64Answer}
use Rattle.brasspurse.specs.declared.frames.«RuleArm64Answer».{«RuleArm64Answer»}
use Rattle.brasspurse.specs.declared.frames.StepX86_64Answer.{StepX86_64Answer}
use Rattle.brasspurse.specs.declared.frames.«StepArm64Answer».{«StepArm64Answer»}

-- 0 the stack pointer, 1 the frame pointer
abbrev pub register_number : CfaRegister → ℕ
register_number CfaRegister.StackPointer = 0
register_number CfaRegister.FramePointer = 1

abbrev pub anchor_number : Anchor → ℕ
anchor_number stack = 0
anchor_number (register k) = 1

abbrev pub rule_x86_answer : Ruling → RuleX86_64Answer
rule_x86_answer u =
    record { refusal = u.refusal.number; value = u.refusal.value; cfa_distance = u.distance; cfa_register = anchor_number u.anchor; below = u.below }

abbrev pub rule_arm64_answer : Ruling → «RuleArm64Answer»
rule_arm64_answer u =
    record { refusal = u.refusal.number; value = u.refusal.value; cfa_distance = u.distance; cfa_register = anchor_number u.anchor; below = u.below }

abbrev pub step_x86_answer : Told → StepX86_64Answer
step_x86_answer t =
    record { refusal = t.refusal.number; value = t.refusal.value; registers = record { rip = t.regs.pc; rsp = t.regs.sp; saved = t.regs.kept } }

abbrev pub step_arm64_answer : Told → «StepArm64Answer»
step_arm64_answer t =
    record { refusal = t.refusal.number; value = t.refusal.value; registers = record { pc = t.regs.pc; sp = t.regs.sp; saved = t.regs.kept } }
