-- docs/FORMAT.md, 10.2: a step by an opcode word of arm64.
-- Assumes nothing.
use Rattle.std.specs.Prelude.{ℕ, List}
use Rattle.frame.specs.Frame.{Regs}
use Rattle.rules.specs.RulesArm64.{rule_of}
use Rattle.step.specs.Steps.{Told, regs_of, step_by}
use Rattle.step.specs.declared.arm64.«RegistersArm64».{«RegistersArm64»}

unfoldable pub step_of : ℕ → ℕ → List ℕ → Regs → Told
step_of w base mem r = step_by 8 (rule_of w) base mem r

abbrev pub regs_told : «RegistersArm64» → Regs
regs_told r = regs_of r.pc r.sp r.saved
