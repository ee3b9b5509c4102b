-- docs/FORMAT.md, 10.2: a step by an opcode word of x86_64.
-- Assumes nothing.
use Rattle.std.specs.Prelude.{ℕ, List}
use Rattle.frame.specs.Frame.{Regs}
use Rattle.rules.specs.RulesX86.{rule_of}
use Rattle.step.specs.Steps.{Told, regs_of, step_by}
use Rattle.step.specs.declared.x86_64.RegistersX86_64.{RegistersX86_64}

unfoldable pub step_of : ℕ → ℕ → List ℕ → Regs → Told
step_of w base mem r = step_by 8 (rule_of w) base mem r

abbrev pub regs_told : RegistersX86_64 → Regs
regs_told r = regs_of r.rip r.rsp r.saved
