-- Two answers that conform to a contract are one answer, since what was told gives the answer back.
-- Assumes nothing.
use mathlib.Core.Path.{◌≡◌, refl, ap, sym, ◌∙◌}
use mathlib.Core.List.{[]}
use Rattle.std.specs.Prelude.{Result, Ok, Err}
use Rattle.rules.specs.declared.Refusal.{Refusal}
use Rattle.rules.proofs.One.{back, way_refusal}
use Rattle.frame.specs.Frame.{Regs}
use Rattle.step.specs.Steps.{Told, step_told}
use Rattle.step.specs.StepsX86 as x86
use Rattle.step.specs.StepsArm64 as arm64
use Rattle.step.specs.declared.x86_64.RegistersX86_64.{RegistersX86_64}
use Rattle.step.specs.declared.arm64.«RegistersArm64».{«RegistersArm64»}

way_answer : (x : Result (Unit {0}) Refusal) → back tt (step_told x (record { pc = 0; sp = 0; kept = [] })).refusal ≡ x
way_answer (Ok u) = refl
way_answer (Err e) = way_refusal tt e

-- the answers are one,
one-answer : (t : Told) (x y : Result (Unit {0}) Refusal) (r s : Regs) → step_told x r ≡ t → step_told y s ≡ t → x ≡ y
one-answer t x y r s p q = sym (way_answer x) ∙ ap (λ (u : Told). back tt u.refusal) (p ∙ sym q) ∙ way_answer y

-- and so are the registers.
pub one-step-x86-64 : (t : Told) (x y : Result (Unit {0}) Refusal) (r s : RegistersX86_64) → step_told x (x86.regs_told r) ≡ t → step_told y (x86.regs_told s) ≡ t → (x ≡ y) × (r ≡ s)
one-step-x86-64 t x y r s p q = (
  one-answer t x y (x86.regs_told r) (x86.regs_told s) p q,
  ap {B = RegistersX86_64} (λ (u : Told). record { rip = u.regs.pc; rsp = u.regs.sp; saved = u.regs.kept }) (p ∙ sym q),
)

pub one-step-arm64 : (t : Told) (x y : Result (Unit {0}) Refusal) (r s : «RegistersArm64») → step_told x (arm64.regs_told r) ≡ t → step_told y (arm64.regs_told s) ≡ t → (x ≡ y) × (r ≡ s)
one-step-arm64 t x y r s p q = (
  one-answer t x y (arm64.regs_told r) (arm64.regs_told s) p q,
  ap {B = «RegistersArm64»} (λ (u : Told). record { pc = u.regs.pc; sp = u.regs.sp; saved = u.regs.kept }) (p ∙ sym q),
)
