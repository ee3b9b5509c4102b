-- Two answers that conform to a contract are one answer, since what was told gives the answer back. (`number` and `value` give the answer
-- itself.)
-- Assumes nothing.
use mathlib.Core.Path.{◌≡◌, refl, ap, sym, ◌∙◌}
use mathlib.Core.Bool.{cond}
use mathlib.Mathlib.Logic.Function.Defs.{LeftInverse, LeftInverse-Injective}
use native.Mathlib.Omega.{arith}
use borrow.Author.Tests.{ne_eqb, lt-ltb}
use lib.Dec.{eqb, ltb}
use Prim.Native.Nat.{ℕ}
use Rattle.std.specs.Prelude.{Result, Ok, Err}
use Rattle.raw.specs.Checked.{number_of}
use Rattle.raw.proofs.One.{error_of as error_for, error-back}
use Rattle.raw.proofs.Numbers.{number-of}
use Rattle.rules.specs.Answers.{Number}
use Rattle.rules.specs.declared.Refusal.{Refusal}
use Rattle.rules.proofs.One.{back_refusal}
use Rattle.frame.specs.Frame.{Regs}
use Rattle.step.specs.declared.x86_64.RegistersX86_64.{RegistersX86_64}
use Rattle.step.specs.declared.arm64.«RegistersArm64».{«RegistersArm64»}
use Rattle.step.specs.StepsX86 as x86
use Rattle.step.specs.StepsArm64 as arm64
use Rattle.macho_unwind_info.specs.declared.UnwindError.{UnwindError}
use Rattle.macho_unwind_info.specs.declared.Unwound as declared
use Rattle.macho_unwind_info.specs.Unwind.{outcome_of, Unwound, unwound_told}

-- the lookup's refusals are below 20, the step's from 20 on
abbrev back_outcome : Number → Result (Unit {0}) UnwindError
back_outcome n = cond (eqb n.number 0) (Ok tt) (Err (cond (ltb n.number 20) (UnwindError.NotLookedUp (error_for n.number)) (UnwindError.NotStepped (back_refusal n))))

way_outcome : LeftInverse back_outcome outcome_of
way_outcome (Ok x) = refl
way_outcome (Err (UnwindError.NotLookedUp e)) =
    let n = number-of e in
    simp (ne_eqb (number_of e) 0 (omega (arith, n.0)), lt-ltb (number_of e) 20 (omega (arith, n.1)), error-back e)
way_outcome (Err (UnwindError.NotStepped Refusal.Null)) = refl
way_outcome (Err (UnwindError.NotStepped (Refusal.Dwarf low24))) = refl
way_outcome (Err (UnwindError.NotStepped (Refusal.UnrecognizedKind kind))) = refl
way_outcome (Err (UnwindError.NotStepped Refusal.InvalidFrameless)) = refl
way_outcome (Err (UnwindError.NotStepped Refusal.NotSound)) = refl
way_outcome (Err (UnwindError.NotStepped Refusal.FramelessIndirect)) = refl
way_outcome (Err (UnwindError.NotStepped Refusal.AboveAddresses)) = refl
way_outcome (Err (UnwindError.NotStepped Refusal.OutsideWindow)) = refl

-- two answers, beside the same registers' values; the registers themselves are one where what they are called in the definitions gives them back
pub one-unwound : (t : Unwound) (x y : declared.Unwound) (r q : Regs) → unwound_told x r ≡ t → unwound_told y q ≡ t → (x ≡ y) × (r ≡ q)
one-unwound t x y r q e d =
    let same : unwound_told x r ≡ unwound_told y q = e ∙ sym d in
    let outcome : x.outcome ≡ y.outcome = LeftInverse-Injective back_outcome outcome_of way_outcome _ _ (ap (λ (u : Unwound). u.refusal) same) in
    let probes : x.probes ≡ y.probes = ap (λ (u : Unwound). u.probes) same in
    (ap {B = declared.Unwound} (λ (n : ℕ). record { probes = n; outcome = x.outcome }) probes ∙ ap {B = declared.Unwound} (λ (o : Result (Unit {0}) UnwindError). record { probes = y.probes; outcome = o }) outcome, ap (λ (u : Unwound). u.regs) same)

one-registers-x86-64 : (x y : RegistersX86_64) → x86.regs_told x ≡ x86.regs_told y → x ≡ y
one-registers-x86-64 = LeftInverse-Injective (λ (r : Regs). record { rip = r.pc; rsp = r.sp; saved = r.kept }) x86.regs_told (λ r. refl)

pub one-unwound-x86-64 : (t : Unwound) (x y : declared.Unwound) (r q : RegistersX86_64) → unwound_told x (x86.regs_told r) ≡ t → unwound_told y (x86.regs_told q) ≡ t → (x ≡ y) × (r ≡ q)
one-unwound-x86-64 t x y r q e d =
    let one = one-unwound t x y _ _ e d in
    (one.0, one-registers-x86-64 r q one.1)

one-registers-arm64 : (x y : «RegistersArm64») → arm64.regs_told x ≡ arm64.regs_told y → x ≡ y
one-registers-arm64 = LeftInverse-Injective (λ (r : Regs). record { pc = r.pc; sp = r.sp; saved = r.kept }) arm64.regs_told (λ r. refl)

pub one-unwound-arm64 : (t : Unwound) (x y : declared.Unwound) (r q : «RegistersArm64») → unwound_told x (arm64.regs_told r) ≡ t → unwound_told y (arm64.regs_told q) ≡ t → (x ≡ y) × (r ≡ q)
one-unwound-arm64 t x y r q e d =
    let one = one-unwound t x y _ _ e d in
    (one.0, one-registers-arm64 r q one.1)
