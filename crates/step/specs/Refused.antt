-- docs/FORMAT.md, 10.3: a refused step leaves every register as it was.
-- Assumes nothing.
use Prim.Native.Nat.{ℕ, ◌+◌, ◌-◌, ◌^◌}
use mathlib.Core.Path.{◌≡◌, refl, ap, ◌∙◌}
use mathlib.Core.Bool.{Bool, true, false, cond, ◌&&◌}
use mathlib.Core.List.{List}
use lib.Dec.{eqb, ltb}
use lib.ListN.{length}
use Rattle.frame.specs.Frame as frame
use Rattle.frame.specs.Memory.{load}
use Rattle.frame.specs.Frame.{Regs, Return, anchored, inside, all_inside, return_inside, caller_of, step_at}
use Rattle.rules.specs.Answers.{Ruling}
use Rattle.rules.specs.RulesX86 as rules_x86
use Rattle.rules.specs.RulesArm64 as rules_arm64
use Rattle.step.specs.Steps.{Told, valueless, step_by}
use Rattle.step.specs.StepsX86 as x86
use Rattle.step.specs.StepsArm64 as arm64

-- the tests of a step over slots, one after the other
slots-tested : (a b : Bool) (caller r : Regs) (t : frame.Told)
    → t ≡ cond a (cond b (record { number = 0; regs = caller }) (record { number = 27; regs = r })) (record { number = 26; regs = r })
    → (t.number ≡ 0 → ⊥) → t.regs ≡ r
slots-tested true true caller r t e n = absurd (n (ap (λ (x : frame.Told). x.number) e))
slots-tested true false caller r t e n = ap (λ (x : frame.Told). x.regs) e
slots-tested false b caller r t e n = ap (λ (x : frame.Told). x.regs) e

slots-unchanged : (w base : ℕ) (mem : List ℕ) (cfa : ℕ) (ret : Return) (ds : List ℕ) (r : Regs) → ((step_at w base mem cfa ret ds r).number ≡ 0 → ⊥) → (step_at w base mem cfa ret ds r).regs ≡ r
slots-unchanged w base mem cfa ret ds r =
    slots-tested (ltb (base + length mem) (256 ^ w) && ltb cfa (256 ^ w))
    (return_inside (inside w base (length mem) cfa) ret && all_inside (inside w base (length mem) cfa) ds)
    (caller_of (λ (d : ℕ). load w (cfa - d - base) mem) cfa ret ds r) r (step_at w base mem cfa ret ds r) refl

-- the word's test before them
word-tested : (a : Bool) (s : frame.Told) (t u : Told) (r : Regs) → u.regs ≡ r → ((s.number ≡ 0 → ⊥) → s.regs ≡ r) → t ≡ cond a (valueless s) u
    → (t.refusal.number ≡ 0 → ⊥) → t.regs ≡ r
word-tested true s t u r q f e n = ap (λ (x : Told). x.regs) e ∙ f (λ z. n (ap (λ (x : Told). x.refusal.number) e ∙ z))
word-tested false s t u r q f e n = ap (λ (x : Told). x.regs) e ∙ q

pub unchanged : (w : ℕ) (u : Ruling) (base : ℕ) (mem : List ℕ) (r : Regs) → ((step_by w u base mem r).refusal.number ≡ 0 → ⊥) → (step_by w u base mem r).regs ≡ r
unchanged w u base mem r =
    word-tested (eqb u.refusal.number 0) (step_at w base mem (anchored u.anchor r + u.distance) u.return u.below r) (step_by w u base mem r)
    (record { refusal = u.refusal; regs = r }) r refl (slots-unchanged w base mem (anchored u.anchor r + u.distance) u.return u.below r) refl

-- for each machine
pub unchanged-x86-64 : (w base : ℕ) (mem : List ℕ) (r : Regs) → ((x86.step_of w base mem r).refusal.number ≡ 0 → ⊥) → (x86.step_of w base mem r).regs ≡ r
unfolding x86.step_of
unchanged-x86-64 w base mem r = unchanged 8 (rules_x86.rule_of w) base mem r

pub unchanged-arm64 : (w base : ℕ) (mem : List ℕ) (r : Regs) → ((arm64.step_of w base mem r).refusal.number ≡ 0 → ⊥) → (arm64.step_of w base mem r).regs ≡ r
unfolding arm64.step_of
unchanged-arm64 w base mem r = unchanged 8 (rules_arm64.rule_of w) base mem r
