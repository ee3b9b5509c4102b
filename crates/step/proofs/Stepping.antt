-- A step by the rule that was computed is the step by the word.
-- Assumes nothing.
use Prim.Native.Nat.{ℕ, ◌+◌, ◌≤◌}
use mathlib.Core.Path.{◌≡◌, refl, ap, sym, ◌∙◌}
use mathlib.Core.Bool.{false}
use mathlib.Core.List.{List}
use native.Mathlib.Omega.{arith}
use borrow.Author.Tests.{ne_eqb}
use lib.Dec.{eqb}
use lib.ListN.{get_or, replicate}
use Rattle.opcodes.specs.WordsArm64 as arm
use Rattle.frame.specs.Frame.{Regs, stack, slot, holds, anchored, step_at}
use Rattle.rules.specs.Answers.{Number, refusal_of, Ruling}
use Rattle.rules.specs.RulesX86 as x86
use Rattle.rules.specs.RulesArm64 as arm64
use Rattle.rules.specs.declared.Refusal.{Refusal}
use Rattle.rules.specs.declared.CfaRegister.{CfaRegister}
use Rattle.rules.specs.declared.Rule.{Rule}
use Rattle.std.specs.Prelude.{Result, Ok, Err, IsErrAnd}
use Rattle.step.specs.Steps.{Told, valueless, step_told, step_by}
use Rattle.step.specs.declared.x86_64.RegistersX86_64.{RegistersX86_64}
use Rattle.step.specs.declared.arm64.«RegistersArm64».{«RegistersArm64»}
use Rattle.step.specs.Slots.{anchor_of}
use Rattle.step.specs.StepsX86 as steps_x86
use Rattle.step.specs.StepsArm64 as steps_arm64

-- no refusal has the number 0
refused-number : (x : Refusal) → eqb (refusal_of x).number 0 ≡ false
refused-number Refusal.Null = refl
refused-number (Refusal.Dwarf low24) = refl
refused-number (Refusal.UnrecognizedKind kind) = refl
refused-number Refusal.InvalidFrameless = refl
refused-number Refusal.NotSound = refl
refused-number Refusal.FramelessIndirect = refl
refused-number Refusal.AboveAddresses = refl
refused-number Refusal.OutsideWindow = refl

-- a `?` passes the refusal on as it is
pub passed_on : (t : Result (Unit {0}) Refusal) (x : Refusal) (r : Regs) → IsErrAnd t (λ y. y ≡ x) → step_told t r ≡ record { refusal = refusal_of x; regs = r }
passed_on (Ok u) x r h = absurd h
passed_on (Err y) x r h = ap {B = Told} (λ (z : Refusal). record { refusal = refusal_of z; regs = r }) h

-- a refused word refuses the step
pub refuses : (w : ℕ) (x : Refusal) (u : Ruling) (base : ℕ) (mem : List ℕ) (r : Regs) → refusal_of x ≡ u.refusal → record { refusal = refusal_of x; regs = r } ≡ step_by w u base mem r
refuses w x u base mem r e =
    let n : eqb u.refusal.number 0 ≡ false = ap (λ (k : Number). eqb k.number 0) (sym e) ∙ refused-number x in
    simp (n, e)

-- a rule that refuses refuses the step
pub refused-by : (w : ℕ) (u : Ruling) (base : ℕ) (mem : List ℕ) (r : Regs) → 20 ≤ u.refusal.number → step_by w u base mem r ≡ record { refusal = u.refusal; regs = r }
refused-by w u base mem r h = simp (ne_eqb u.refusal.number 0 (omega arith))

-- x86_64: the refusal, or by the rule that was computed and the anchor that it names
module _ (word base : ℕ) (mem : List ℕ) (g : RegistersX86_64) where
  pub refused-x86 : (x : Refusal) → x86.rule_told (Err x) ≡ x86.rule_of word → record { refusal = refusal_of x; regs = steps_x86.regs_told g } ≡ steps_x86.step_of word base mem (steps_x86.regs_told g)
  unfolding steps_x86.step_of
  refused-x86 x e = refuses 8 x (x86.rule_of word) base mem (steps_x86.regs_told g) (ap (λ (v : Ruling). v.refusal) e)

  pub stepped-x86 : (u : Rule 6) → x86.rule_told (Ok u) ≡ x86.rule_of word → (anchor : ℕ) → anchor ≡ anchor_of u.cfa_register g.rsp (get_or g.saved 5 0)
      → valueless (step_at 8 base mem (anchor + u.cfa_distance) (slot 8) u.below (steps_x86.regs_told g)) ≡ steps_x86.step_of word base mem (steps_x86.regs_told g)
  unfolding steps_x86.step_of
  stepped-x86 u e anchor a =
      ap (λ (k : ℕ). valueless (step_at 8 base mem (k + u.cfa_distance) (slot 8) u.below (steps_x86.regs_told g))) (a ∙ in-x86 u.cfa_register)
      ∙ ap (λ (v : Ruling). step_by 8 v base mem (steps_x86.regs_told g)) e
    where
      in-x86 : (c : CfaRegister) → anchor_of c g.rsp (get_or g.saved 5 0) ≡ anchored (x86.anchor_told c) (steps_x86.regs_told g)
      in-x86 CfaRegister.StackPointer = refl
      in-x86 CfaRegister.FramePointer = refl

-- arm64: where CFA is counted from sp, no slot is named
none_named : (t : arm.Word) → (arm64.by_word t).anchor ≡ stack → (arm64.by_word t).below ≡ replicate 20 0
none_named arm.null e = refl
none_named (arm.frameless size) e = refl
none_named (arm.dwarf low24) e = refl
none_named (arm.frame_based count pairs) e = absurd (let z : ◌≡◌ {A = ℕ} 0 1 = cc in omega arith)
none_named (arm.unrecognized kind) e = refl

no-slots : (word : ℕ) → (arm64.rule_of word).anchor ≡ stack → (arm64.rule_of word).below ≡ replicate 20 0
unfolding arm64.rule_of
no-slots word e = none_named (arm.parse_of word) e

module _ (word base : ℕ) (mem : List ℕ) (g : «RegistersArm64») where
  pub refused-arm64 : (x : Refusal) → arm64.rule_told (Err x) ≡ arm64.rule_of word → record { refusal = refusal_of x; regs = steps_arm64.regs_told g } ≡ steps_arm64.step_of word base mem (steps_arm64.regs_told g)
  unfolding steps_arm64.step_of
  refused-arm64 x e = refuses 8 x (arm64.rule_of word) base mem (steps_arm64.regs_told g) (ap (λ (v : Ruling). v.refusal) e)

  module _ (u : Rule 20) (e : arm64.rule_told (Ok u) ≡ arm64.rule_of word) where
    by_register : (k : CfaRegister) → k ≡ u.cfa_register
        → valueless (step_at 8 base mem (anchored (arm64.anchor_told k) (steps_arm64.regs_told g) + u.cfa_distance) (arm64.return_told k) u.below (steps_arm64.regs_told g))
        ≡ steps_arm64.step_of word base mem (steps_arm64.regs_told g)
    unfolding steps_arm64.step_of
    by_register k c =
        ap (λ (k : CfaRegister). valueless (step_at 8 base mem (anchored (arm64.anchor_told k) (steps_arm64.regs_told g) + u.cfa_distance) (arm64.return_told k) u.below (steps_arm64.regs_told g))) c
        ∙ ap (λ (v : Ruling). step_by 8 v base mem (steps_arm64.regs_told g)) e

    pub by_slots : u.cfa_register ≡ CfaRegister.FramePointer
        → valueless (step_at 8 base mem (get_or g.saved 10 0 + u.cfa_distance) (slot 8) u.below (steps_arm64.regs_told g)) ≡ steps_arm64.step_of word base mem (steps_arm64.regs_told g)
    by_slots c = by_register CfaRegister.FramePointer (sym c)

    pub by-link : u.cfa_register ≡ CfaRegister.StackPointer
        → valueless (step_at 8 base mem (g.sp + u.cfa_distance) (holds 11) (replicate 20 0) (steps_arm64.regs_told g)) ≡ steps_arm64.step_of word base mem (steps_arm64.regs_told g)
    by-link c =
        let a : (arm64.rule_of word).anchor ≡ stack = sym (ap (λ (v : Ruling). v.anchor) e) ∙ ap arm64.anchor_told c in
        let n : replicate 20 0 ≡ u.below = sym (ap (λ (v : Ruling). v.below) e ∙ no-slots word a) in
        ap (λ (ds : List ℕ). valueless (step_at 8 base mem (g.sp + u.cfa_distance) (holds 11) ds (steps_arm64.regs_told g))) n
        ∙ by_register CfaRegister.StackPointer (sym c)
