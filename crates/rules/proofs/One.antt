-- Two answers that conform to a contract are one answer, since what was told gives the answer back. (`number` and `value` give the answer
-- itself.)
-- Assumes nothing.
use mathlib.Core.Path.{◌≡◌, refl, ap, sym, ◌∙◌}
use mathlib.Core.Bool.{cond}
use mathlib.Mathlib.Logic.Function.Defs.{LeftInverse, LeftInverse-Injective}
use lib.Dec.{eqb}
use Prim.Native.Nat.{ℕ}
use Rattle.std.specs.Prelude.{Option, Some, None, Result, Ok, Err}
use Rattle.frame.specs.Frame.{Anchor, stack, register}
use Rattle.rules.specs.Answers.{Number, refusal_of, Ruling, Saved, absent, below, slot_told}
use Rattle.rules.specs.RulesX86 as x86
use Rattle.rules.specs.RulesArm64 as arm64
use Rattle.rules.specs.declared.Refusal.{Refusal}
use Rattle.rules.specs.declared.CfaRegister.{CfaRegister}
use Rattle.rules.specs.declared.Rule.{Rule}

abbrev pub back_refusal : Number → Refusal
back_refusal n =
    cond (eqb n.number 20) Refusal.Null
    (cond (eqb n.number 21) (Refusal.Dwarf n.value)
    (cond (eqb n.number 22) (Refusal.UnrecognizedKind n.value)
    (cond (eqb n.number 23) Refusal.InvalidFrameless
    (cond (eqb n.number 24) Refusal.NotSound
    (cond (eqb n.number 25) Refusal.FramelessIndirect
    (cond (eqb n.number 26) Refusal.AboveAddresses Refusal.OutsideWindow))))))

-- an answer, or the refusal that was told
abbrev pub back : {A : Type 0} → A → Number → Result A Refusal
back x n = cond (eqb n.number 0) (Ok x) (Err (back_refusal n))

pub way_refusal : {A : Type 0} (x : A) (r : Refusal) → back x (refusal_of r) ≡ Err r
way_refusal x Refusal.Null = refl
way_refusal x (Refusal.Dwarf low24) = refl
way_refusal x (Refusal.UnrecognizedKind kind) = refl
way_refusal x Refusal.InvalidFrameless = refl
way_refusal x Refusal.NotSound = refl
way_refusal x Refusal.FramelessIndirect = refl
way_refusal x Refusal.AboveAddresses = refl
way_refusal x Refusal.OutsideWindow = refl

abbrev back_register : Anchor → CfaRegister
back_register stack = CfaRegister.StackPointer
back_register (register k) = CfaRegister.FramePointer

-- the machines' registers differ in their places alone
way_x86 : LeftInverse back_register x86.anchor_told
way_x86 CfaRegister.StackPointer = refl
way_x86 CfaRegister.FramePointer = refl

way_arm64 : LeftInverse back_register arm64.anchor_told
way_arm64 CfaRegister.StackPointer = refl
way_arm64 CfaRegister.FramePointer = refl

abbrev rule_back : {n : ℕ} → Ruling → Rule n
rule_back u = record { cfa_register = back_register u.anchor; cfa_distance = u.distance; below = u.below }

pub one-rule-x86-64 : (t : Ruling) (x y : Result (Rule 6) Refusal) → x86.rule_told x ≡ t → x86.rule_told y ≡ t → x ≡ y
one-rule-x86-64 t x y p q = LeftInverse-Injective given x86.rule_told way x y (p ∙ sym q)
  where
    given : Ruling → Result (Rule 6) Refusal
    given u = back (rule_back u) u.refusal

    way : LeftInverse given x86.rule_told
    way (Ok u) = ap (λ (c : CfaRegister). Ok (record { cfa_register = c; cfa_distance = u.cfa_distance; below = u.below })) (way_x86 u.cfa_register)
    way (Err e) = way_refusal _ e

pub one-rule-arm64 : (t : Ruling) (x y : Result (Rule 20) Refusal) → arm64.rule_told x ≡ t → arm64.rule_told y ≡ t → x ≡ y
one-rule-arm64 t x y p q = LeftInverse-Injective given arm64.rule_told way x y (p ∙ sym q)
  where
    given : Ruling → Result (Rule 20) Refusal
    given u = back (rule_back u) u.refusal

    way : LeftInverse given arm64.rule_told
    way (Ok u) = ap (λ (c : CfaRegister). Ok (record { cfa_register = c; cfa_distance = u.cfa_distance; below = u.below })) (way_arm64 u.cfa_register)
    way (Err e) = way_refusal _ e

abbrev back_slot : Saved → Option ℕ
back_slot absent = None
back_slot (below d) = Some d

way_slot : LeftInverse back_slot slot_told
way_slot None = refl
way_slot (Some d) = refl

pub one-slot : (t : Saved) (x y : Option ℕ) → slot_told x ≡ t → slot_told y ≡ t → x ≡ y
one-slot t x y p q = LeftInverse-Injective back_slot slot_told way_slot x y (p ∙ sym q)
