-- The loop over the fields of a frame-based word: what holds at each turn.
-- Assumes nothing.
use Prim.Native.Nat.{ℕ, zero, suc, ◌+◌, ◌-◌, ◌*◌, ◌<◌, ◌≤◌}
use mathlib.Core.Path.{◌≡◌, ap, sym, ◌∙◌}
use mathlib.Core.List.{List, [], ◌∷◌}
use mathlib.Core.Bool.{Bool, cond, ◌&&◌}
use native.Mathlib.Omega.{arith}
use borrow.Author.Tests.{lt-ltb, le-ltb, eq-eqb, ne_eqb}
use lib.Dec.{ltb, eqb}
use lib.ListN.{length, get_or, set, drop}
use lib.Seq.{drop-cons, drop-length}
use Rattle.opcodes.specs.Registers.{Told, number_of, value_of, fields_in, number_at, field_named}
use Rattle.opcodes.specs.declared.x86_64.RegisterNameX86_64.{RegisterNameX86_64}
use Rattle.opcodes.specs.declared.x86_64.RegisterNameX86_64.TheVariants.{Rbx, R12, R13, R14, R15, Rbp}
use Rattle.opcodes.proofs.Fields.{number-told, at_field}
use Rattle.frame.specs.Frame.{register, slot}
use Rattle.rules.specs.Answers.{numbered, Ruling}
use Rattle.rules.specs.RulesX86.{refusal}

-- What the loop answers from field k on, the distances of the fields before it being ds: a register is named before if it has one.
abbrev pub based_from : ℕ → ℕ → List ℕ → List ℕ → Ruling
based_from offset k ds [] = record { refusal = numbered 0 0; anchor = register 5; distance = 16; return = slot 8; below = ds }
based_from offset k ds (zero ∷ fs) = based_from offset (suc k) ds fs
based_from offset k ds (suc f ∷ fs) =
    let further : Ruling = based_from offset (suc k) (set ds f (16 + offset - 8 * k)) fs in
    cond (ltb f 5 && ltb (8 * k) offset && eqb (get_or ds f 0) 0) further (refusal (numbered 24 0))

-- as from the start
abbrev pub Turn : ℕ → List ℕ → List ℕ → List ℕ → ℕ → Type 0
Turn offset first fs ds k = based_from offset 0 first fs ≡ based_from offset k ds (drop k fs)

module _ (offset : ℕ) (first fs ds : List ℕ) (k : ℕ) (t : Turn offset first fs ds k) (h : k < length fs) where
  pub skip : get_or fs k 0 ≡ 0 → Turn offset first fs ds (suc k)
  skip e = t ∙ ap (based_from offset k ds) (drop-cons fs k 0 h ∙ ap (λ (f : ℕ). f ∷ drop (suc k) fs) e)

  -- what a field that is not 0 is tested for, its register's place being f
  abbrev tests : ℕ → Bool
  tests f = ltb f 5 && ltb (8 * k) offset && eqb (get_or ds f 0) 0

  module _ (n : get_or fs k 0 ≡ 0 → ⊥) where
    abbrev place : ℕ
    place = get_or fs k 0 - 1

    opened : based_from offset 0 first fs
        ≡ cond (tests place) (based_from offset (suc k) (set ds place (16 + offset - 8 * k)) (drop (suc k) fs)) (refusal (numbered 24 0))
    opened =
        let e : get_or fs k 0 ≡ suc (get_or fs k 0 - 1) = omega arith in
        t ∙ ap (based_from offset k ds) (drop-cons fs k 0 h ∙ ap (λ (f : ℕ). f ∷ drop (suc k) fs) e)

    pub places : get_or fs k 0 ≤ 5 → 8 * k < offset → get_or ds place 0 ≡ 0 → Turn offset first fs (set ds place (16 + offset - 8 * k)) (suc k)
    places a b c = opened ∙ simp (lt-ltb place 5 (omega arith), lt-ltb (8 * k) offset b, eq-eqb (get_or ds place 0) 0 c)

    pub far : 5 < get_or fs k 0 → refusal (numbered 24 0) ≡ based_from offset 0 first fs
    far a = sym (opened ∙ simp (le-ltb place 5 (omega arith)))

    pub shallow : get_or fs k 0 ≤ 5 → offset ≤ 8 * k → refusal (numbered 24 0) ≡ based_from offset 0 first fs
    shallow a b = sym (opened ∙ simp (lt-ltb place 5 (omega arith), le-ltb (8 * k) offset b))

    pub twice : get_or fs k 0 ≤ 5 → 8 * k < offset → (get_or ds place 0 ≡ 0 → ⊥) → refusal (numbered 24 0) ≡ based_from offset 0 first fs
    twice a b c = sym (opened ∙ simp (lt-ltb place 5 (omega arith), lt-ltb (8 * k) offset b, ne_eqb (get_or ds place 0) 0 c))

pub end : (offset : ℕ) (first fs ds : List ℕ) → Turn offset first fs ds (length fs) → based_from offset (length fs) ds [] ≡ based_from offset 0 first fs
end offset first fs ds t = sym (t ∙ ap (based_from offset (length fs) ds) (drop-length fs))

-- what field k names has the field's number
pub field : (fields k : ℕ) (t : Told) → k < 5 → t ≡ field_named fields k → get_or (fields_in fields) k 0 ≡ value_of t
field fields k t h e = sym (at_field fields k h) ∙ sym (number-told (number_at fields k)) ∙ ap value_of (sym e)

-- the registers are numbered from 1
pub numbered-from-1 : (r : RegisterNameX86_64) → 0 < number_of r
numbered-from-1 Rbx = omega arith
numbered-from-1 R12 = omega arith
numbered-from-1 R13 = omega arith
numbered-from-1 R14 = omega arith
numbered-from-1 R15 = omega arith
numbered-from-1 Rbp = omega arith
