-- x86_64: every word is sound or refused, the rule of a sound word is its frame, and its slots lie apart.
-- Assumes nothing.
use Prim.Native.Nat.{ℕ, ◌+◌, ◌-◌, ◌*◌, ◌≤◌}
use mathlib.Core.Path.{◌≡◌, refl, ap, sym, ◌∙◌}
use mathlib.Core.Logic.{◌⊎◌, inl, inr}
use mathlib.Core.Bool.{Bool, true, false}
use mathlib.Core.List.{List}
use native.Mathlib.Omega.{arith}
use native.Mathlib.Decide.{dec_le}
use borrow.Author.Tests.{le-leb, lt-leb}
use lib.ListN.{take}
use Rattle.opcodes.specs.Bits.{bits, kind_of}
use Rattle.opcodes.specs.WordsX86 as words
use Rattle.opcodes.specs.WordsX86.{Told, alone, parse_of}
use Rattle.opcodes.proofs.KindsX86.{of-kind, of-no-kind}
use Rattle.opcodes.proofs.Fields.{fields_in_lem}
use Rattle.permutation.specs.Permutation.{accepts, registers_of}
use Rattle.frame.specs.Frame.{Slot}
use Rattle.frame.specs.Calls.{All}
use Rattle.frame.specs.Pushes.{deep}
use Rattle.frame.proofs.Prologues.{Apart, Spread}
use Rattle.frame.proofs.Pushed as pushed
use Rattle.frame.proofs.Fielded as fielded
use Rattle.frame.proofs.Fielded.{Fields}
use Rattle.rules.specs.Answers.{Number, numbered, Ruling, ruling}
use Rattle.rules.specs.RulesX86 as rules
use Rattle.rules.specs.RulesX86.{refusal, fields_sound, based, by_word, rule_of}
use Rattle.rules.specs.SoundX86.{size_of, fields_of, count_of, FrameBased, Listed, Sound, frame_based, frameless, Refused, null, dwarf, unrecognised, permutation, unsound, small, indirect, frame_of}
use Rattle.rules.proofs.Pushing.{deep-eight}
use Rattle.rules.proofs.ListsX86.{list_of, list-named, accepted-lists, lists-accepted, taken}
use Rattle.rules.proofs.FieldsX86.{first, sound-passes, sound-tested, tested-sound, passes-fields}
use Rattle.rules.proofs.SaysX86 as says
use Rattle.rules.proofs.SaysX86.{Said, said, rule_of_told}

-- the rule of a word that parses so
ruled : (w : ℕ) (t : Told) → parse_of w ≡ t → rule_of w ≡ by_word (count_of w) t.word t.saved
ruled w t p = sym (rule_of_told w t (sym p))

based-rule : (w : ℕ) → kind_of w ≡ 1 → rule_of w ≡ based (size_of w) (fields_of w)
based-rule w k = ruled w (alone (words.frame_based (size_of w) (bits 0 15 w))) (of-kind 1 w k) ∙ ap (based (size_of w)) (fields_in_lem w)

-- of a frameless word that lists xs
module _ (w : ℕ) (xs : List ℕ) (l : Listed w xs) where
  abbrev list : (words.Word) → Told
  list x = record { word = x; saved = registers_of (count_of w) (bits 0 10 w) }

  in_list : take (count_of w) (registers_of (count_of w) (bits 0 10 w)) ≡ xs
  in_list = let a = lists-accepted w xs l in taken w a.0 ∙ a.1

  immediate-rule : kind_of w ≡ 2 → rule_of w ≡ rules.frameless (size_of w) xs
  immediate-rule k =
      ruled w (list (words.frameless_immediate (size_of w))) (says.lists w (words.frameless_immediate (size_of w)) (of-kind 2 w k) (lists-accepted w xs l).0)
      ∙ ap (rules.frameless (size_of w)) in_list

  indirect-rule : kind_of w ≡ 3 → rule_of w ≡ refusal (numbered 25 0)
  indirect-rule k =
      let x : words.Word = words.frameless_indirect (bits 16 8 w) (8 * bits 13 3 w) in
      ruled w (list x) (says.lists w x (of-kind 3 w k) (lists-accepted w xs l).0)

-- The rule of a sound word is its frame.
pub sound-rule : (w : ℕ) (s : Sound w) → rule_of w ≡ ruling 6 (frame_of w s)
sound-rule w (frame_based k s) = based-rule w k ∙ simp (sound-tested w s)
sound-rule w (frameless xs k l r) = immediate-rule w xs l k ∙ simp (l.many, le-leb (8 + 8 * count_of w) (size_of w) r)

no-list : (w : ℕ) → ((xs : List ℕ) → Listed w xs → ⊥) → accepts (count_of w) (bits 0 10 w) ≡ false
no-list w n = go (accepts (count_of w) (bits 0 10 w)) refl
  where
    go : (b : Bool) → accepts (count_of w) (bits 0 10 w) ≡ b → b ≡ false
    go true a = absurd (n (list_of w) (accepted-lists w a))
    go false a = refl

not_tested : (w : ℕ) → (FrameBased w → ⊥) → fields_sound (size_of w) 0 (fields_of w) ≡ false
not_tested w n = go (fields_sound (size_of w) 0 (fields_of w)) refl
  where
    go : (b : Bool) → fields_sound (size_of w) 0 (fields_of w) ≡ b → b ≡ false
    go true t = absurd (n (tested-sound w t))
    go false t = refl

-- The rule of any other word is its refusal.
pub refused-rule : (w : ℕ) (n : Number) → Refused w n → rule_of w ≡ refusal n
refused-rule w n (null k) = ruled w _ (of-kind 0 w k)
refused-rule w n (dwarf k) = ruled w _ (of-kind 4 w k)
refused-rule w n (unrecognised h) =
    ruled w _ (of-no-kind (kind_of w) w refl (λ z. omega arith) (λ z. omega arith) (λ z. omega arith) (λ z. omega arith) (λ z. omega arith))
refused-rule w n (permutation (inl k) f) = ruled w _ (says.lists-not w _ (of-kind 2 w k) (no-list w f))
refused-rule w n (permutation (inr k) f) = ruled w _ (says.lists-not w _ (of-kind 3 w k) (no-list w f))
refused-rule w n (unsound k f) = based-rule w k ∙ simp (not_tested w f)
refused-rule w n (small xs k l h) = immediate-rule w xs l k ∙ simp (l.many, lt-leb (8 + 8 * count_of w) (size_of w) h)
refused-rule w n (indirect xs k l) = indirect-rule w xs l k

-- Every word is the one or the other,
pub sound-or-refused : (w : ℕ) → Sound w ⊎ ((n : Number) × Refused w n)
sound-or-refused w = go (said w)
  where
    go : Said w → Sound w ⊎ ((n : Number) × Refused w n)
    go (says.null k p) = inr (numbered 20 0, null k)
    go (says.based k p) = by-fields (fields_sound (size_of w) 0 (fields_of w)) refl
      where
        by-fields : (b : Bool) → fields_sound (size_of w) 0 (fields_of w) ≡ b → Sound w ⊎ ((n : Number) × Refused w n)
        by-fields true t = inl (frame_based k (tested-sound w t))
        by-fields false t = inr (
          numbered 24 0,
          unsound k (λ s.
              let z : ◌≡◌ {A = Bool} true false = sym (sound-tested w s) ∙ t in let y : ◌≡◌ {A = ℕ} 0 1 = cc in omega arith),
        )
    go (says.immediate k a p) = by-room (dec_le (8 + 8 * count_of w) (size_of w))
      where
        by-room : Dec (8 + 8 * count_of w ≤ size_of w) → Sound w ⊎ ((n : Number) × Refused w n)
        by-room (yes h) = inl (frameless (list_of w) k (accepted-lists w a) h)
        by-room (no h) = inr (numbered 24 0, small (list_of w) k (accepted-lists w a) (omega arith))
    go (says.indirect k a p) = inr (numbered 25 0, indirect (list_of w) k (accepted-lists w a))
    go (says.invalid k a p) = inr (
      numbered 23 0,
      permutation k (λ xs l.
          let z : ◌≡◌ {A = Bool} true false = sym (lists-accepted w xs l).0 ∙ a in let y : ◌≡◌ {A = ℕ} 0 1 = cc in omega arith),
    )
    go (says.dwarf k p) = inr (numbered 21 (bits 0 24 w), dwarf k)
    go (says.unrecognised h p) = inr (numbered 22 (kind_of w), unrecognised h)

pub refused-number : (w : ℕ) (n : Number) → Refused w n → (20 ≤ n.number) × (n.number ≤ 25)
refused-number w n (null k) = (omega arith, omega arith)
refused-number w n (dwarf k) = (omega arith, omega arith)
refused-number w n (unrecognised h) = (omega arith, omega arith)
refused-number w n (permutation k f) = (omega arith, omega arith)
refused-number w n (unsound k f) = (omega arith, omega arith)
refused-number w n (small xs k l h) = (omega arith, omega arith)
refused-number w n (indirect xs k l) = (omega arith, omega arith)

-- never both; so a word is refused exactly if it isn't sound, and with the number that docs/FORMAT.md, 10.1, gives.
pub never_both : (w : ℕ) (n : Number) → Sound w → Refused w n → ⊥
never_both w n s f =
    let z : 0 ≡ n.number = ap (λ (u : Ruling). u.refusal.number) (sym (sound-rule w s) ∙ refused-rule w n f) in
    omega (arith, z, (refused-number w n f).0)

-- the size has room for what is pushed
pub room : (w : ℕ) (xs : List ℕ) → Listed w xs → 8 + 8 * count_of w ≤ size_of w → deep 8 xs ≤ size_of w
room w xs l r = omega (arith, deep-eight xs, l.many)

pub based-fields : (w : ℕ) → FrameBased w → Fields 8 5 (16 + size_of w) (fields_of w)
based-fields w s =
    let e : 16 + size_of w - 8 * 0 ≡ 16 + size_of w = omega arith in
    rw e at (passes-fields (bits 16 8 w) 0 first (fields_of w) (sound-passes w s))

-- Slots of a sound word lie apart, from one another and from the return address's.
pub apart : (w : ℕ) (s : Sound w) → Spread 8 (frame_of w s).saved × All (λ (t : Slot). Apart 8 8 8 t.below) (frame_of w s).saved
apart w (frame_based k s) = (fielded.spread 8 5 (size_of w) (fields_of w) (based-fields w s), fielded.off-return 8 5 (size_of w) (fields_of w) (based-fields w s))
apart w (frameless xs k l r) = (pushed.spread 8 6 xs (list-named w xs l), pushed.off-return 8 6 xs (list-named w xs l))
