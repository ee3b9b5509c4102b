-- What parsing tells of an x86_64 word, case by case.
-- Assumes nothing.
use Prim.Native.Nat.{ℕ, zero, suc, ◌*◌, ◌<◌, ◌≤◌}
use mathlib.Core.Path.{◌≡◌, refl, ap, sym, ◌∙◌, subst}
use mathlib.Core.Logic.{◌⊎◌, inl, inr}
use mathlib.Core.Bool.{Bool, true, false}
use mathlib.Core.List.{List}
use native.Mathlib.Omega.{arith}
use lib.ListN.{length, take}
use Rattle.opcodes.specs.Bits.{bits, kind_of, specific_of}
use Rattle.opcodes.specs.WordsX86 as words
use Rattle.opcodes.specs.WordsX86.{Told, alone, listing, parse_of}
use Rattle.opcodes.proofs.KindsX86.{of-kind, of-no-kind}
use Rattle.permutation.specs.Permutation.{accepts, registers_of}
use Rattle.permutation.proofs.Laws.{below-accepted, decode-accepts, decode-refuses}
use Rattle.frame.specs.Pushes.{Named}
use Rattle.rules.specs.RulesX86.{by_word, rule_of}
use Rattle.rules.specs.SoundX86.{size_of, count_of}
use Rattle.rules.proofs.ListsX86.{accepted-lists, list-named, list_of, taken}

pub data Said (w : ℕ) : Type 0 where
  null : kind_of w ≡ 0 → parse_of w ≡ alone words.null → Said w
  based : kind_of w ≡ 1 → parse_of w ≡ alone (words.frame_based (size_of w) (bits 0 15 w)) → Said w
  immediate : kind_of w ≡ 2 → accepts (count_of w) (bits 0 10 w) ≡ true
      → parse_of w ≡ record { word = words.frameless_immediate (size_of w); saved = registers_of (count_of w) (bits 0 10 w) } → Said w
  indirect : kind_of w ≡ 3 → accepts (count_of w) (bits 0 10 w) ≡ true
      → parse_of w ≡ record { word = words.frameless_indirect (bits 16 8 w) (8 * bits 13 3 w); saved = registers_of (count_of w) (bits 0 10 w) } → Said w
  invalid : (kind_of w ≡ 2) ⊎ (kind_of w ≡ 3) → accepts (count_of w) (bits 0 10 w) ≡ false → parse_of w ≡ alone words.invalid_frameless → Said w
  dwarf : kind_of w ≡ 4 → parse_of w ≡ alone (words.dwarf (specific_of w)) → Said w
  unrecognised : 4 < kind_of w → parse_of w ≡ alone (words.unrecognized (kind_of w)) → Said w

module _ (w : ℕ) (x : words.Word) (p : parse_of w ≡ words.frameless x w) where
  pub lists : accepts (count_of w) (bits 0 10 w) ≡ true → parse_of w ≡ record { word = x; saved = registers_of (count_of w) (bits 0 10 w) }
  lists a = p ∙ ap (listing x) (decode-accepts (count_of w) (bits 0 10 w) (below-accepted (count_of w) (bits 0 10 w) a))

  pub lists-not : accepts (count_of w) (bits 0 10 w) ≡ false → parse_of w ≡ alone words.invalid_frameless
  lists-not a = p ∙ ap (listing x) (decode-refuses (count_of w) (bits 0 10 w) a)

pub said : (w : ℕ) → Said w
said w = go (kind_of w) refl (accepts (count_of w) (bits 0 10 w)) refl
  where
    go : (k : ℕ) → kind_of w ≡ k → (b : Bool) → accepts (count_of w) (bits 0 10 w) ≡ b → Said w
    go zero e b a = null e (of-kind 0 w e)
    go (suc zero) e b a = based e (of-kind 1 w e)
    go (suc (suc zero)) e true a = immediate e a (lists w (words.frameless_immediate (size_of w)) (of-kind 2 w e) a)
    go (suc (suc zero)) e false a = invalid (inl e) a (lists-not w (words.frameless_immediate (size_of w)) (of-kind 2 w e) a)
    go (suc (suc (suc zero))) e true a = indirect e a (lists w (words.frameless_indirect (bits 16 8 w) (8 * bits 13 3 w)) (of-kind 3 w e) a)
    go (suc (suc (suc zero))) e false a =
        invalid (inr e) a (lists-not w (words.frameless_indirect (bits 16 8 w) (8 * bits 13 3 w)) (of-kind 3 w e) a)
    go (suc (suc (suc (suc zero)))) e b a = dwarf e (of-kind 4 w e)
    go (suc (suc (suc (suc (suc k))))) e b a =
        unrecognised (omega arith)
        (of-no-kind (kind_of w) w refl (λ z. omega arith) (λ z. omega arith) (λ z. omega arith) (λ z. omega arith) (λ z. omega arith))

-- What a frame's numbers are known to be: the offset is small, and the list has as many registers as are counted.
abbrev pub Fits : ℕ → words.Word → List ℕ → Type 0
Fits n words.null saved = Unit {0}
Fits n (words.frame_based offset fields) saved = offset ≤ 2040
Fits n (words.frameless_immediate size) saved = (n ≤ 6) × (length (take n saved) ≡ n) × Named 6 (take n saved)
Fits n (words.frameless_indirect place adjust) saved = Unit {0}
Fits n (words.dwarf low24) saved = Unit {0}
Fits n words.invalid_frameless saved = Unit {0}
Fits n (words.unrecognized kind) saved = Unit {0}

pub fit : (w : ℕ) → Fits (count_of w) (parse_of w).word (parse_of w).saved
fit w = go (said w)
  where
    go : Said w → Fits (count_of w) (parse_of w).word (parse_of w).saved
    go (null k p) = rw p tt
    go (based k p) = rw p (omega arith)
    go (immediate k a p) = let l = accepted-lists w a in rw (p, taken w a) (l.few, l.many, list-named w (list_of w) l)
    go (indirect k a p) = rw p tt
    go (invalid k a p) = rw p tt
    go (dwarf k p) = rw p tt
    go (unrecognised k p) = rw p tt

-- the rule goes by what parsing tells
pub rule_of_told : (w : ℕ) (t : Told) → t ≡ parse_of w → by_word (count_of w) t.word t.saved ≡ rule_of w
unfolding rule_of
rule_of_told w t e = ap (λ (u : Told). by_word (count_of w) u.word u.saved) e

pub fit_told : (w : ℕ) (t : Told) → t ≡ parse_of w → Fits (count_of w) t.word t.saved
fit_told w t e = subst (λ (u : Told). Fits (count_of w) u.word u.saved) (sym e) (fit w)
