-- What a word of x86_64 says, in numbers: as the code picks them by the kind, and back to the case.
-- Assumes nothing.
use Prim.Native.Nat.{ℕ, zero, suc, ◌*◌, ◌/◌, ◌%◌, ◌<◌, ◌≤◌}
use mathlib.Core.Path.{◌≡◌, refl, ap, sym, ◌∙◌}
use mathlib.Core.Bool.{cond}
use mathlib.Core.List.{List}
use native.Mathlib.Omega.{arith}
use lib.Dec.{eqb}
use borrow.Author.Tests.{ne_eqb}
use lib.ListN.{replicate}
use Rattle.permutation.specs.Permutation as permutation
use Rattle.opcodes.specs.Bits.{bits, kind_of, specific_of}
use Rattle.opcodes.specs.WordsX86.{Word, null, frame_based, frameless_immediate, frameless_indirect, dwarf, invalid_frameless, unrecognized, Told, beside, alone, listing, parse_of, numbers, numbers_of}
use Rattle.opcodes.specs.declared.words_x86_64.WordX86_64.{WordX86_64}
use Rattle.opcodes.proofs.KindsX86.{of-kind, of-no-kind}

-- kinds 0, 1 and 4
abbrev value_of : ℕ → ℕ → ℕ
value_of k w = cond (eqb k 1) (8 * bits 16 8 w) (cond (eqb k 4) (specific_of w) 0)

abbrev fields_of : ℕ → ℕ → ℕ
fields_of k w = cond (eqb k 1) (bits 0 15 w) 0

of_values : (k w : ℕ) → kind_of w ≡ k → k ≤ 4 → (k / 2 ≡ 1 → ⊥) → numbers k (value_of k w) 0 (fields_of k w) (replicate 6 0) ≡ numbers_of (parse_of w)
of_values zero w e h n = sym (ap numbers_of (of-kind 0 w e))
of_values (suc zero) w e h n = sym (ap numbers_of (of-kind 1 w e))
of_values (suc (suc zero)) w e h n = absurd (n refl)
of_values (suc (suc (suc zero))) w e h n = absurd (n refl)
of_values (suc (suc (suc (suc zero)))) w e h n = sym (ap numbers_of (of-kind 4 w e))
of_values (suc (suc (suc (suc (suc k))))) w e h n = absurd (omega arith)

pub plain : (k w v f : ℕ) → kind_of w ≡ k → k ≤ 4 → (k / 2 ≡ 1 → ⊥) → v ≡ value_of k w → f ≡ fields_of k w
    → numbers k v 0 f (replicate 6 0) ≡ numbers_of (parse_of w)
plain k w v f e h n p q =
    ap {B = WordX86_64} (λ (u : ℕ). numbers k u 0 f (replicate 6 0)) p
    ∙ ap {B = WordX86_64} (λ (g : ℕ). numbers k (value_of k w) 0 g (replicate 6 0)) q ∙ of_values k w e h n

-- kinds from 5 on
pub no_kind : (k w : ℕ) → kind_of w ≡ k → 4 < k → numbers 6 k 0 0 (replicate 6 0) ≡ numbers_of (parse_of w)
no_kind k w e h = sym (ap numbers_of (of-no-kind k w e (λ z. omega arith) (λ z. omega arith) (λ z. omega arith) (λ z. omega arith) (λ z. omega arith)))

-- kinds 2 and 3, by what the decoder told: bit 24 tells which
module _ (w : ℕ) (h : kind_of w / 2 ≡ 1) where
  abbrev decoded : permutation.Told
  decoded = permutation.decode_of (bits 10 3 w) (bits 0 10 w)

  pub invalid : (why : ℕ) (rs : List ℕ) → permutation.Told.refused why rs ≡ decoded → numbers 5 0 0 0 (replicate 6 0) ≡ numbers_of (parse_of w)
  invalid why rs t = go (kind_of w) refl h
    where
      go : (k : ℕ) → kind_of w ≡ k → k / 2 ≡ 1 → numbers 5 0 0 0 (replicate 6 0) ≡ numbers_of (parse_of w)
      go zero e h = absurd (omega arith)
      go (suc zero) e h = absurd (omega arith)
      go (suc (suc zero)) e h = ap numbers_of (ap (listing (frameless_immediate (8 * bits 16 8 w))) t ∙ sym (of-kind 2 w e))
      go (suc (suc (suc zero))) e h = ap numbers_of (ap (listing (frameless_indirect (bits 16 8 w) (8 * bits 13 3 w))) t ∙ sym (of-kind 3 w e))
      go (suc (suc (suc (suc k)))) e h = absurd (omega arith)

  pub immediate : (rs : List ℕ) → permutation.accepted rs ≡ decoded → w / 0x1000000 % 2 ≡ 0 → numbers 2 (8 * bits 16 8 w) 0 0 rs ≡ numbers_of (parse_of w)
  immediate rs t b = ap numbers_of (ap (listing (frameless_immediate (8 * bits 16 8 w))) t ∙ sym (of-kind 2 w (omega (arith, h, b))))

  pub indirect : (rs : List ℕ) → permutation.accepted rs ≡ decoded → (w / 0x1000000 % 2 ≡ 0 → ⊥)
      → numbers 3 (bits 16 8 w) (8 * bits 13 3 w) 0 rs ≡ numbers_of (parse_of w)
  indirect rs t b = ap numbers_of (ap (listing (frameless_indirect (bits 16 8 w) (8 * bits 13 3 w))) t ∙ sym (of-kind 3 w (omega (arith, h, b))))

-- The case that has these numbers, as the code makes it: it cuts each number to its type.
abbrev pub case_of : ℕ → WordX86_64 → Told
case_of a n =
    cond (eqb a 0) (alone null)
    (cond (eqb a 1) (alone (frame_based (n.value % 65536) n.fields))
    (cond (eqb a 2) (beside (frameless_immediate (n.value % 65536)) n.saved_regs)
    (cond (eqb a 3) (beside (frameless_indirect (n.value % 256) n.stack_adjust_in_bytes) n.saved_regs)
    (cond (eqb a 4) (alone (dwarf n.value))
    (cond (eqb a 5) (alone invalid_frameless)
    (alone (unrecognized (n.value % 256))))))))

abbrev back : WordX86_64 → Told
back n = case_of n.answer n

list_back : (x : Word) (t : permutation.Told) → ((rs : List ℕ) → back (numbers_of (beside x rs)) ≡ beside x rs) → back (numbers_of (listing x t)) ≡ listing x t
list_back x (permutation.accepted rs) h = h rs
list_back x (permutation.Told.refused k rs) h = refl

-- a word's numbers give back what it says
numbers-back : (w : ℕ) → back (numbers_of (parse_of w)) ≡ parse_of w
numbers-back w = go (kind_of w) refl
  where
    eights : 8 * bits 16 8 w % 65536 ≡ 8 * bits 16 8 w
    eights = omega arith

    byte : bits 16 8 w % 256 ≡ bits 16 8 w
    byte = omega arith

    go : (k : ℕ) → kind_of w ≡ k → back (numbers_of (parse_of w)) ≡ parse_of w
    go zero e = rw (of-kind 0 w e) refl
    go (suc zero) e = rw (of-kind 1 w e, eights) refl
    go (suc (suc zero)) e = ap (λ (t : Told). back (numbers_of t)) (of-kind 2 w e) ∙ list_back (frameless_immediate (8 * bits 16 8 w)) (permutation.decode_of (bits 10 3 w) (bits 0 10 w)) (λ rs. rw eights refl) ∙ sym (of-kind 2 w e)
    go (suc (suc (suc zero))) e = ap (λ (t : Told). back (numbers_of t)) (of-kind 3 w e) ∙ list_back (frameless_indirect (bits 16 8 w) (8 * bits 13 3 w)) (permutation.decode_of (bits 10 3 w) (bits 0 10 w)) (λ rs. rw byte refl) ∙ sym (of-kind 3 w e)
    go (suc (suc (suc (suc zero)))) e = rw (of-kind 4 w e) refl
    go (suc (suc (suc (suc (suc k))))) e =
        let small : suc (suc (suc (suc (suc k)))) % 256 ≡ suc (suc (suc (suc (suc k)))) = omega (arith, e) in
        rw (of-no-kind _ w e (λ z. omega arith) (λ z. omega arith) (λ z. omega arith) (λ z. omega arith) (λ z. omega arith), small) refl

-- as the code has it: the numbers, and which case they are
pub said : (w a : ℕ) (n : WordX86_64) → n ≡ numbers_of (parse_of w) → n.answer ≡ a → case_of a n ≡ parse_of w
said w a n e q = ap (λ (b : ℕ). case_of b n) (sym q) ∙ ap back e ∙ numbers-back w

pub said-last : (w : ℕ) (n : WordX86_64) → n ≡ numbers_of (parse_of w) → 5 < n.answer → alone (unrecognized (n.value % 256)) ≡ parse_of w
said-last w n e h = other ∙ said w n.answer n e refl
  where
    other : alone (unrecognized (n.value % 256)) ≡ case_of n.answer n
    other = simp (ne_eqb n.answer 0 (omega arith), ne_eqb n.answer 1 (omega arith), ne_eqb n.answer 2 (omega arith), ne_eqb n.answer 3 (omega arith), ne_eqb n.answer 4 (omega arith), ne_eqb n.answer 5 (omega arith))
