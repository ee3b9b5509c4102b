-- What a word of arm64 says, in numbers: as the code picks them by the kind, and back to the case. The pairs of a frame-based word, as bits, are the
-- word's own: the nine masks of Apple's header file read them.
-- Assumes nothing.
use Prim.Native.Nat.{ℕ, zero, suc, ◌+◌, ◌*◌, ◌/◌, ◌%◌, ◌^◌, ◌<◌}
use mathlib.Core.Path.{◌≡◌, refl, ap, sym, ◌∙◌}
use mathlib.Core.Bool.{Bool, cond}
use mathlib.Core.List.{List, [], ◌∷◌}
use native.Mathlib.Nat.{div-one, mod-one}
use native.Mathlib.Omega.{arith}
use lib.Bits.{bit_and, and_mask, and_shr, and_mod}
use lib.Pow.{mod-mod-pow}
use lib.Count as count
use lib.Dec.{eqb}
use borrow.Author.Tests.{ne_eqb}
use Rattle.opcodes.specs.Bits.{bits, bit, kind_of, specific_of}
use Rattle.opcodes.specs.WordsArm64.{Word, null, frameless, dwarf, frame_based, unrecognized, pairs, ones, parse_of, number, in_place, numbers, in_numbers}
use Rattle.opcodes.specs.declared.words_arm64.«WordArm64».{«WordArm64»}
use Rattle.opcodes.proofs.FieldBits.{bits_from, digit, bit_is}
use Rattle.opcodes.proofs.KindsArm64.{of-kind, of-no-kind, under-mask, pairs-counted}

spelled : (n i w : ℕ) → number (bits_from i n w) ≡ bits i n w
spelled zero i w = sym (mod-one (w / 2 ^ i))
spelled (suc n) i w = rw (bit_is i w, spelled n (suc i) w) (sym (digit n i w))

in_place_lem : (w : ℕ) → number (in_place (pairs w)) ≡ bit_and w 0xF1F
in_place_lem w =
    let apart : number (in_place (pairs w)) ≡ number (bits_from 8 4 w) * 2 ^ 8 + number (bits_from 0 5 w) = omega arith in
    apart ∙ rw (spelled 4 8 w, spelled 5 0 w) refl ∙ sym (under-mask w)

-- 0xF1F is the sum of the masks
pub saved-in-place : (w : ℕ) → kind_of w ≡ 4 → (in_numbers (parse_of w)).saved_pairs ≡ bit_and w 0xF1F
saved-in-place w k = ap (λ (t : Word). (in_numbers t).saved_pairs) (of-kind 4 w k) ∙ in_place_lem w

-- so of a word with five pairs, and with all bits that name none
pub five-in-place : (in_numbers (parse_of 0xF4FFF6ED)).saved_pairs ≡ 0x60D
five-in-place = saved-in-place 0xF4FFF6ED refl

-- a frame-based word
pub based : (w : ℕ) → kind_of w ≡ 4 → numbers 3 0 (count.ones (bit_and w 0xF1F)) (bit_and w 0xF1F) ≡ in_numbers (parse_of w)
based w k =
    ap {B = «WordArm64»} (λ (n : ℕ). numbers 3 0 n (bit_and w 0xF1F)) (pairs-counted w)
    ∙ ap {B = «WordArm64»} (λ (n : ℕ). numbers 3 0 (ones (pairs w)) n) (sym (in_place_lem w)) ∙ sym (ap in_numbers (of-kind 4 w k))

-- the other kinds
abbrev pub answer_of : ℕ → ℕ
answer_of k = cond (eqb k 0) 0 (cond (eqb k 2) 1 (cond (eqb k 3) 2 4))

abbrev pub value_of : ℕ → ℕ → ℕ
value_of k w = cond (eqb k 2) (16 * bits 12 12 w) (cond (eqb k 3) (specific_of w) k)

other : (k w : ℕ) → kind_of w ≡ k → (k ≡ 4 → ⊥) → numbers (answer_of k) (value_of k w) 0 0 ≡ in_numbers (parse_of w)
other zero w e n = sym (ap in_numbers (of-kind 0 w e))
other (suc zero) w e n = sym (ap in_numbers (of-kind 1 w e))
other (suc (suc zero)) w e n = sym (ap in_numbers (of-kind 2 w e))
other (suc (suc (suc zero))) w e n = sym (ap in_numbers (of-kind 3 w e))
other (suc (suc (suc (suc m)))) w e n =
    let k : ℕ = suc (suc (suc (suc m))) in
    let n0 : k ≡ 0 → ⊥ = λ z. omega arith in
    let n2 : k ≡ 2 → ⊥ = λ z. omega arith in
    let n3 : k ≡ 3 → ⊥ = λ z. omega arith in
    simp (ne_eqb k 0 n0, ne_eqb k 2 n2, ne_eqb k 3 n3, of-no-kind k w e n0 n2 n3 n)

pub not-based : (k w a v : ℕ) → kind_of w ≡ k → (k ≡ 4 → ⊥) → a ≡ answer_of k → v ≡ value_of k w → numbers a v 0 0 ≡ in_numbers (parse_of w)
not-based k w a v e n q r =
    ap {B = «WordArm64»} (λ (x : ℕ). numbers x v 0 0) q ∙ ap {B = «WordArm64»} (λ (x : ℕ). numbers (answer_of k) x 0 0) r ∙ other k w e n

-- The case that has these numbers, as the code makes it: it cuts each number to its type.
abbrev pub bits_of : ℕ → List Bool
bits_of ps = eqb (ps % 2) 1 ∷ bit 1 ps ∷ bit 2 ps ∷ bit 3 ps ∷ bit 4 ps ∷ bit 8 ps ∷ bit 9 ps ∷ bit 10 ps ∷ bit 11 ps ∷ []

abbrev pub case_of : ℕ → «WordArm64» → Word
case_of a n =
    cond (eqb a 0) null
    (cond (eqb a 1) (frameless (n.value % 65536))
    (cond (eqb a 2) (dwarf n.value)
    (cond (eqb a 3) (frame_based n.saved_reg_pair_count (bits_of n.saved_pairs))
    (unrecognized (n.value % 256)))))

abbrev back : «WordArm64» → Word
back n = case_of n.answer n

-- the pairs are read from their bits again
again : (w : ℕ) → bits_of (bit_and w 0xF1F) ≡ pairs w
again w = simp (first, at 1 refl, at 2 refl, at 3 refl, at 4 refl, at 8 refl, at 9 refl, at 10 refl, at 11 refl)
  where
    at : (k : ℕ) → 0xF1F / 2 ^ k % 2 ≡ 1 → bits k 1 (bit_and w 0xF1F) ≡ bits k 1 w
    at k e =
        ap (λ (x : ℕ). x % 2) (and_shr w 0xF1F k) ∙ and_mod (w / 2 ^ k) (0xF1F / 2 ^ k) 1 ∙ rw e (and_mask (w / 2 ^ k % 2) 1)
        ∙ mod-mod-pow (w / 2 ^ k) 0 1

    first : bit_and w 0xF1F % 2 ≡ bits 0 1 w
    first = ap (λ (x : ℕ). x % 2) (sym (div-one (bit_and w 0xF1F))) ∙ at 0 refl

-- a word's numbers give back what it says
numbers-back : (w : ℕ) → back (in_numbers (parse_of w)) ≡ parse_of w
numbers-back w = go (kind_of w) refl
  where
    sixteens : 16 * bits 12 12 w % 65536 ≡ 16 * bits 12 12 w
    sixteens = omega arith

    go : (k : ℕ) → kind_of w ≡ k → back (in_numbers (parse_of w)) ≡ parse_of w
    go zero e = rw (of-kind 0 w e) refl
    go (suc zero) e = rw (of-kind 1 w e) refl
    go (suc (suc zero)) e = rw (of-kind 2 w e, sixteens) refl
    go (suc (suc (suc zero))) e = rw (of-kind 3 w e) refl
    go (suc (suc (suc (suc zero)))) e = ap (λ (t : Word). back (in_numbers t)) (of-kind 4 w e) ∙ ap (frame_based (ones (pairs w))) (ap bits_of (in_place_lem w) ∙ again w) ∙ sym (of-kind 4 w e)
    go (suc (suc (suc (suc (suc k))))) e =
        let small : suc (suc (suc (suc (suc k)))) % 256 ≡ suc (suc (suc (suc (suc k)))) = omega (arith, e) in
        rw (of-no-kind _ w e (λ z. omega arith) (λ z. omega arith) (λ z. omega arith) (λ z. omega arith), small) refl

-- as the code has it: the numbers, and which case they are
pub said : (w a : ℕ) (n : «WordArm64») → n ≡ in_numbers (parse_of w) → n.answer ≡ a → case_of a n ≡ parse_of w
said w a n e q = ap (λ (b : ℕ). case_of b n) (sym q) ∙ ap back e ∙ numbers-back w

pub said-last : (w : ℕ) (n : «WordArm64») → n ≡ in_numbers (parse_of w) → 3 < n.answer → unrecognized (n.value % 256) ≡ parse_of w
said-last w n e h = other ∙ said w n.answer n e refl
  where
    other : unrecognized (n.value % 256) ≡ case_of n.answer n
    other = simp (ne_eqb n.answer 0 (omega arith), ne_eqb n.answer 1 (omega arith), ne_eqb n.answer 2 (omega arith), ne_eqb n.answer 3 (omega arith))
