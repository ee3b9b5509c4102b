-- Numbers of a record: where they stand, one more that is read, and all of an answer's that are compared.
-- Assumes nothing.
use Rattle.std.proofs.Common.{◌≡◌, sym, ap, ◌∙◌, ℕ, suc, ◌+◌, ◌-◌, ◌*◌, ◌^◌, ◌<◌, Bool, ◌&&◌, ◌==◌, List, [], ◌∷◌, length, get_or, map, take, set, min, add-one, take-suc-set, arith, rules, zero-add, add-zero}
use Rattle.std.proofs.lemmas.Grind.{common_steps}
use Rattle.std.proofs.Math.Bool.{and_assoc}
use Rattle.std.specs.List.{list_all, enumerate_from}
use native.Mathlib.Decide.{dec_lt}
use Rattle.reader.specs.Reader.{word_at, or_zero}
use Rattle.reader.proofs.Laws.{refused}
use Rattle.records.specs.Records.{numbers_of, same_of}

-- past the end no number is granted, so the largest place of 64 bits stands for each that is larger
past : (w : ℕ) (s : List ℕ) (p : ℕ) → length s < p + w → word_at w s p ≡ 0
unfolding word_at
past w s p h = ap or_zero (refused w s p h)

pub saturated : (w : ℕ) (s : List ℕ) (p q : ℕ) → 0 < w → length s < 2 ^ 64 → q ≡ min p (2 ^ 64 - 1) → word_at w s q ≡ word_at w s p
saturated w s p q h t e = by-place (dec_lt p (2 ^ 64))
  where
    by-place : Dec (p < 2 ^ 64) → word_at w s q ≡ word_at w s p
    by-place (yes r) = let f : q ≡ p = omega arith in cc
    by-place (no r) = past w s q (omega arith) ∙ sym (past w s p (omega arith))

pub one_read : (s into : List ℕ) (k x : ℕ) → take k into ≡ numbers_of k s → x ≡ word_at 8 s (8 * k) → k < length into → take (k + 1) (set into k x) ≡ numbers_of (k + 1) s
unfolding numbers_of
one_read s into k x p q h = rw (add-one k, take-suc-set into k x h) (cc)

-- a number of an answer stands in the record at its place
abbrev pub stands : {A : Type 0} → (A → ℕ) → ℕ → List ℕ → ℕ × A → Bool
stands value w s (k, x) = value x == word_at w s (w * k)

-- each number of an answer stands at its place exactly where the answer is the recorded one: the first k do and, from the kth on, so do all
module _ {A : Type 0} (value : A → ℕ) (w : ℕ) (s : List ℕ) where
  along : (all : List ℕ) (rest : List A) (k : ℕ) → ((i : ℕ) → get_or (map value rest) i 0 ≡ get_or all (k + i) 0)
      → same_of w all s k && list_all (stands value w s) (enumerate_from k rest) ≡ same_of w all s (k + length rest)
  unfolding same_of
  along all [] k h = search (rules, common_steps)
  along all (x ∷ xs) k h =
      let here : value x ≡ get_or all k 0 = simp add-zero at (h 0) in
      let end : k + 1 + length xs ≡ k + suc (length xs) = omega arith in
      let next = along all xs (k + 1) (λ i. let e : k + 1 + i ≡ k + suc i = omega arith in cc (h (suc i))) in
      let one : same_of w all s (k + 1) ≡ same_of w all s k && stands value w s (k, x) = rw (add-one k) (cc) in
      cc (and_assoc (same_of w all s k) (stands value w s (k, x)) (list_all (stands value w s) (enumerate_from (k + 1) xs)))

  pub all_stand : (ours : List A) → list_all (stands value w s) (enumerate_from 0 ours) ≡ same_of w (map value ours) s (length ours)
  unfolding same_of
  all_stand ours = simp zero-add at (along (map value ours) ours 0 (λ i. simp zero-add))
