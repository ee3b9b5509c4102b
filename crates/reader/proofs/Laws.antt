-- Reading, over the width: a number is its low bytes and, above them, its high bytes; a read is granted or refused; a part of the
-- bytes reads as the whole further on.
-- Assumes nothing.
use Prim.Native.Nat.{ℕ, zero, suc, ◌+◌, ◌-◌, ◌*◌, ◌^◌, ◌≤◌, ◌<◌}
use mathlib.Core.Path.{◌≡◌, refl, ap, sym, ◌∙◌}
use mathlib.Core.Bool.{Bool, true, false, cond}
use mathlib.Core.List.{List, [], ◌∷◌}
use native.Mathlib.Nat.{le_refl, add-sub_cancel_left, zero-add, add-zero, suc-add, add-suc, one-mul, mul_assoc, pow-suc, mul_comm}
use native.Mathlib.Omega.{arith}
use native.Mathlib.Decide.{dec_le}
use borrow.Author.Tests.{le-leb, lt-leb, leb-true, leb-false}
use native.Mathlib.Decide.{dec_lt}
use native.Mathlib.Numerals.{unary_clauses}
use Rattle.std.specs.Int.{w16, w32, w64, from_le_bytes}
use lib.Dec.{leb}
use lib.ListN.{length, get_or, take, drop, length-drop, length-take, drop_of_length-le, get_or-eq_default}
use lib.Seq.{get_or-drop, get_or-take, take_all, take-nil, length-take-le, drop-drop}
use Rattle.std.specs.Prelude.{Some, None}
use Rattle.reader.specs.Reader.{number_at, granted_of, read_of, or_zero, word_at, part_of, Slice, slice, further, part_in, Bytes}

regroup : (a x p y : ℕ) → a + 256 * (x + p * y) ≡ a + 256 * x + p * 256 * y
regroup a x p y = omega (arith, ap (λ (k : ℕ). k * y) (mul_comm p 256) ∙ mul_assoc 256 p y)

-- slices that are one have the same bytes
pub bytes_of : {x y : Slice} → x ≡ y → x.bytes ≡ y.bytes
bytes_of e = ap (λ (x : Slice). x.bytes) e

-- a number of m + n bytes is its m low bytes and, above them, its n high bytes
pub split : (m n : ℕ) (s : List ℕ) (o : ℕ) → number_at (m + n) s o ≡ number_at m s o + 256 ^ m * number_at n s (o + m)
unfolding number_at
split zero n s o = simp (zero-add, one-mul, add-zero)
split (suc m) n s o =
    simp (suc-add, split m n s (suc o), add-suc, pow-suc)
    (regroup (get_or s o 0) (number_at m s (suc o)) (256 ^ m) (number_at n s (suc (o + m))))

-- the bytes one by one make the number
pub two_bytes : (s : List ℕ) (o : ℕ) → from_le_bytes w16 (get_or s o 0 ∷ get_or s (o + 1) 0 ∷ []) ≡ number_at 2 s o
unfolding number_at
two_bytes s o = simp unary_clauses (omega arith)

pub four_bytes : (s : List ℕ) (o : ℕ) → from_le_bytes w32 (get_or s o 0 ∷ get_or s (o + 1) 0 ∷ get_or s (o + 2) 0 ∷ get_or s (o + 3) 0 ∷ []) ≡ number_at 4 s o
unfolding number_at
four_bytes s o = simp unary_clauses (omega arith)

pub eight_bytes : (s : List ℕ) (o : ℕ)
    → from_le_bytes w64 (get_or s o 0 ∷ get_or s (o + 1) 0 ∷ get_or s (o + 2) 0 ∷ get_or s (o + 3) 0 ∷ get_or s (o + 4) 0 ∷ get_or s (o + 5) 0 ∷ get_or s (o + 6) 0 ∷ get_or s (o + 7) 0 ∷ []) ≡ number_at 8 s o
unfolding number_at
eight_bytes s o = simp unary_clauses (omega arith)

-- a number of n bytes is below 256 to the n
pub bounded : (s : List ℕ) → Bytes s → (n o : ℕ) → number_at n s o < 256 ^ n
unfolding number_at
bounded s b zero o = omega arith
bounded s b (suc n) o = simp pow-suc (omega (arith, b o, bounded s b n (suc o)))

module _ (n : ℕ) (s : List ℕ) (o : ℕ) where
  -- the test and the sum that it stands for
  pub fits : granted_of n s o ≡ true → o + n ≤ length s
  unfolding granted_of
  fits e = leb-true (o + n) (length s) e

  pub fits_not : granted_of n s o ≡ false → length s < o + n
  unfolding granted_of
  fits_not e = leb-false (o + n) (length s) e

  -- a read is granted exactly if its bytes lie in the list
  pub granted : o + n ≤ length s → read_of n s o ≡ Some (number_at n s o)
  unfolding read_of granted_of
  granted h = simp (le-leb _ _ h)

  pub refused : length s < o + n → read_of n s o ≡ None
  unfolding read_of granted_of
  refused h = simp (lt-leb _ _ h)

-- what a read answered says whether it was granted
module _ (n : ℕ) (s : List ℕ) (o : ℕ) where
  pub grants : o + n ≤ length s → granted_of n s o ≡ true
  unfolding granted_of
  grants h = le-leb _ _ h

  pub was-word : (x : ℕ) → read_of n s o ≡ Some x → word_at n s o ≡ x
  unfolding word_at
  was-word x e = ap or_zero e

  pub was_granted : (x : ℕ) → read_of n s o ≡ Some x → granted_of n s o ≡ true
  unfolding read_of
  was_granted x e = by-test (granted_of n s o) refl e
    where
      by-test : (b : Bool) → granted_of n s o ≡ b → cond b (Some (number_at n s o)) None ≡ Some x → granted_of n s o ≡ true
      by-test true q r = q
      by-test false q r = cc

  pub was-refused : read_of n s o ≡ None → granted_of n s o ≡ false
  unfolding read_of
  was-refused e = by-test (granted_of n s o) refl e
    where
      by-test : (b : Bool) → granted_of n s o ≡ b → cond b (Some (number_at n s o)) None ≡ None → granted_of n s o ≡ false
      by-test true q r = cc
      by-test false q r = q

-- a part that starts at p: what is read in it is read in the whole, p further on
pub part : (n p : ℕ) (s : List ℕ) (o : ℕ) → number_at n (drop p s) o ≡ number_at n s (p + o)
unfolding number_at
part zero p s o = refl
part (suc n) p s o = simp (get_or-drop, part n p s (suc o), add-suc)

pub read-part : (n p : ℕ) (s : List ℕ) (o : ℕ) → p ≤ length s → read_of n (drop p s) o ≡ read_of n s (p + o)
read-part n p s o h = by-room (dec_le (p + o + n) (length s))
  where
    by-room : Dec (p + o + n ≤ length s) → read_of n (drop p s) o ≡ read_of n s (p + o)
    by-room (yes r) = granted n (drop p s) o (simp length-drop (omega arith)) ∙ ap Some (part n p s o) ∙ sym (granted n s (p + o) r)
    by-room (no r) = refused n (drop p s) o (simp length-drop (omega arith)) ∙ sym (refused n s (p + o) (omega arith))

-- `&s[p..]`, as a callee's contract has it
pub tail : (p : ℕ) (s : List ℕ) → take (length s - p) (drop p s) ≡ drop p s
tail p s = take_all (length s - p) (drop p s) (simp length-drop (le_refl _))

pub read-tail : (n p : ℕ) (s : List ℕ) (o : ℕ) → p ≤ length s → read_of n (take (length s - p) (drop p s)) o ≡ read_of n s (p + o)
read-tail n p s o h = ap (λ (l : List ℕ). read_of n l o) (tail p s) ∙ read-part n p s o h

-- the number there, where it is granted; it is below 256 to the n either way
pub there : (n : ℕ) (s : List ℕ) (o : ℕ) → o + n ≤ length s → word_at n s o ≡ number_at n s o
unfolding word_at read_of granted_of
there n s o h = simp (le-leb _ _ h)

pub bounded-word : (s : List ℕ) → Bytes s → (n o : ℕ) → word_at n s o < 256 ^ n
unfolding word_at read_of granted_of
bounded-word s b n o = by-room (dec_le (o + n) (length s))
  where
    by-room : Dec (o + n ≤ length s) → word_at n s o < 256 ^ n
    by-room (yes r) = simp (le-leb _ _ r) (bounded s b n o)
    by-room (no r) = simp (lt-leb (o + n) (length s) (omega arith)) (omega (arith, bounded s b n o))

-- a part of n bytes: where it starts past the end, runs past it, or lies inside
module _ (s : List ℕ) (o n : ℕ) where
  pub starts-past : length s < o → [] ≡ part_of s o n
  unfolding part_of
  starts-past h = sym (ap (take n) (drop_of_length-le s {i = o} (omega arith)) ∙ take-nil n)

  pub runs_past : length s - o < n → take (length s - o) (drop o s) ≡ part_of s o n
  unfolding part_of
  runs_past h = tail o s ∙ sym (take_all n (drop o s) (simp length-drop (omega arith)))

  pub lies-inside : take (o + n - o) (drop o s) ≡ part_of s o n
  unfolding part_of
  lies-inside = ap (λ (k : ℕ). take k (drop o s)) (add-sub_cancel_left o n)

  -- a part with its place
  pub placed : (p q : ℕ × ℕ) (t : List ℕ) → q ≡ cond (leb o (length s)) (further p o) p → t ≡ part_of s o n → slice q t ≡ part_in (slice p s) o n
  placed p q t e f = cc

  pub length_part : o + n ≤ length s → length (part_of s o n) ≡ n
  unfolding part_of
  length_part h = length-take-le n (drop o s) (simp length-drop (omega arith))

-- a part of what starts at p is a part of the whole
pub part-of-part : (s : List ℕ) (p o m : ℕ) → part_of (drop p s) o m ≡ part_of s (p + o) m
unfolding part_of
part-of-part s p o m = ap (take m) (drop-drop o p s)

-- and a word in a part that lies inside is the whole's
taken : (n m : ℕ) (s : List ℕ) (o : ℕ) → o + n ≤ m → number_at n (take m s) o ≡ number_at n s o
unfolding number_at
taken zero m s o h = refl
taken (suc n) m s o h = simp (get_or-take m s o 0 (omega arith), taken n m s (suc o) (omega arith))

pub word-in-part : (n : ℕ) (s : List ℕ) (o m k : ℕ) → o + m ≤ length s → k + n ≤ m → word_at n (part_of s o m) k ≡ word_at n s (o + k)
unfolding part_of
word-in-part n s o m k h t =
    there n (part_of s o m) k (omega (arith, length_part s o m h)) ∙ taken n m (drop o s) k t ∙ part n o s k ∙ sym (there n s (o + k) (omega arith))

-- a part of bytes is bytes
pub bytes-tail : (s : List ℕ) (o : ℕ) → Bytes s → Bytes (drop o s)
bytes-tail s o b i = rw get_or-drop (b (o + i))

pub bytes-part : (s : List ℕ) (o n : ℕ) → Bytes s → Bytes (part_of s o n)
unfolding part_of
bytes-part s o n b i = by_place (dec_lt i n)
  where
    by_place : Dec (i < n) → get_or (take n (drop o s)) i 0 < 256
    by_place (yes h) = rw (get_or-take n (drop o s) i 0 h) (bytes-tail s o b i)
    by_place (no h) = rw (get_or-eq_default (take n (drop o s)) 0 {n = i} (omega (arith, length-take n (drop o s)))) (omega arith)
