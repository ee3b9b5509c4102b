-- Texts of a block: how long they are, and that one written behind the other is both.
-- Assumes nothing.
use Prim.Native.Nat.{ℕ, ◌+◌, ◌-◌, ◌*◌, ◌^◌, ◌≤◌, ◌<◌}
use mathlib.Core.Path.{◌≡◌, refl, ap, sym, ◌∙◌}
use mathlib.Core.List.{List, [], ◌∷◌, ◌++◌, map, append_assoc, append-nil}
use native.Mathlib.Omega.{arith}
use borrow.Author.Tests.{le-leb}
use borrow.Rule.Slice.PartMut.{mid_of, post_of, put_mid}
use lib.ListN.{length, take, drop, length-append, length-drop, drop_of_length-le}
use lib.Seq.{take_all, take_at, drop_at, drop-drop}
use Rattle.raw.specs.Checked.{good}
use Rattle.entries.specs.declared.Function.{Function}
use Rattle.listing.specs.Listing.{places_of, line_of, lines_of, refused_of, end_of, Told, written, over, whole_of}
use Rattle.listing.proofs.Digits.{length_digits, few}
use Rattle.listing.proofs.Lines.{length-line}
use Rattle.listing.proofs.Laws.{at-most-20-places}
use Rattle.fill.specs.Fill.{numbers_of}
use Rattle.lister.specs.Lister.{answers_text}

-- `end F` has at most 25 bytes, `refused N` at most 12
pub length-end : (n : ℕ) → n < 2 ^ 64 → length (end_of n) ≤ 25
unfolding end_of
length-end n h = simp length-append (omega (arith, at-most-20-places n h))

pub length-refused : (n : ℕ) → n < 256 → length (refused_of n) ≤ 12
unfolding refused_of
length-refused n h = simp length-append (omega (arith, length_digits 10 (places_of n) n, few 2 n n (omega arith)))

-- and neither is empty
pub some_end : (n : ℕ) → 0 < length (end_of n)
unfolding end_of
some_end n = simp length-append (omega arith)

pub some-refused : (n : ℕ) → 0 < length (refused_of n)
unfolding refused_of
some-refused n = simp length-append (omega arith)

-- functions have 27 bytes each, and as three numbers each they are the same lines
pub length_functions : (fs : List Function) → length (answers_text (map good fs)) ≡ 27 * length fs
unfolding answers_text
length_functions [] = refl
length_functions (f ∷ fs) = simp (length-append, length-line) (omega (arith, length_functions fs))

pub lines_are : (fs : List Function) (rest : List ℕ) → lines_of (length fs) (numbers_of fs ++ rest) ≡ answers_text (map good fs)
unfolding answers_text lines_of numbers_of
lines_are [] rest = refl
lines_are (f ∷ fs) rest = ap (λ (t : List ℕ). line_of f.start_address f.end_address f.opcode ++ t) (lines_are fs rest)

-- a text that fits is written whole
pub fits_whole : (text out : List ℕ) → length text ≤ length out → whole_of text out ≡ over text out
unfolding whole_of
fits_whole text out h = simp (le-leb _ _ h)

-- how many bytes, and what the list is after them
pub bytes_of : (text out : List ℕ) {n : ℕ} {l : List ℕ} → written n l ≡ over text out → (n ≡ length text) × (l ≡ text ++ drop (length text) out)
unfolding over
bytes_of text out p = (cc, cc)

pub same_length : (text out : List ℕ) → length text ≤ length out → length (text ++ drop (length text) out) ≡ length out
same_length text out h = simp (length-append, length-drop) (omega arith)

-- a text a, and b written into the part of the list behind it
module _ (out a b : List ℕ) (room : length a + length b ≤ length out) {n : ℕ} {l : List ℕ} (p : written n l ≡ over a out) where
  length-l : length l ≡ length out
  length-l = ap length (bytes_of a out p).1 ∙ same_length a out (omega arith)

  after-a : drop n l ≡ drop (length a) out
  after-a = rw (bytes_of a out p).1 (drop_at a (drop (length a) out) n (sym (bytes_of a out p).0))

  pub starts-inside : n ≤ length l
  starts-inside = omega (arith, length-l, (bytes_of a out p).0)

  part-is : mid_of n (length l - n) l ≡ drop (length a) out
  part-is =
      take_all (length l - n) (drop n l) (rw after-a (omega (arith, length-drop (length a) out, length-l, (bytes_of a out p).0))) ∙ after-a

  none_after : post_of n (length l - n) l ≡ []
  none_after = drop_of_length-le (drop n l) {i = length l - n} (omega (arith, length-drop n l))

  module _ {m : ℕ} {r : List ℕ} (q : written m r ≡ whole_of b (mid_of n (length l - n) l)) where
    b-over : written m r ≡ over b (drop (length a) out)
    b-over =
        q ∙ ap (whole_of b) part-is ∙ fits_whole b (drop (length a) out) (omega (arith, length-drop (length a) out))

    pub fewer_bytes : n + m ≤ length out
    fewer_bytes = omega (arith, (bytes_of a out p).0, (bytes_of b (drop (length a) out) b-over).0)

    both : take n l ++ (r ++ post_of n (length l - n) l) ≡ (a ++ b) ++ drop (length (a ++ b)) out
    both =
        let t : take n l ≡ a = rw (bytes_of a out p).1 (take_at a (drop (length a) out) n (sym (bytes_of a out p).0)) in
        let e : length (a ++ b) ≡ length a + length b = length-append a b in
        simp (t, none_after, append-nil, (bytes_of b (drop (length a) out) b-over).1, drop-drop, e, append_assoc)

    pub behind : written (n + m) (put_mid n (length l - n) l r) ≡ over (a ++ b) out
    unfolding over
    behind =
        let e : n + m ≡ length (a ++ b) = omega (arith, length-append a b, (bytes_of a out p).0, (bytes_of b (drop (length a) out) b-over).0) in
        ap {B = Told} (λ (k : ℕ). written k (put_mid n (length l - n) l r)) e ∙ ap (written (length (a ++ b))) both
