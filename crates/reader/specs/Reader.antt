-- docs/FORMAT.md, 1.1 and 1.2: reading a little-endian number, over its width n in bytes.
-- Assumes nothing.
use Rattle.std.specs.Prelude.{ℕ, zero, suc, ◌+◌, ◌*◌, ◌<◌, List, Bool, cond, Option, Some, None, length, get_or, take, drop, leb}
use Rattle.std.specs.Borrow.{Bor}

-- 1.1: the number whose n bytes start at offset o, least significant first
unfoldable pub number_at : ℕ → List ℕ → ℕ → ℕ
number_at zero s o = 0
number_at (suc n) s o = get_or s o 0 + 256 * number_at n s (suc o)

-- 1.2: a read of n bytes at o is granted exactly if o + n is at most the length; whole numbers, so no sum wraps
unfoldable pub granted_of : ℕ → List ℕ → ℕ → Bool
granted_of n s o = leb (o + n) (length s)

unfoldable pub read_of : ℕ → List ℕ → ℕ → Option ℕ
read_of n s o = cond (granted_of n s o) (Some (number_at n s o)) None

-- what a read answers, by the number that its type says
abbrev pub told : {A : Type 0} → (A → ℕ) → Option A → Option ℕ
told f (Some x) = Some (f x)
told f None = None

-- the number there, or 0 where the read is not granted
abbrev pub or_zero : Option ℕ → ℕ
or_zero (Some x) = x
or_zero None = 0

unfoldable pub word_at : ℕ → List ℕ → ℕ → ℕ
word_at n s o = or_zero (read_of n s o)

-- the part of n bytes that starts at o, or what there is of it
unfoldable pub part_of : List ℕ → ℕ → ℕ → List ℕ
part_of s o n = take n (drop o s)

-- a slice: where it starts in memory, by the block and the place in it, and its bytes
pub record Slice : Type 0 where
  pub start : ℕ × ℕ
  pub bytes : List ℕ

abbrev pub slice : ℕ × ℕ → List ℕ → Slice
slice p s = record { start = p; bytes = s }

abbrev pub slice_told : Bor (List ℕ) → Slice
slice_told r = slice r.ref_ptr r.now

-- so many bytes further on
abbrev pub further : ℕ × ℕ → ℕ → ℕ × ℕ
further p n = (p.0, n + p.1)

-- the part of a slice that starts at o and has these bytes; where o lies past the end it is empty, and stands at the slice's start
abbrev pub part_at : Slice → ℕ → List ℕ → Slice
part_at x o s = slice (cond (leb o (length x.bytes)) (further x.start o) x.start) s

abbrev pub part_in : Slice → ℕ → ℕ → Slice
part_in x o n = part_at x o (part_of x.bytes o n)

-- the numbers of the list are bytes
abbrev pub Bytes : List ℕ → Type 0
Bytes s = (i : ℕ) → get_or s i 0 < 256
