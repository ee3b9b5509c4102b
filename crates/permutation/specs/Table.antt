-- The table of the 720 arrangements of six registers, for the contracts of helpers: arrangement e is what e stands for with count 6
-- (docs/FORMAT.md, 8.2).
-- Assumes nothing.
use Rattle.std.specs.Prelude.{ℕ, zero, suc, ◌+◌, ◌-◌, ◌*◌, ◌/◌, ◌%◌, ◌^◌, List, [], ◌∷◌, ◌++◌, get_or}
use Rattle.permutation.specs.Permutation.{bounds, registers_of}

-- The last n octal digits of a number, the highest first: a row has six of them, a place each.
abbrev pub places_of : ℕ → ℕ → List ℕ
places_of zero x = []
places_of (suc n) x = x / 2 ^ (3 * n) % 8 ∷ places_of n x

-- The places of three neighbouring rows.
abbrev pub three_from : ℕ → List ℕ
three_from at = registers_of 6 at ++ (registers_of 6 (at + 1) ++ registers_of 6 (at + 2))

-- By the count: how many rows begin alike, so that the rows of neighbouring encodings are that far apart. With no registers every row
-- does, and 0 is any encoding's (here 720 / 0 is 0).
abbrev pub apart_of : ℕ → ℕ
apart_of n = 720 / get_or bounds n 0

-- By the count: the bits of the places that are kept, the first n of six.
abbrev pub kept_of : ℕ → ℕ
kept_of n = 2 ^ 18 - 2 ^ (3 * (6 - n))
