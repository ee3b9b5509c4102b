-- docs/FORMAT.md, 12: the text of a listing, as lists of bytes.
-- Assumes nothing.
use Rattle.std.specs.Prelude.{ℕ, zero, suc, ◌+◌, ◌/◌, ◌%◌, min, List, [], ◌∷◌, ◌++◌, cond, length, drop, leb, ltb}

-- The letter of a digit below 16: `0` to `9`, then `a` to `f`.
unfoldable pub digit_of : ℕ → ℕ
digit_of d = cond (ltb d 10) (48 + d) (87 + d)

-- The last k digits of n to the base b, the most significant first.
unfoldable pub digits_of : ℕ → ℕ → ℕ → List ℕ
digits_of b zero n = []
digits_of b (suc k) n = digits_of b k (n / b) ++ (digit_of (n % b) ∷ [])

-- Eight hex digits.
abbrev pub hex_of : ℕ → List ℕ
hex_of n = digits_of 16 8 n

-- How many decimal digits n has, found in at most f steps.
unfoldable pub places_in : ℕ → ℕ → ℕ
places_in zero n = 1
places_in (suc f) n = cond (ltb n 10) 1 (suc (places_in f (n / 10)))

-- As many steps as n says are enough.
abbrev pub places_of : ℕ → ℕ
places_of n = places_in n n

abbrev pub decimal_of : ℕ → List ℕ
decimal_of n = digits_of 10 (places_of n) n

-- Start, end and opcode, with blanks between, and the newline.
unfoldable pub line_of : ℕ → ℕ → ℕ → List ℕ
line_of a b c = hex_of a ++ (32 ∷ []) ++ hex_of b ++ (32 ∷ []) ++ hex_of c ++ (10 ∷ [])

-- At most k lines, one for each three numbers.
unfoldable pub lines_of : ℕ → List ℕ → List ℕ
lines_of zero ns = []
lines_of (suc k) [] = []
lines_of (suc k) (a ∷ []) = []
lines_of (suc k) (a ∷ b ∷ []) = []
lines_of (suc k) (a ∷ b ∷ c ∷ ns) = line_of a b c ++ lines_of k ns

-- `refused N` and `end F`.
unfoldable pub refused_of : ℕ → List ℕ
refused_of n = (114 ∷ 101 ∷ 102 ∷ 117 ∷ 115 ∷ 101 ∷ 100 ∷ 32 ∷ []) ++ decimal_of n ++ (10 ∷ [])

unfoldable pub end_of : ℕ → List ℕ
end_of n = (101 ∷ 110 ∷ 100 ∷ 32 ∷ []) ++ decimal_of n ++ (10 ∷ [])

-- What a call leaves: how many bytes it wrote, and the whole list afterwards.
pub data Told : Type 0 where
  written : ℕ → List ℕ → Told

-- A text at the front, what lies after it unchanged.
unfoldable pub over : List ℕ → List ℕ → Told
over text out = written (length text) (text ++ drop (length text) out)

-- A text that fits whole, or nothing.
unfoldable pub whole_of : List ℕ → List ℕ → Told
whole_of text out = cond (leb (length text) (length out)) (over text out) (written 0 out)

-- As many lines as are asked for, as there are numbers for, and as fit whole.
unfoldable pub lines_in : List ℕ → ℕ → List ℕ → Told
lines_in ns lines out = over (lines_of (min lines (length out / 27)) ns) out
