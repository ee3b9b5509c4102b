-- What the texts say: digits read back give the number, decimals have no leading zero, and the listing of section S (docs/FORMAT.md, 12).
-- Assumes nothing.
use Prim.Native.Nat.{ℕ, zero, suc, ◌+◌, ◌-◌, ◌*◌, ◌/◌, ◌%◌, ◌^◌, ◌≤◌, ◌<◌}
use mathlib.Core.Path.{◌≡◌, refl}
use mathlib.Core.List.{List, [], ◌∷◌, ◌++◌}
use mathlib.Core.Bool.{cond}
use native.Mathlib.Nat.{pow-zero, pow-suc, le_refl, div-add-mod', div-lt_iff_lt-mul, mod-lt}
use native.Mathlib.Omega.{arith}
use native.Mathlib.Decide.{dec_lt}
use borrow.Author.Tests.{lt-ltb, le-ltb}
use lib.Dec.{ltb}
use lib.ListN.{length, get_or}
use Rattle.listing.specs.Listing.{digit_of, digits_of, hex_of, decimal_of, places_in, places_of, line_of, refused_of, end_of}
use Rattle.listing.proofs.Digits.{length_digits, few, enough-places, first-digit}

-- the number of a letter, and of letters to the base b, read from the left after m
unfoldable pub number_of : ℕ → ℕ
number_of x = cond (ltb x 58) (x - 48) (x - 87)

unfoldable pub read_of : ℕ → ℕ → List ℕ → ℕ
read_of b m [] = m
read_of b m (x ∷ xs) = read_of b (m * b + number_of x) xs

-- a digit's letter reads back
pub letter-back : (d : ℕ) → d < 16 → number_of (digit_of d) ≡ d
unfolding number_of digit_of
letter-back d h = by_size (dec_lt d 10)
  where
    by_size : Dec (d < 10) → number_of (digit_of d) ≡ d
    by_size (yes l) = simp (lt-ltb d 10 l, lt-ltb (48 + d) 58 (omega arith)) (omega arith)
    by_size (no l) = simp (le-ltb d 10 (omega arith), le-ltb (87 + d) 58 (omega arith)) (omega arith)

read-last : (b m : ℕ) (xs : List ℕ) (x : ℕ) → read_of b m (xs ++ (x ∷ [])) ≡ read_of b m xs * b + number_of x
unfolding read_of
read-last b m [] x = refl
read-last b m (y ∷ xs) x = read-last b (m * b + number_of y) xs x

-- k digits of a number below b to the k read back
pub reads-back : (b k n : ℕ) → 0 < b → b ≤ 16 → n < b ^ k → read_of b 0 (digits_of b k n) ≡ n
unfolding read_of digits_of
reads-back b zero n p h l = omega (arith, pow-zero b)
reads-back b (suc k) n p h l =
    let q : n / b < b ^ k = (div-lt_iff_lt-mul {k = b} {x = n} {y = b ^ k} p).1 (rw pow-suc at l) in
    let d : n % b < 16 = omega (arith, mod-lt n p) in
    simp (read-last, reads-back b k (n / b) p h q, letter-back (n % b) d) (div-add-mod' n b)

pub hex-reads-back : (n : ℕ) → n < 2 ^ 32 → read_of 16 0 (hex_of n) ≡ n
hex-reads-back n h = reads-back 16 8 n (omega arith) (omega arith) h

pub decimal-reads-back : (n : ℕ) → read_of 10 0 (decimal_of n) ≡ n
decimal-reads-back n = reads-back 10 (places_of n) n (omega arith) (omega arith) (enough-places n n (le_refl n))

-- a decimal of 20 places at most, for 64 bits
pub at-most-20-places : (n : ℕ) → n < 2 ^ 64 → length (decimal_of n) ≤ 20
at-most-20-places n h = omega (arith, length_digits 10 (places_of n) n, few 19 n n (omega arith))

-- no leading zero
pub no-leading-zero : (n : ℕ) → 0 < n → get_or (decimal_of n) 0 0 ≡ 48 → ⊥
no-leading-zero n h e = omega (arith, first-digit n n (le_refl n) h)

-- the listing of section S: docs/FORMAT.md, 12
pub first-line : line_of 0x1000 0x1040 0x01010001
    ≡ 48 ∷ 48 ∷ 48 ∷ 48 ∷ 49 ∷ 48 ∷ 48 ∷ 48 ∷ 32 ∷ 48 ∷ 48 ∷ 48 ∷ 48 ∷ 49 ∷ 48 ∷ 52 ∷ 48 ∷ 32 ∷ 48 ∷ 49 ∷ 48 ∷ 49 ∷ 48 ∷ 48 ∷ 48 ∷ 49 ∷ 10 ∷ []
unfolding line_of digits_of digit_of
first-line = refl

pub end-2 : end_of 2 ≡ 101 ∷ 110 ∷ 100 ∷ 32 ∷ 50 ∷ 10 ∷ []
unfolding end_of digits_of digit_of places_in
end-2 = refl

pub refused-11 : refused_of 11 ≡ 114 ∷ 101 ∷ 102 ∷ 117 ∷ 115 ∷ 101 ∷ 100 ∷ 32 ∷ 49 ∷ 49 ∷ 10 ∷ []
unfolding refused_of digits_of digit_of places_in
refused-11 = refl
