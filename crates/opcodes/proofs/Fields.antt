-- What the numbers of a word say of registers: every number is told with itself, those above 6 are the unknown ones, and the fifteen bits have the
-- word's five fields.
-- Assumes nothing.
use Prim.Native.Nat.{ℕ, zero, suc, ◌+◌, ◌/◌, ◌%◌, ◌^◌, ◌<◌, ◌≤◌}
use mathlib.Core.Path.{◌≡◌, refl, ap, sym, ◌∙◌}
use mathlib.Core.List.{List, [], ◌∷◌}
use native.Mathlib.Nat.{div-one}
use native.Mathlib.Omega.{arith}
use native.Mathlib.Decide.{dec_le}
use lib.ListN.{get_or}
use lib.Pow.{field, mod-mod-pow}
use borrow.Author.Tests.{le-leb, lt-leb, ne_eqb, lt-ltb}
use Rattle.opcodes.specs.Bits.{bits}
use Rattle.opcodes.specs.Registers.{unknown, named_of, state_of, value_of, field_of, fields_in, number_at}

-- no number is lost
pub number-told : (n : ℕ) → value_of (named_of n) ≡ n
number-told zero = refl
number-told (suc n) = go (dec_le (suc n) 6)
  where
    go : Dec (suc n ≤ 6) → value_of (named_of (suc n)) ≡ suc n
    go (yes h) = simp (ne_eqb (suc n) 0 (λ z. omega arith), le-leb (suc n) 6 h)
    go (no h) = simp (ne_eqb (suc n) 0 (λ z. omega arith), lt-leb (suc n) 6 (omega arith))

-- and the unknown ones are above 6
pub unknown-above : (x n : ℕ) → named_of x ≡ unknown n → 6 < n
unknown-above x n e = go (dec_le x 6)
  where
    known : (y : ℕ) → y ≤ 6 → state_of (named_of y) < 2
    known zero h = omega arith
    known (suc y) h = simp (ne_eqb (suc y) 0 (λ z. omega arith), le-leb (suc y) 6 h) (omega arith)

    go : Dec (x ≤ 6) → 6 < n
    go (yes h) = absurd (omega (arith, known x h, ap state_of e))
    go (no h) = omega (arith, h, number-told x, ap value_of e)

-- an entry of 3 bits among the lowest m + 3 + k
pub within : (m k w : ℕ) → w % 2 ^ (m + 3 + k) / 2 ^ k % 8 ≡ bits k 3 w
within m k w = ap (λ (x : ℕ). x % 8) (field w (m + 3) k) ∙ mod-mod-pow (w / 2 ^ k) m 3

-- the fifteen bits have the word's fields
pub fields_in_lem : (w : ℕ) → fields_in (bits 0 15 w) ≡ field_of 0 w ∷ field_of 1 w ∷ field_of 2 w ∷ field_of 3 w ∷ field_of 4 w ∷ []
fields_in_lem w = simp (div-one w, within 12 0 w, within 9 3 w, within 6 6 w, within 3 9 w, within 0 12 w)

pub at_field : (f k : ℕ) → k < 5 → number_at f k ≡ get_or (fields_in f) k 0
at_field f zero h = refl
at_field f (suc zero) h = refl
at_field f (suc (suc zero)) h = refl
at_field f (suc (suc (suc zero))) h = refl
at_field f (suc (suc (suc (suc zero)))) h = refl
at_field f (suc (suc (suc (suc (suc k))))) h = absurd (omega arith)

pub field_in : (w k : ℕ) → k < 5 → field_of k (bits 0 15 w) ≡ field_of k w
field_in w k h = sym (number (bits 0 15 w)) ∙ at_field (bits 0 15 w) k h ∙ ap (λ (fs : List ℕ). get_or fs k 0) (fields_in_lem w) ∙ sym (at_field w k h) ∙ number w
  where
    number : (f : ℕ) → number_at f k ≡ field_of k f
    number f = simp (lt-ltb k 5 h)
