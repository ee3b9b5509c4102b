-- The bits of a field one by one: the number that they make, and how many of them are set.
-- Assumes nothing.
use Prim.Native.Nat.{ℕ, zero, suc, ◌+◌, ◌*◌, ◌/◌, ◌%◌, ◌^◌, ◌<◌}
use mathlib.Core.Path.{◌≡◌, refl, ap, sym, ◌∙◌}
use mathlib.Core.Bool.{Bool, cond}
use mathlib.Core.List.{List, [], ◌∷◌}
use native.Mathlib.Nat.{mod-one, mod-lt}
use native.Mathlib.Numerals.{add-one}
use native.Mathlib.Omega.{arith}
use lib.Count.{ones_step}
use lib.Count as count
use lib.Dec.{eqb}
use lib.Pow.{mod-mod-pow, field, shr-shr}
use Rattle.opcodes.specs.Bits.{bits, bit}
use Rattle.opcodes.specs.WordsArm64.{ones}

-- n bits of w, from bit i on
abbrev pub bits_from : ℕ → ℕ → ℕ → List Bool
bits_from i zero w = []
bits_from i (suc n) w = bit i w ∷ bits_from (suc i) n w

ones_of_zero : count.ones 0 ≡ 0
unfolding count.ones count.ones_in
ones_of_zero = refl

-- of a field's digits the lowest, and the rest
module _ (n i w : ℕ) where
  abbrev v : ℕ
  v = w / 2 ^ i

  lowest : bits i (suc n) w % 2 ≡ bits i 1 w
  lowest = ap (λ (k : ℕ). v % 2 ^ k % 2) (sym (add-one n)) ∙ mod-mod-pow v n 1

  rest : bits i (suc n) w / 2 ≡ bits (suc i) n w
  rest =
      ap (λ (k : ℕ). v % 2 ^ k / 2) (sym (add-one n)) ∙ field v n 1
      ∙ ap (λ (x : ℕ). x % 2 ^ n) (shr-shr w i 1 ∙ ap (λ (k : ℕ). w / 2 ^ k) (add-one i))

  pub digit : bits i (suc n) w ≡ bits i 1 w + 2 * bits (suc i) n w
  digit = omega (arith, lowest, rest)

-- a bit is 0 or 1
pub bit_is : (low w : ℕ) → cond (bit low w) 1 0 ≡ bits low 1 w
bit_is low w = go (bits low 1 w) (mod-lt (w / 2 ^ low) (omega arith))
  where
    go : (x : ℕ) → x < 2 → cond (eqb x 1) 1 0 ≡ x
    go zero h = refl
    go (suc zero) h = refl
    go (suc (suc x)) h = absurd (omega arith)

pub counted : (n i w : ℕ) → count.ones (bits i n w) ≡ ones (bits_from i n w)
counted zero i w = ap count.ones (mod-one (w / 2 ^ i)) ∙ ones_of_zero
counted (suc n) i w = ones_step (bits i (suc n) w) ∙ rw (lowest n i w, rest n i w, bit_is i w, counted n (suc i) w) refl
