-- A number and its digits, over any row of weights of mixed radix: the digits' weighted sum is the number, and no other small digits
-- have that sum. Then the rows of counts 1 to 6.
-- Assumes nothing.
use Prim.Native.Nat.{ℕ, zero, suc, pred, ◌+◌, ◌*◌, ◌/◌, ◌%◌, ◌<◌, ◌≤◌}
use mathlib.Core.Path.{◌≡◌, refl, ap, ◌∙◌}
use mathlib.Core.Bool.{Bool, true, ◌&&◌}
use mathlib.Core.List.{List, [], ◌∷◌}
use native.Mathlib.Omega.{arith}
use native.Mathlib.Nat.{mod-lt, div-add-mod, div-lt_iff_lt-mul, mul-add-div, mul-add-mod_self_left, div-eq_of_lt, mod-eq_of_lt, div-zero, mod-zero, mul-suc, mul_comm, mul-le-mul_left}
use lib.Dec.{eqb, leb}
use lib.ListN.{length, get_or}
use lib.Seq.{length-take-le}
use borrow.Author.Tests.{eqb-true, leb-true}
use Rattle.permutation.specs.Permutation.{rows, bounds, weights, digits, weighted, every}
use Rattle.permutation.proofs.Tests.{both-eq, below_at, every-at}

-- the first digit is below k, the next below k - 1, and so on
abbrev pub Small : ℕ → List ℕ → Type 0
Small k [] = Unit {0}
Small k (d ∷ ds) = (d < k) × Small (pred k) ds

-- such digits give each number below b once: a weight is what the digits after it give. A weight 0 belongs to a digit that is 0.
abbrev pub radix : List ℕ → ℕ → ℕ → Bool
radix [] k b = eqb b 1
radix (zero ∷ ws) k b = eqb k 1 && (eqb b 1 && radix ws (pred k) 1)
radix (suc v ∷ ws) k b = eqb b (k * suc v) && radix ws (pred k) (suc v)

-- the first digit of a number below the bound is small, and what is left is below the next bound
record Digit (w : ℕ) (ws : List ℕ) (k rest : ℕ) : Type 0 where
  unit : ℕ
  small : rest / w < k
  left : rest % w < unit
  next : radix ws (pred k) unit ≡ true

first-digit : (w : ℕ) (ws : List ℕ) (k b rest : ℕ) → radix (w ∷ ws) k b ≡ true → rest < b → Digit w ws k rest
first-digit zero ws k b rest t h =
    let p = both-eq k 1 (eqb b 1 && radix ws (pred k) 1) t in
    let e = both-eq b 1 (radix ws (pred k) 1) p.1 in
    record { unit = 1; small = omega (arith, div-zero rest, p.0); left = omega (arith, mod-zero rest, e.0); next = e.1 }
first-digit (suc v) ws k b rest t h =
    let e = both-eq b (k * suc v) (radix ws (pred k) (suc v)) t in
    record {
      unit = suc v;
      small = (div-lt_iff_lt-mul {k = suc v} (omega arith)).1 (rw e.0 at h);
      left = mod-lt rest (omega arith);
      next = e.1;
    }

pub digits-small : (ws : List ℕ) (k b e : ℕ) → radix ws k b ≡ true → e < b → Small k (digits ws e)
digits-small [] k b e t h = tt
digits-small (w ∷ ws) k b e t h =
    let d = first-digit w ws k b e t h in
    (d.small, digits-small ws (pred k) d.unit (e % w) d.next d.left)

-- the digits' weighted sum is the number
pub sum-of-digits : (ws : List ℕ) (k b e : ℕ) → radix ws k b ≡ true → e < b → weighted ws (digits ws e) ≡ e
sum-of-digits [] k b e t h = omega (arith, eqb-true b 1 t)
sum-of-digits (w ∷ ws) k b e t h =
    let d = first-digit w ws k b e t h in
    rw (sum-of-digits ws (pred k) d.unit (e % w) d.next d.left) (div-add-mod e w)

pub length_digits : (ws : List ℕ) (e : ℕ) → length (digits ws e) ≡ length ws
length_digits [] e = refl
length_digits (w ∷ ws) e = ap suc (length_digits ws (e % w))

-- one digit, read as it was weighed
digit-again : (ws ds : List ℕ) (w d : ℕ) → (w * d + weighted ws ds) / w ≡ d → (w * d + weighted ws ds) % w ≡ weighted ws ds
    → digits ws (weighted ws ds) ≡ ds → digits (w ∷ ws) (weighted (w ∷ ws) (d ∷ ds)) ≡ d ∷ ds
digit-again ws ds w d ed em i = rw (ed, em, i)

-- small digits: their weighted sum is below the bound, and its digits are these
pub record Weighed (ws ds : List ℕ) (b : ℕ) : Type 0 where
  pub below : weighted ws ds < b
  pub again : digits ws (weighted ws ds) ≡ ds

pub weighed : (ws ds : List ℕ) (k b : ℕ) → radix ws k b ≡ true → length ds ≡ length ws → Small k ds → Weighed ws ds b
weighed [] [] k b t l s = record { below = omega (arith, eqb-true b 1 t); again = refl }
weighed [] (d ∷ ds) k b t l s = absurd (omega arith)
weighed (w ∷ ws) [] k b t l s = absurd (omega arith)
weighed (zero ∷ ws) (d ∷ ds) k b t l s =
    let p = both-eq k 1 (eqb b 1 && radix ws (pred k) 1) t in
    let e = both-eq b 1 (radix ws (pred k) 1) p.1 in
    let i = weighed ws ds (pred k) 1 e.1 (omega arith) s.1 in
    let v : ℕ = 0 * d + weighted ws ds in
    record {
      below = omega (arith, i.below, e.0);
      again = digit-again ws ds 0 d (div-zero v ∙ omega (arith, s.0, p.0)) (mod-zero v ∙ omega arith) i.again;
    }
weighed (suc v ∷ ws) (d ∷ ds) k b t l s =
    let e = both-eq b (k * suc v) (radix ws (pred k) (suc v)) t in
    let i = weighed ws ds (pred k) (suc v) e.1 (omega arith) s.1 in
    let r : ℕ = weighted ws ds in
    record {
      below = omega (arith, i.below, e.0, mul-suc (suc v) d, mul-le-mul_left (suc v) s.0, mul_comm k (suc v));
      again =
          digit-again ws ds (suc v) d (mul-add-div (omega arith) d r ∙ omega (arith, div-eq_of_lt i.below))
          (mul-add-mod_self_left (suc v) d r ∙ mod-eq_of_lt i.below) i.again;
    }

-- the rows of counts 1 to 6, over six registers
good : ℕ → Bool
good n = radix (weights (suc n)) 6 (get_or bounds (suc n) 0)

pub row-radix : (n : ℕ) → 0 < n → n ≤ 6 → radix (weights n) 6 (get_or bounds n 0) ≡ true
unfolding good rows bounds
row-radix zero p h = absurd (omega arith)
row-radix (suc n) p h = below_at good 6 refl n h

long : ℕ → Bool
long n = eqb (length (get_or rows n [])) 6

pub row-long : (n : ℕ) → n ≤ 6 → length (get_or rows n []) ≡ 6
unfolding long rows
row-long n h = eqb-true (length (get_or rows n [])) 6 (below_at long 7 refl n (omega arith))

pub weights-long : (n : ℕ) → n ≤ 6 → length (weights n) ≡ n
weights-long n h = length-take-le n (get_or rows n []) (omega (arith, row-long n h))

light : ℕ → Bool
light n = every (λ (w : ℕ). leb w 120) (weights n)

pub weight-small : (n i : ℕ) → n ≤ 6 → i < n → get_or (weights n) i 0 ≤ 120
unfolding light rows
weight-small n i h l =
    leb-true (get_or (weights n) i 0) 120
    (every-at (λ (w : ℕ). leb w 120) (weights n) (below_at light 7 refl n (omega arith)) i (omega (arith, weights-long n h)))
