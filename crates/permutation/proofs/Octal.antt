-- The octal places of a number: of its part, and under the mask of the first n.
-- Assumes nothing.
use Prim.Native.Nat.{ℕ, zero, suc, ◌+◌, ◌-◌, ◌*◌, ◌/◌, ◌%◌, ◌^◌, ◌<◌, ◌≤◌}
use mathlib.Core.Path.{◌≡◌, refl, ap, ap₂, sym, ◌∙◌, subst}
use mathlib.Core.List.{List, [], ◌∷◌, ◌++◌}
use native.Mathlib.Omega.{arith}
use native.Mathlib.Nat.{suc-add, zero-add, add-zero, div-div-eq-div-mul, mod-mod}
use lib.Bits.{bit_and, and_shr, and_mod, and_mask, and_zero_r}
use lib.Pow.{pow-add}
use lib.ListN.{take, drop, replicate}
use Rattle.permutation.specs.Permutation.{rows, registers_of}
use Rattle.permutation.specs.Table.{places_of, three_from, kept_of}
use Rattle.permutation.proofs.Tests.{each_at}

-- the first n of n + m places, and the last
first-places : (n m x : ℕ) → places_of n (x / 2 ^ (3 * m)) ≡ take n (places_of (n + m) x)
first-places zero m x = refl
first-places (suc n) m x =
    let e : 2 ^ (3 * m) * 2 ^ (3 * n) ≡ 2 ^ (3 * (n + m)) = sym (pow-add 2 (3 * m) (3 * n)) ∙ ap (λ (k : ℕ). 2 ^ k) (omega arith) in
    rw (suc-add n m)
    (ap₂ (λ (d : ℕ) (ds : List ℕ). d % 8 ∷ ds) (div-div-eq-div-mul x (2 ^ (3 * m)) (2 ^ (3 * n)) ∙ ap (λ (k : ℕ). x / k) e) (first-places n m x))

last-places : (n m x : ℕ) → places_of n x ≡ drop m (places_of (m + n) x)
last-places n zero x = rw (zero-add n) refl
last-places n (suc m) x = rw (suc-add m n) (last-places n m x)

-- place by place
abbrev ands : List ℕ → List ℕ → List ℕ
ands [] ys = []
ands (x ∷ xs) [] = []
ands (x ∷ xs) (y ∷ ys) = bit_and x y ∷ ands xs ys

and-places : (n x y : ℕ) → places_of n (bit_and x y) ≡ ands (places_of n x) (places_of n y)
and-places zero x y = refl
and-places (suc n) x y =
    ap₂ (λ (d : ℕ) (ds : List ℕ). d ∷ ds) (ap (λ (k : ℕ). k % 8) (and_shr x y (3 * n)) ∙ and_mod (x / 2 ^ (3 * n)) (y / 2 ^ (3 * n)) 3) (and-places n x y)

-- a mask without places, and one of the first n
all-dropped : (m x : ℕ) → ands (places_of m x) (replicate m 0) ≡ replicate m 0
all-dropped zero x = refl
all-dropped (suc m) x = ap₂ (λ (d : ℕ) (ds : List ℕ). d ∷ ds) (and_zero_r (x / 2 ^ (3 * m) % 8)) (all-dropped m x)

first-kept : (n m x : ℕ) → ands (places_of (n + m) x) (replicate n 7 ++ replicate m 0) ≡ take n (places_of (n + m) x) ++ replicate m 0
first-kept zero m x = rw (zero-add m) (all-dropped m x)
first-kept (suc n) m x =
    let digits : ℕ = x / 2 ^ (3 * (n + m)) in
    rw (suc-add n m) (ap₂ (λ (d : ℕ) (ds : List ℕ). d ∷ ds) (and_mask (digits % 8) 3 ∙ mod-mod digits 8) (first-kept n m x))

masks : (n : ℕ) → n < 7 → places_of 6 (kept_of n) ≡ replicate n 7 ++ replicate (6 - n) 0
masks = each_at (λ n. places_of 6 (kept_of n) ≡ replicate n 7 ++ replicate (6 - n) 0) 7 (refl, (refl, (refl, (refl, (refl, (refl, (refl, tt)))))))

-- Under the mask of a count the first places stay, and the others are 0.
pub kept-places : (n x : ℕ) → n ≤ 6 → places_of 6 (bit_and x (kept_of n)) ≡ take n (places_of 6 x) ++ replicate (6 - n) 0
kept-places n x h =
    let six : n + (6 - n) ≡ 6 = omega arith in
    let kept : ℕ → Type 0 = λ k. ands (places_of k x) (replicate n 7 ++ replicate (6 - n) 0) ≡ take n (places_of k x) ++ replicate (6 - n) 0 in
    and-places 6 x (kept_of n) ∙ ap (ands (places_of 6 x)) (masks n (omega arith)) ∙ subst kept six (first-kept n (6 - n) x)

-- One row of three.
pub one_of_three : (x at i : ℕ) → i < 3 → places_of 18 x ≡ three_from at → places_of 6 (x / 2 ^ (18 * (2 - i))) ≡ registers_of 6 (at + i)
unfolding rows
one_of_three x at zero h t = first-places 6 12 x ∙ ap (take 6) t ∙ ap (registers_of 6) (sym (add-zero at))
one_of_three x at (suc zero) h t = first-places 6 6 x ∙ ap (take 6) (last-places 12 6 x ∙ ap (drop 6) t)
one_of_three x at (suc (suc zero)) h t = first-places 6 0 x ∙ ap (take 6) (last-places 6 12 x ∙ ap (drop 12) t)
one_of_three x at (suc (suc (suc i))) h t = absurd (omega arith)
