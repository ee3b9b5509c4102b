-- Tests that are computed, and what they show.
-- Assumes nothing.
use Prim.Native.Nat.{ℕ, zero, suc, ◌<◌, ◌≤◌}
use mathlib.Core.Path.{◌≡◌, refl, sym, subst}
use mathlib.Core.Bool.{Bool, true, false, ◌&&◌}
use native.Mathlib.Omega.{arith}
use native.Mathlib.Nat.{le_of_suc-le-suc, not-suc-le-zero}
use mathlib.Core.List.{List, [], ◌∷◌}
use lib.Dec.{eqb}
use lib.ListN.{length, get_or}
use borrow.Author.Tests.{eqb-true, eqb-false, ne_eqb}
use Rattle.std.specs.List.{list_all}
use Rattle.permutation.specs.Permutation.{every}

pub both_left : (a b : Bool) → (a && b) ≡ true → a ≡ true
both_left true b t = refl
both_left false b t = t

pub both_right : (a b : Bool) → (a && b) ≡ true → b ≡ true
both_right true b t = t
both_right false b t = absurd (let z : ◌≡◌ {A = ℕ} 0 1 = cc in omega arith)

-- a test passed at each number below n
abbrev pub below : (ℕ → Bool) → ℕ → Bool
below f zero = true
below f (suc n) = f n && below f n

-- what holds of each number below n, shown one after the other
abbrev pub Each : (ℕ → Type 0) → ℕ → Type 0
Each P zero = Unit {0}
Each P (suc n) = P n × Each P n

pub each_at : (P : ℕ → Type 0) (n : ℕ) → Each P n → (k : ℕ) → k < n → P k
each_at P zero t k h = absurd (omega arith)
each_at P (suc n) t k h = go (eqb k n) refl (each_at P n t.1 k)
  where
    go : (b : Bool) → eqb k n ≡ b → (k < n → P k) → P k
    go true e i = subst P (sym (eqb-true k n e)) t.0
    go false e i = i (omega (arith, eqb-false k n e))

each-passed : (f : ℕ → Bool) (n : ℕ) → below f n ≡ true → Each (λ (k : ℕ). f k ≡ true) n
each-passed f zero t = tt
each-passed f (suc n) t = (both_left (f n) (below f n) t, each-passed f n (both_right (f n) (below f n) t))

pub below_at : (f : ℕ → Bool) (n : ℕ) → below f n ≡ true → (k : ℕ) → k < n → f k ≡ true
below_at f n t = each_at (λ (k : ℕ). f k ≡ true) n (each-passed f n t)

pub both-eq : (a b : ℕ) (c : Bool) → (eqb a b && c) ≡ true → (a ≡ b) × (c ≡ true)
both-eq a b c t = (eqb-true a b (both_left (eqb a b) c t), both_right (eqb a b) c t)

-- a test at every element, and at every place
pub every-at : (f : ℕ → Bool) (xs : List ℕ) → every f xs ≡ true → (i : ℕ) → i < length xs → f (get_or xs i 0) ≡ true
every-at f [] t i h = absurd (not-suc-le-zero h)
every-at f (x ∷ xs) t zero h = both_left (f x) (every f xs) t
every-at f (x ∷ xs) t (suc i) h = every-at f xs (both_right (f x) (every f xs) t) i (le_of_suc-le-suc h)

pub at_every : (f : ℕ → Bool) (xs : List ℕ) → ((i : ℕ) → i < length xs → f (get_or xs i 0) ≡ true) → every f xs ≡ true
at_every f [] t = refl
at_every f (x ∷ xs) t = simp (t 0 (omega arith), at_every f xs (λ i h. t (suc i) (omega arith)))

-- the test for zeros, as std has it
pub every-zero : (xs : List ℕ) → every (eqb 0) xs ≡ list_all (λ (x : ℕ). eqb x 0) xs
every-zero [] = refl
every-zero (zero ∷ xs) = every-zero xs
every-zero (suc x ∷ xs) = simp (ne_eqb 0 (suc x) (omega arith), ne_eqb (suc x) 0 (omega arith))

-- what is none of the numbers below n, as the last arm of a match has it, is n or more
abbrev pub None : ℕ → ℕ → Type 0
None k zero = Unit {0}
None k (suc n) = None k n × (k ≡ n → ⊥)

pub past : (k n : ℕ) → None k n → n ≤ k
past k zero r = omega arith
past k (suc n) r = omega (arith, past k n r.0, r.1)
