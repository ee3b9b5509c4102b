-- Where the bisection over rising keys ends, from what is known of one entry.
-- Assumes nothing.
use Prim.Native.Nat.{ℕ, zero, suc, ◌+◌, ◌-◌, ◌≤◌, ◌<◌}
use mathlib.Core.Path.{◌≡◌, ap, sym, ◌∙◌}
use mathlib.Core.Logic.{◌⊎◌, inl, inr}
use native.Mathlib.Nat.{eq-or-lt_of_le, le_refl}
use native.Mathlib.Decide.{dec_lt}
use native.Mathlib.Omega.{arith}
use Rattle.search.specs.declared.Spot.{Spot}
use Rattle.search.specs.Search.{mid, more, rounds, run, Rising, Last}
use Rattle.search.proofs.Laws.{found, Way, done, up, down, way, rounds-done, rounds-up, rounds-down}

module _ (key : ℕ → ℕ) (x n : ℕ) where
  pub order : Rising key n → (i j : ℕ) → i ≤ j → j < n → key i ≤ key j
  order rising i j h l = last (eq-or-lt_of_le h)
    where
      last : (i ≡ j) ⊎ (i < j) → key i ≤ key j
      last (inl e) = rw e (le_refl _)
      last (inr s) = omega (arith, rising i j s l)

  -- one place has this property, so every search that ends there ends where the bisection does
  pub last_one : (r q : ℕ) → Last key x n r → Last key x n q → r ≡ q
  last_one r q a b = first (dec_lt r q) (dec_lt q r)
    where
      first : Dec (r < q) → Dec (q < r) → r ≡ q
      first (yes h) d = absurd (omega (arith, a.above r (le_refl _) (omega (arith, b.within)), b.below r h))
      first (no h) (yes k) = absurd (omega (arith, b.above q (le_refl _) (omega (arith, a.within)), a.below q k))
      first (no h) (no k) = omega arith

  -- it ends after entry r, if r's key is at most the sought one and the next is above it
  pub ends-after : Rising key n → (r : ℕ) → r < n → key r ≤ x → (suc r < n → x < key (suc r)) → (run key x 0 n).at ≡ suc r
  ends-after rising r h low high =
      last_one _ _ (found key x n rising) (record { within = omega arith; below = λ i t. omega (arith, order rising i r (omega arith) h); above = λ i t u. omega (arith, order rising (suc r) i t u, high (omega arith)) })

  -- the entry found has a key of at most the sought one, also where the keys do not rise
  low : (f lo hi : ℕ) → Way key x lo hi → ((q : ℕ) → lo ≡ suc q → key q ≤ x) → (q : ℕ) → (rounds key x f lo hi).at ≡ suc q → key q ≤ x
  unfolding rounds more
  low zero lo hi w h q e = h q e
  low (suc f) lo hi (done l) h q e = h q (ap (λ (r : Spot). r.at) (sym (rounds-done key x (suc f) lo hi l)) ∙ e)
  low (suc f) lo hi (up l t) h q e =
      low f (mid lo hi + 1) hi (way key x _ _)
      (λ k s. let same : mid lo hi ≡ k = omega arith in rw (← same) t)
      q (ap (λ (r : Spot). r.at) (sym (rounds-up key x f lo hi l t)) ∙ e)
  low (suc f) lo hi (down l t) h q e = low f lo (mid lo hi) (way key x _ _) h q (ap (λ (r : Spot). r.at) (sym (rounds-down key x f lo hi l t)) ∙ e)

  pub low_end : (q : ℕ) → (run key x 0 n).at ≡ suc q → key q ≤ x
  unfolding run
  low_end q e = low (n - 0) 0 n (way key x 0 n) (λ k s. absurd (omega arith)) q e
