-- The bisection's equations, with no bound on its rounds; how many entries it probes; and what it finds where the keys rise.
-- Assumes nothing.
use Prim.Native.Nat.{ℕ, zero, suc, ◌+◌, ◌-◌, ◌^◌, ◌≤◌, ◌<◌, zero-le}
use mathlib.Core.Path.{◌≡◌, refl, ap, sym, ◌∙◌}
use mathlib.Core.Logic.{◌⊎◌, inl, inr}
use native.Mathlib.Nat.{zero-add, add-zero, add_assoc, pow-suc, eq-or-lt_of_le, le_refl}
use native.Mathlib.Decide.{dec_le, dec_lt}
use native.Mathlib.Omega.{arith}
use borrow.Author.Tests.{lt-ltb, le-ltb, le-leb, lt-leb}
use Rattle.search.specs.declared.Spot.{Spot}
use Rattle.search.specs.Search.{mid, more, rounds, run, Rising, Last}

abbrev pub spot : ℕ → ℕ → Spot
spot a p = record { at = a; probes = p }

-- the three ways that a round can go
pub data Way (key : ℕ → ℕ) (x lo hi : ℕ) : Type 0 where
  done : hi ≤ lo → Way key x lo hi
  up : lo < hi → key (mid lo hi) ≤ x → Way key x lo hi
  down : lo < hi → x < key (mid lo hi) → Way key x lo hi

pub more-more : (j k : ℕ) (p : Spot) → more j (more k p) ≡ more (j + k) p
unfolding more
more-more j k p = simp add_assoc

module _ (key : ℕ → ℕ) (x : ℕ) where
  pub way : (lo hi : ℕ) → Way key x lo hi
  way lo hi = first (dec_lt lo hi)
    where
      second : lo < hi → Dec (key (mid lo hi) ≤ x) → Way key x lo hi
      second h (yes l) = up h l
      second h (no l) = down h (omega arith)

      first : Dec (lo < hi) → Way key x lo hi
      first (yes h) = second h (dec_le (key (mid lo hi)) x)
      first (no h) = done (omega arith)

  pub rounds-done : (f lo hi : ℕ) → hi ≤ lo → rounds key x f lo hi ≡ spot lo 0
  unfolding rounds
  rounds-done zero lo hi h = refl
  rounds-done (suc f) lo hi h = simp (le-ltb lo hi h)

  pub rounds-up : (f lo hi : ℕ) → lo < hi → key (mid lo hi) ≤ x → rounds key x (suc f) lo hi ≡ more 1 (rounds key x f (mid lo hi + 1) hi)
  unfolding rounds
  rounds-up f lo hi h l = simp (lt-ltb lo hi h, le-leb _ _ l)

  pub rounds-down : (f lo hi : ℕ) → lo < hi → x < key (mid lo hi) → rounds key x (suc f) lo hi ≡ more 1 (rounds key x f lo (mid lo hi))
  unfolding rounds
  rounds-down f lo hi h l = simp (lt-ltb lo hi h, lt-leb _ _ l)

  -- any two bounds that suffice give the same
  enough : (f g lo hi : ℕ) → Way key x lo hi → hi - lo ≤ f → hi - lo ≤ g → rounds key x f lo hi ≡ rounds key x g lo hi
  unfolding mid
  enough zero g lo hi w a b = rounds-done zero lo hi (omega arith) ∙ sym (rounds-done g lo hi (omega arith))
  enough (suc f) zero lo hi w a b = rounds-done (suc f) lo hi (omega arith) ∙ sym (rounds-done zero lo hi (omega arith))
  enough (suc f) (suc g) lo hi (done h) a b = rounds-done (suc f) lo hi h ∙ sym (rounds-done (suc g) lo hi h)
  enough (suc f) (suc g) lo hi (up h l) a b =
      rounds-up f lo hi h l ∙ ap (more 1) (enough f g (mid lo hi + 1) hi (way (mid lo hi + 1) hi) (omega arith) (omega arith)) ∙ sym (rounds-up g lo hi h l)
  enough (suc f) (suc g) lo hi (down h l) a b =
      rounds-down f lo hi h l ∙ ap (more 1) (enough f g lo (mid lo hi) (way lo (mid lo hi)) (omega arith) (omega arith)) ∙ sym (rounds-down g lo hi h l)

  pub run-done : (lo hi : ℕ) → hi ≤ lo → run key x lo hi ≡ spot lo 0
  unfolding run
  run-done lo hi h = rounds-done (hi - lo) lo hi h

  pub run_up : (lo hi : ℕ) → lo < hi → key (mid lo hi) ≤ x → run key x lo hi ≡ more 1 (run key x (mid lo hi + 1) hi)
  unfolding run mid
  run_up lo hi h l =
      enough (hi - lo) (suc (hi - lo)) lo hi (up h l) (le_refl _) (omega arith) ∙ rounds-up (hi - lo) lo hi h l
      ∙ ap (more 1) (enough (hi - lo) (hi - (mid lo hi + 1)) (mid lo hi + 1) hi (way _ _) (omega arith) (le_refl _))

  pub run_down : (lo hi : ℕ) → lo < hi → x < key (mid lo hi) → run key x lo hi ≡ more 1 (run key x lo (mid lo hi))
  unfolding run mid
  run_down lo hi h l =
      enough (hi - lo) (suc (hi - lo)) lo hi (down h l) (le_refl _) (omega arith) ∙ rounds-down (hi - lo) lo hi h l
      ∙ ap (more 1) (enough (hi - lo) (mid lo hi - lo) lo (mid lo hi) (way _ _) (omega arith) (le_refl _))

  -- at most k probes where the entries are fewer than 2 ^ k
  few : (f lo hi : ℕ) → Way key x lo hi → (k : ℕ) → hi - lo < 2 ^ k → (rounds key x f lo hi).probes ≤ k
  unfolding mid rounds more
  few zero lo hi w k h = zero-le
  few (suc f) lo hi (done l) k h = rw (rounds-done (suc f) lo hi l) zero-le
  few (suc f) lo hi (up l e) zero h = absurd (omega arith)
  few (suc f) lo hi (up l e) (suc k) h =
      rw (rounds-up f lo hi l e) (omega (arith, few f (mid lo hi + 1) hi (way _ _) k (omega (arith, pow-suc 2 k))))
  few (suc f) lo hi (down l e) zero h = absurd (omega arith)
  few (suc f) lo hi (down l e) (suc k) h =
      rw (rounds-down f lo hi l e) (omega (arith, few f lo (mid lo hi) (way _ _) k (omega (arith, pow-suc 2 k))))

  pub bits : (n k : ℕ) → n < 2 ^ k → (run key x 0 n).probes ≤ k
  unfolding run
  bits n k h = few (n - 0) 0 n (way 0 n) k (omega arith)

  stays : (f lo hi : ℕ) → Way key x lo hi → lo ≤ hi → (rounds key x f lo hi).at ≤ hi
  unfolding mid rounds more
  stays zero lo hi w h = h
  stays (suc f) lo hi (done l) h = rw (rounds-done (suc f) lo hi l) h
  stays (suc f) lo hi (up l e) h = rw (rounds-up f lo hi l e) (stays f (mid lo hi + 1) hi (way _ _) (omega arith))
  stays (suc f) lo hi (down l e) h = rw (rounds-down f lo hi l e) (omega (arith, stays f lo (mid lo hi) (way _ _) (omega arith)))

  -- it ends at one of the entries or just past them
  pub inside : (n : ℕ) → (run key x 0 n).at ≤ n
  unfolding run
  inside n = stays (n - 0) 0 n (way 0 n) zero-le

  some : (lo hi : ℕ) → lo < hi → Way key x lo hi → 1 ≤ (run key x lo hi).probes
  unfolding more
  some lo hi h (done l) = absurd (omega arith)
  some lo hi h (up l e) = rw (run_up lo hi l e) (omega arith)
  some lo hi h (down l e) = rw (run_down lo hi l e) (omega arith)

  -- there is room for one probe more
  pub room : (n k p lo hi : ℕ) → n < 2 ^ k → lo < hi → run key x 0 n ≡ more p (run key x lo hi) → p + 1 ≤ k
  unfolding more
  room n k p lo hi h l e = omega (arith, bits n k h, some lo hi l (way lo hi), ap (λ (q : Spot). q.probes) e)

  -- what the loop keeps, as it starts, goes on and ends
  pub starts : (n : ℕ) → run key x 0 n ≡ more 0 (run key x 0 n)
  unfolding more
  starts n = simp zero-add

  pub goes-up : (n p lo hi : ℕ) → run key x 0 n ≡ more p (run key x lo hi) → lo < hi → key (mid lo hi) ≤ x
      → run key x 0 n ≡ more (p + 1) (run key x (mid lo hi + 1) hi)
  goes-up n p lo hi e h l = e ∙ ap (more p) (run_up lo hi h l) ∙ more-more p 1 (run key x (mid lo hi + 1) hi)

  pub goes_down : (n p lo hi : ℕ) → run key x 0 n ≡ more p (run key x lo hi) → lo < hi → x < key (mid lo hi)
      → run key x 0 n ≡ more (p + 1) (run key x lo (mid lo hi))
  goes_down n p lo hi e h l = e ∙ ap (more p) (run_down lo hi h l) ∙ more-more p 1 (run key x lo (mid lo hi))

  pub ends : (n p lo hi : ℕ) → run key x 0 n ≡ more p (run key x lo hi) → hi ≤ lo → spot lo p ≡ run key x 0 n
  unfolding more
  ends n p lo hi e h = sym (e ∙ ap (more p) (run-done lo hi h) ∙ simp add-zero)

  module _ (n : ℕ) (rising : Rising key n) where
    order : (i j : ℕ) → i ≤ j → j < n → key i ≤ key j
    order i j h l = last (eq-or-lt_of_le h)
      where
        last : (i ≡ j) ⊎ (i < j) → key i ≤ key j
        last (inl e) = rw e (le_refl _)
        last (inr s) = omega (arith, rising i j s l)

    finds : (f lo hi : ℕ) → Way key x lo hi → hi - lo ≤ f → lo ≤ hi → hi ≤ n
        → ((i : ℕ) → i < lo → key i ≤ x) → ((i : ℕ) → hi ≤ i → i < n → x < key i) → Last key x n (rounds key x f lo hi).at
    unfolding mid more
    finds zero lo hi w a b c below above =
        rw (rounds-done zero lo hi (omega arith)) (record { within = omega arith; below = below; above = λ i h. above i (omega arith) })
    finds (suc f) lo hi (done l) a b c below above =
        rw (rounds-done (suc f) lo hi l) (record { within = omega arith; below = below; above = λ i h. above i (omega arith) })
    finds (suc f) lo hi (up l e) a b c below above =
        rw (rounds-up f lo hi l e)
        (finds f (mid lo hi + 1) hi (way _ _) (omega arith) (omega arith) c
        (λ i h. omega (arith, order i (mid lo hi) (omega arith) (omega arith))) above)
    finds (suc f) lo hi (down l e) a b c below above =
        rw (rounds-down f lo hi l e)
        (finds f lo (mid lo hi) (way _ _) (omega arith) (omega arith) (omega arith) below
        (λ i h s. omega (arith, order (mid lo hi) i h s)))

    -- where the keys rise, all before the place found are at most the key sought, and all from it on are above
    pub found : Last key x n (run key x 0 n).at
    unfolding run
    found = finds (n - 0) 0 n (way 0 n) (le_refl _) zero-le (le_refl _) (λ i h. absurd (omega arith)) (λ i h s. absurd (omega arith))
