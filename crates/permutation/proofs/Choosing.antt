-- Digits and the registers that they choose, over any list of distinct unused registers.
-- Assumes nothing.
use Prim.Native.Nat.{ℕ, zero, suc, pred, ◌<◌}
use mathlib.Core.Path.{◌≡◌, refl, ap, sym, ◌∙◌, subst}
use mathlib.Core.Bool.{Bool, true, false, not, ◌&&◌, ◌||◌}
use mathlib.Core.List.{List, [], ◌∷◌}
use native.Mathlib.Omega.{arith}
use native.Mathlib.Nat.{le_of_suc-le-suc, not-suc-le-zero}
use lib.Dec.{eqb}
use lib.ListN.{length, get_or}
use borrow.Author.Tests.{eqb-true, eqb-false, eq-eqb, ne_eqb, not-true}
use Rattle.permutation.specs.Permutation.{without, chosen, before, ranks, member, every, distinct}
use Rattle.permutation.proofs.Tests.{both_left, both_right}
use Rattle.permutation.proofs.Digits.{Small}

and-true : (a : Bool) → a ≡ (a && true)
and-true true = refl
and-true false = refl

-- one element fewer
pub length_without : (u : List ℕ) (d : ℕ) → d < length u → length u ≡ suc (length (without u d))
length_without [] d h = absurd (not-suc-le-zero h)
length_without (x ∷ u) zero h = refl
length_without (x ∷ u) (suc d) h = ap suc (length_without u d (le_of_suc-le-suc h))

eqb-self : (n : ℕ) → eqb n n ≡ true
eqb-self n = eq-eqb n n refl

member-at : (u : List ℕ) (d : ℕ) → d < length u → member (get_or u d 0) u ≡ true
member-at [] d h = absurd (not-suc-le-zero h)
member-at (x ∷ u) zero h = simp eqb-self
member-at (x ∷ u) (suc d) h = go (eqb (get_or u d 0) x) (member-at u d (le_of_suc-le-suc h))
  where
    go : (b : Bool) → member (get_or u d 0) u ≡ true → (b || member (get_or u d 0) u) ≡ true
    go true i = refl
    go false i = i

-- what is no member equals none of the elements
other : (x : ℕ) (u : List ℕ) → member x u ≡ false → (d : ℕ) → d < length u → eqb (get_or u d 0) x ≡ false
other x [] m d h = absurd (not-suc-le-zero h)
other x (y ∷ u) m zero h = go (eqb x y) refl m
  where
    go : (b : Bool) → eqb x y ≡ b → (b || member x u) ≡ false → eqb y x ≡ false
    go true e k = absurd (let z : ◌≡◌ {A = ℕ} 0 1 = cc in omega arith)
    go false e k = ne_eqb y x (λ q. eqb-false x y e (sym q))
other x (y ∷ u) m (suc d) h = other x u (go (eqb x y) m) d (le_of_suc-le-suc h)
  where
    go : (b : Bool) → (b || member x u) ≡ false → member x u ≡ false
    go true k = absurd (let z : ◌≡◌ {A = ℕ} 0 1 = cc in omega arith)
    go false k = k

-- among distinct elements, as many stand before the d-th as its place says
pub before_at : (u : List ℕ) → distinct u ≡ true → (d : ℕ) → d < length u → before u (get_or u d 0) ≡ d
before_at [] t d h = absurd (not-suc-le-zero h)
before_at (x ∷ u) t zero h = simp eqb-self
before_at (x ∷ u) t (suc d) h =
    let l = le_of_suc-le-suc h in
    let o = other x u (not-true (member x u) (both_left (not (member x u)) (distinct u) t)) d l in
    simp o (ap suc (before_at u (both_right (not (member x u)) (distinct u) t) d l))

-- a member stands where as many as stand before it say
pub record Stands (u : List ℕ) (x : ℕ) : Type 0 where
  pub within : before u x < length u
  pub there : get_or u (before u x) 0 ≡ x

pub stands : (u : List ℕ) (x : ℕ) → member x u ≡ true → Stands u x
stands [] x m = absurd (let z : ◌≡◌ {A = ℕ} 0 1 = cc in omega arith)
stands (y ∷ u) x m = go (eqb x y) refl m (stands u x)
  where
    go : (b : Bool) → eqb x y ≡ b → (b || member x u) ≡ true → (member x u ≡ true → Stands u x) → Stands (y ∷ u) x
    go true e k i = record { within = simp e (omega arith); there = simp e (sym (eqb-true x y e)) }
    go false e k i =
        let s = i k in
        record { within = simp e (omega (arith, s.within)); there = simp e s.there }

-- an element is a member after the d-th is taken away exactly if it was one and is another
member-without : (u : List ℕ) → distinct u ≡ true → (d : ℕ) → d < length u → (y : ℕ)
    → member y (without u d) ≡ (member y u && not (eqb y (get_or u d 0)))
member-without [] t d h y = absurd (not-suc-le-zero h)
member-without (x ∷ u) t zero h y = go (eqb y x) refl
  where
    go : (b : Bool) → eqb y x ≡ b → member y u ≡ ((b || member y u) && not b)
    go true e =
        let n = not-true (member x u) (both_left (not (member x u)) (distinct u) t) in
        ap (λ (z : ℕ). member z u) (eqb-true y x e) ∙ n
    go false e = and-true (member y u)
member-without (x ∷ u) t (suc d) h y =
    go (eqb y x) refl (member-without u (both_right (not (member x u)) (distinct u) t) d (le_of_suc-le-suc h) y)
  where
    go : (b : Bool) → eqb y x ≡ b → member y (without u d) ≡ (member y u && not (eqb y (get_or u d 0)))
        → (b || member y (without u d)) ≡ ((b || member y u) && not (eqb y (get_or u d 0)))
    go true e i =
        let n = not-true (member x u) (both_left (not (member x u)) (distinct u) t) in
        let o = other x u n d (le_of_suc-le-suc h) in
        sym (ap not (ne_eqb y (get_or u d 0) (λ q. eqb-false (get_or u d 0) x o (sym q ∙ eqb-true y x e))))
    go false e i = i

distinct_without : (u : List ℕ) → distinct u ≡ true → (d : ℕ) → d < length u → distinct (without u d) ≡ true
distinct_without [] t d h = absurd (not-suc-le-zero h)
distinct_without (x ∷ u) t zero h = both_right (not (member x u)) (distinct u) t
distinct_without (x ∷ u) t (suc d) h =
    let n = not-true (member x u) (both_left (not (member x u)) (distinct u) t) in
    let m = both_right (not (member x u)) (distinct u) t in
    simp (member-without u m d (le_of_suc-le-suc h) x, n, distinct_without u m d (le_of_suc-le-suc h))

-- small digits: the registers that they choose have these ranks
pub ranks-chosen : (u ds : List ℕ) → distinct u ≡ true → Small (length u) ds → ranks u (chosen u ds) ≡ ds
ranks-chosen u [] t s = refl
ranks-chosen u (d ∷ ds) t s =
    let p : pred (length u) ≡ length (without u d) = omega (arith, length_without u d s.0) in
    rw (before_at u t d s.0, ranks-chosen (without u d) ds (distinct_without u t d s.0) (subst (λ (k : ℕ). Small k ds) p s.1))

-- each of xs is unused, and then used
abbrev pub drawn : List ℕ → List ℕ → Bool
drawn u [] = true
drawn u (x ∷ xs) = member x u && drawn (without u (before u x)) xs

-- registers drawn from the unused ones: their ranks are small, and choose these registers
pub record Ranked (u xs : List ℕ) : Type 0 where
  pub small : Small (length u) (ranks u xs)
  pub again : chosen u (ranks u xs) ≡ xs

pub ranked : (u xs : List ℕ) → drawn u xs ≡ true → Ranked u xs
ranked u [] t = record { small = tt; again = refl }
ranked u (x ∷ xs) t =
    let s = stands u x (both_left (member x u) (drawn (without u (before u x)) xs) t) in
    let i = ranked (without u (before u x)) xs (both_right (member x u) (drawn (without u (before u x)) xs) t) in
    let p : length (without u (before u x)) ≡ pred (length u) = omega (arith, length_without u (before u x) s.within) in
    record {
      small = (s.within, subst (λ (k : ℕ). Small k (ranks (without u (before u x)) xs)) p i.small);
      again = rw (s.there, i.again);
    }

pub drawn-chosen : (u ds : List ℕ) → distinct u ≡ true → Small (length u) ds → drawn u (chosen u ds) ≡ true
drawn-chosen u [] t s = refl
drawn-chosen u (d ∷ ds) t s =
    let p : pred (length u) ≡ length (without u d) = omega (arith, length_without u d s.0) in
    simp (member-at u d s.0, before_at u t d s.0)
    (drawn-chosen (without u d) ds (distinct_without u t d s.0) (subst (λ (k : ℕ). Small k ds) p s.1))

pub length-chosen : (u ds : List ℕ) → length (chosen u ds) ≡ length ds
length-chosen u [] = refl
length-chosen u (d ∷ ds) = ap suc (length-chosen (without u d) ds)

pub length-ranks : (u xs : List ℕ) → length (ranks u xs) ≡ length xs
length-ranks u [] = refl
length-ranks u (x ∷ xs) = ap suc (length-ranks (without u (before u x)) xs)

-- drawn one after the other: all members, and distinct
every-without : (u : List ℕ) → distinct u ≡ true → (x : ℕ) → member x u ≡ true → (xs : List ℕ)
    → every (λ (y : ℕ). member y (without u (before u x))) xs ≡ (every (λ (y : ℕ). member y u) xs && not (member x xs))
every-without u t x m [] = refl
every-without u t x m (y ∷ xs) =
    let s = stands u x m in
    let w : member y (without u (before u x)) ≡ (member y u && not (eqb y x)) =
    member-without u t (before u x) s.within y ∙ ap (λ (z : ℕ). member y u && not (eqb y z)) s.there in
    simp (w, every-without u t x m xs) (sort (member y u) (eqb y x) (eqb x y) (every (λ (z : ℕ). member z u) xs) (member x xs) (swap y x))
  where
    swap : (a b : ℕ) → eqb a b ≡ eqb b a
    swap a b = go (eqb a b) refl
      where
        go : (v : Bool) → eqb a b ≡ v → v ≡ eqb b a
        go true e = sym (eq-eqb b a (sym (eqb-true a b e)))
        go false e = sym (ne_eqb b a (λ q. eqb-false a b e (sym q)))

    sort : (a e f c d : Bool) → e ≡ f → (a && not e && (c && not d)) ≡ (a && c && not (f || d))
    sort true true true true d p = refl
    sort true true true false d p = refl
    sort true false false true d p = refl
    sort true false false false d p = refl
    sort false true true c d p = refl
    sort false false false c d p = refl
    sort a true false c d p = absurd (let z : ◌≡◌ {A = ℕ} 0 1 = cc in omega arith)
    sort a false true c d p = absurd (let z : ◌≡◌ {A = ℕ} 0 1 = cc in omega arith)

pub drawn-is : (u : List ℕ) → distinct u ≡ true → (xs : List ℕ) → drawn u xs ≡ (every (λ (y : ℕ). member y u) xs && distinct xs)
drawn-is u t [] = refl
drawn-is u t (x ∷ xs) = go (member x u) refl (λ k. drawn-is (without u (before u x)) k xs)
  where
    sort : (c d e : Bool) → (c && not d && e) ≡ (c && (not d && e))
    sort true d e = refl
    sort false d e = refl

    go : (b : Bool) → member x u ≡ b
        → (distinct (without u (before u x)) ≡ true → drawn (without u (before u x)) xs ≡ (every (λ (y : ℕ). member y (without u (before u x))) xs && distinct xs))
        → (b && drawn (without u (before u x)) xs) ≡ (b && every (λ (y : ℕ). member y u) xs && (not (member x xs) && distinct xs))
    go false e i = refl
    go true e i =
        i (distinct_without u t (before u x) (stands u x e).within)
        ∙ ap (λ (b : Bool). b && distinct xs) (every-without u t x e xs)
        ∙ sort (every (λ (y : ℕ). member y u) xs) (member x xs) (distinct xs)
