-- The lists that the encoder takes, as docs/FORMAT.md, 8.3, describes them: exactly those that the test passes.
-- Assumes nothing.
use Prim.Native.Nat.{ℕ, zero, suc, ◌+◌, ◌-◌, ◌<◌, ◌≤◌}
use mathlib.Core.Path.{◌≡◌, refl, ap, sym, ◌∙◌, subst}
use mathlib.Core.Bool.{Bool, true, false, not, ◌&&◌, ◌||◌}
use mathlib.Core.List.{List, [], ◌∷◌}
use native.Mathlib.Omega.{arith}
use native.Mathlib.Nat.{le_of_suc-le-suc, not-suc-le-zero}
use lib.Dec.{eqb}
use lib.ListN.{length, get_or, take, drop, replicate, length-drop, get_or-replicate}
use lib.Seq.{get_or-take, get_or-drop, length-take-le}
use borrow.Author.Tests.{le-leb, eqb-true, eqb-false, eq-eqb, ne_eqb, not-true}
use Rattle.permutation.specs.Permutation.{named, member, every, distinct, encoding, encoding_of, encode_of}
use Rattle.permutation.proofs.Tests.{both_left, both_right, every-at, at_every}
use Rattle.permutation.proofs.Flagged.{flag-says, free_of}
use Rattle.permutation.proofs.Laws.{encode-cases}

-- no member, and no place that has it
pub member-not : (x : ℕ) (xs : List ℕ) → member x xs ≡ false → (i : ℕ) → i < length xs → x ≡ get_or xs i 0 → ⊥
member-not x [] m i h e = not-suc-le-zero h
member-not x (y ∷ xs) m i h e = go (eqb x y) refl m i h e (member-not x xs)
  where
    go : (b : Bool) → eqb x y ≡ b → (b || member x xs) ≡ false → (i : ℕ) → i < suc (length xs) → x ≡ get_or (y ∷ xs) i 0
        → (member x xs ≡ false → (j : ℕ) → j < length xs → x ≡ get_or xs j 0 → ⊥) → ⊥
    go true q k i h e r = let z : ◌≡◌ {A = ℕ} 0 1 = cc in omega arith
    go false q k zero h e r = eqb-false x y q e
    go false q k (suc i) h e r = r k i (le_of_suc-le-suc h) e

pub not-member : (x : ℕ) (xs : List ℕ) → ((i : ℕ) → i < length xs → x ≡ get_or xs i 0 → ⊥) → member x xs ≡ false
not-member x [] n = refl
not-member x (y ∷ xs) n = simp (ne_eqb x y (n 0 (omega arith)), not-member x xs (λ i h. n (suc i) (omega arith)))

distinct-at : (xs : List ℕ) → distinct xs ≡ true → (i j : ℕ) → i < j → j < length xs → get_or xs i 0 ≡ get_or xs j 0 → ⊥
distinct-at [] t i j l h e = not-suc-le-zero h
distinct-at (x ∷ xs) t i zero l h e = not-suc-le-zero l
distinct-at (x ∷ xs) t zero (suc j) l h e =
    member-not x xs (not-true (member x xs) (both_left (not (member x xs)) (distinct xs) t)) j (le_of_suc-le-suc h) e
distinct-at (x ∷ xs) t (suc i) (suc j) l h e =
    distinct-at xs (both_right (not (member x xs)) (distinct xs) t) i j (le_of_suc-le-suc l) (le_of_suc-le-suc h) e

at-distinct : (xs : List ℕ) → ((i j : ℕ) → i < j → j < length xs → get_or xs i 0 ≡ get_or xs j 0 → ⊥) → distinct xs ≡ true
at-distinct [] n = refl
at-distinct (x ∷ xs) n =
    simp (not-member x xs (λ i h. n 0 (suc i) (omega arith) (omega arith)), at-distinct xs (λ i j l h. n (suc i) (suc j) (omega arith) (omega arith)))

-- the numbers from 1 to 6 name registers
pub names : (x : ℕ) → 1 ≤ x → x ≤ 6 → member x named ≡ true
names x l h =
    let e : 1 + (x - 1) ≡ x = omega arith in
    subst (λ (y : ℕ). member y named ≡ true) e
    (flag-says 1 (replicate 6 false) (x - 1) (omega arith) ∙ ap not (get_or-replicate 6 (x - 1) false false (omega arith)))

pub names-only : (x : ℕ) → member x named ≡ true → (1 ≤ x) × (x ≤ 6)
names-only x m = let f = free_of (replicate 6 false) x m in (f.low, f.high)

-- A count up to 6 and six numbers: as many distinct ones from 1 to 6, then zeros.
pub record Listed (n : ℕ) (xs : List ℕ) : Type 0 where
  pub count : n ≤ 6
  pub from-1-to-6 : (i : ℕ) → i < n → (1 ≤ get_or xs i 0) × (get_or xs i 0 ≤ 6)
  pub apart : (i j : ℕ) → i < j → j < n → get_or xs i 0 ≡ get_or xs j 0 → ⊥
  pub then-zeros : (i : ℕ) → n ≤ i → i < 6 → get_or xs i 0 ≡ 0

module _ (n : ℕ) (xs : List ℕ) (six : length xs ≡ 6) where
  -- The encoder accepts exactly these lists.
  pub encode-accepts : Listed n xs → encode_of n xs ≡ encoding (encoding_of n xs)
  unfolding encode_of
  encode-accepts d =
      let l : length (take n xs) ≡ n = length-take-le n xs (omega (arith, d.count)) in
      let a = at_every (λ (x : ℕ). member x named) (take n xs) (λ i h.
      subst (λ (v : ℕ). member v named ≡ true) (sym (get_or-take n xs i 0 (omega arith)))
      (names (get_or xs i 0) (d.from-1-to-6 i (omega arith)).0 (d.from-1-to-6 i (omega arith)).1)) in
      let b = at-distinct (take n xs) (λ i j p h e.
      d.apart i j p (omega arith) (sym (get_or-take n xs i 0 (omega arith)) ∙ e ∙ get_or-take n xs j 0 (omega arith))) in
      let c = at_every (eqb 0) (drop n xs) (λ i h.
      eq-eqb 0 (get_or (drop n xs) i 0) (sym (get_or-drop n xs i 0 ∙ d.then-zeros (n + i) (omega arith) (omega (arith, length-drop n xs, d.count))))) in
      simp (le-leb n 6 d.count, a, b, c)

  pub encode-accepts-only : (e : ℕ) → encode_of n xs ≡ encoding e → Listed n xs
  encode-accepts-only e q =
      let c = encode-cases n xs e q in
      let l : length (take n xs) ≡ n = length-take-le n xs (omega (arith, c.0)) in
      let all = every (λ (x : ℕ). member x named) (take n xs) in
      let both = both_left (all && distinct (take n xs)) (every (eqb 0) (drop n xs)) c.1 in
      record {
        count = c.0;
        from-1-to-6 = λ i h.
            names-only (get_or xs i 0)
            (subst (λ (v : ℕ). member v named ≡ true) (get_or-take n xs i 0 h)
            (every-at (λ (x : ℕ). member x named) (take n xs) (both_left all (distinct (take n xs)) both) i (omega arith)));
        apart = λ i j p h e.
            distinct-at (take n xs) (both_right all (distinct (take n xs)) both) i j p (omega arith)
            (get_or-take n xs i 0 (omega arith) ∙ e ∙ sym (get_or-take n xs j 0 h));
        then-zeros = λ i p h.
            let k : n + (i - n) ≡ i = omega arith in
            subst (λ (v : ℕ). get_or xs v 0 ≡ 0) k
            (sym (get_or-drop n xs (i - n) 0)
            ∙ sym (eqb-true 0 (get_or (drop n xs) (i - n) 0) (every-at (eqb 0) (drop n xs) (both_right (all && distinct (take n xs)) (every (eqb 0) (drop n xs)) c.1) (i - n) (omega (arith, length-drop n xs)))));
      }
