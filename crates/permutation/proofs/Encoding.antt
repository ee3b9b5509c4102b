-- What holds at each turn of the encoder's loop.
-- Assumes nothing.
use Prim.Native.Nat.{ℕ, suc, ◌+◌, ◌*◌, ◌<◌, ◌≤◌}
use mathlib.Core.Path.{◌≡◌, refl, ap, sym, ◌∙◌, subst}
use mathlib.Core.Bool.{Bool, true, false, not, ◌&&◌}
use mathlib.Core.List.{List, [], ◌∷◌}
use native.Mathlib.Omega.{arith}
use native.Mathlib.Nat.{mul-le-mul}
use lib.Dec.{eqb}
use lib.ListN.{length, get_or, set, take, drop, length-set}
use lib.Seq.{drop-cons, drop-length, length-take-le}
use borrow.Author.Tests.{le-leb, lt-leb}
use Rattle.permutation.specs.Permutation.{weights, weighted, named, before, without, ranks, member, every, Written, encoding, listed, encoding_of, encode_of}
use Rattle.permutation.specs.Flags.{unused, unset}
use Rattle.permutation.proofs.Choosing.{drawn, drawn-is}
use Rattle.permutation.proofs.Flagged.{used-up, flag-says, before-says}

-- The first i of ys were drawn, and weighed into the sum; the rest is still to be drawn from the unused ones.
pub record Turn (ws ys : List ℕ) (used : List Bool) (sum i : ℕ) : Type 0 where
  pub upto : i ≤ length ys
  pub flags : length used ≡ 6
  pub tested : drawn named ys ≡ drawn (unused used) (drop i ys)
  pub weighed : weighted ws (ranks named ys) ≡ sum + weighted (drop i ws) (ranks (unused used) (drop i ys))
  pub small : sum ≤ 720 * i

module _ (ws ys : List ℕ) (used : List Bool) (sum i : ℕ) (t : Turn ws ys used sum i) (wl : i < length ws) (h : i < length ys) where
  -- a number that names no unused register
  pub refused : member (get_or ys i 0) (unused used) ≡ false → drawn named ys ≡ false
  refused m = t.tested ∙ rw (drop-cons ys i 0 h, m)

  -- the register at place x is drawn: its digit is weighed, and it is used
  pub next : (x rank : ℕ) → suc x ≡ get_or ys i 0 → x < 6 → get_or used x false ≡ false → rank ≡ unset (take x used) → rank ≤ 6 → get_or ws i 0 ≤ 120
      → Turn ws ys (set used x true) (sum + get_or ws i 0 * rank) (suc i)
  next x rank ex xl e er r6 w120 =
      let xu : x < length used = omega (arith, t.flags) in
      let one : 1 + x ≡ get_or ys i 0 = omega arith in
      let m : member (get_or ys i 0) (unused used) ≡ true =
      subst (λ (v : ℕ). member v (unused used) ≡ true) one (flag-says 1 used x xu ∙ ap not e) in
      let b : before (unused used) (get_or ys i 0) ≡ unset (take x used) =
      subst (λ (v : ℕ). before (unused used) v ≡ unset (take x used)) one (before-says 1 used x xu e) in
      let u : without (unused used) (before (unused used) (get_or ys i 0)) ≡ unused (set used x true) =
      ap (without (unused used)) b ∙ sym (used-up 1 used x xu e) in
      let rest : List ℕ = ranks (unused (set used x true)) (drop (suc i) ys) in
      let ranked : ranks (unused used) (drop i ys) ≡ rank ∷ rest =
      ap (ranks (unused used)) (drop-cons ys i 0 h)
      ∙ ap (λ (l : List ℕ). before (unused used) (get_or ys i 0) ∷ ranks l (drop (suc i) ys)) u
      ∙ ap (λ (k : ℕ). k ∷ rest) (b ∙ sym er) in
      let weighs : weighted (drop i ws) (ranks (unused used) (drop i ys)) ≡ get_or ws i 0 * rank + weighted (drop (suc i) ws) rest =
      ap (λ (l : List ℕ). weighted l (ranks (unused used) (drop i ys))) (drop-cons ws i 0 wl)
      ∙ ap (weighted (get_or ws i 0 ∷ drop (suc i) ws)) ranked in
      record {
        upto = h;
        flags = length-set used x true ∙ t.flags;
        tested =
            t.tested ∙ ap (drawn (unused used)) (drop-cons ys i 0 h)
            ∙ ap (λ (v : Bool). v && drawn (without (unused used) (before (unused used) (get_or ys i 0))) (drop (suc i) ys)) m
            ∙ ap (λ (l : List ℕ). drawn l (drop (suc i) ys)) u;
        weighed = t.weighed ∙ omega (arith, weighs);
        small = omega (arith, t.small, at_most (get_or ws i 0) rank w120 r6);
      }
    where
      at_most : (a b : ℕ) → a ≤ 120 → b ≤ 6 → a * b ≤ 720
      at_most a b p q = mul-le-mul p q

-- the list is listed exactly if its first n places were drawn and nothing stands after them
pub listed-is : (n : ℕ) (xs : List ℕ) → listed n xs ≡ (drawn named (take n xs) && every (eqb 0) (drop n xs))
listed-is n xs = ap (λ (b : Bool). b && every (eqb 0) (drop n xs)) (sym (drawn-is named refl (take n xs)))

-- what the encoder answers where it stops
pub refuses-count : (n : ℕ) (xs : List ℕ) → 6 < n → encode_of n xs ≡ Written.refused 28
unfolding encode_of
refuses-count n xs h = simp (lt-leb n 6 h)

pub refuses-drawn : (n : ℕ) (xs : List ℕ) → n ≤ 6 → drawn named (take n xs) ≡ false → encode_of n xs ≡ Written.refused 28
unfolding encode_of
refuses-drawn n xs h e =
    let l : listed n xs ≡ false = listed-is n xs ∙ ap (λ (b : Bool). b && every (eqb 0) (drop n xs)) e in
    simp (le-leb n 6 h, l)

pub refuses-rest : (n : ℕ) (xs : List ℕ) → n ≤ 6 → every (eqb 0) (drop n xs) ≡ false → encode_of n xs ≡ Written.refused 28
unfolding encode_of
refuses-rest n xs h e =
    let l : listed n xs ≡ false = listed-is n xs ∙ ap (λ (b : Bool). drawn named (take n xs) && b) e ∙ never (drawn named (take n xs)) in
    simp (le-leb n 6 h, l)
  where
    never : (b : Bool) → (b && false) ≡ false
    never true = refl
    never false = refl

pub accepts : (n : ℕ) (xs : List ℕ) (used : List Bool) (sum : ℕ) → n ≤ 6 → length xs ≡ 6 → Turn (weights n) (take n xs) used sum n
    → every (eqb 0) (drop n xs) ≡ true → encode_of n xs ≡ encoding sum
unfolding encode_of
accepts n xs used sum h l t z =
    let k : length (take n xs) ≡ n = length-take-le n xs (omega arith) in
    let none : drop n (take n xs) ≡ [] = subst (λ (v : ℕ). drop v (take n xs) ≡ []) k (drop-length (take n xs)) in
    let d : drawn named (take n xs) ≡ true = t.tested ∙ ap (drawn (unused used)) none in
    let w : encoding_of n xs ≡ sum =
    t.weighed ∙ ap (λ (v : List ℕ). sum + weighted (drop n (weights n)) (ranks (unused used) v)) none ∙ empty (drop n (weights n)) in
    let q : listed n xs ≡ true = listed-is n xs ∙ ap (λ (b : Bool). b && every (eqb 0) (drop n xs)) d ∙ z in
    simp (le-leb n 6 h, q) (ap encoding w)
  where
    empty : (ws : List ℕ) → sum + weighted ws [] ≡ sum
    empty [] = omega arith
    empty (w ∷ ws) = omega arith
