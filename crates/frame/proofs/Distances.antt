-- What holds of a frame's slots holds of the distances that they give the registers.
-- Assumes nothing.
use Prim.Native.Nat.{ℕ, zero, suc, ◌<◌}
use mathlib.Core.Path.{◌≡◌, refl, ap, ap₂, sym, ◌∙◌, subst}
use mathlib.Core.List.{List, [], ◌∷◌}
use mathlib.Core.Bool.{Bool, true, false}
use native.Mathlib.Omega.{arith}
use borrow.Author.Tests.{eqb-true, eqb-false}
use lib.Dec.{eqb}
use lib.ListN.{length, get_or, set, replicate, length-set}
use lib.Seq.{get_or-set_same, get_or-set_other}
use Rattle.frame.specs.Frame.{Slot, distances, all_inside, restored}
use Rattle.frame.specs.Calls.{All, Unlisted}

-- what holds of each slot's register and distance holds of each distance that is not 0
pub distances-all : (Q : ℕ → ℕ → Type 0) (ds : List ℕ) (ss : List Slot) → ((r : ℕ) → (get_or ds r 0 ≡ 0 → ⊥) → Q r (get_or ds r 0))
    → All (λ (s : Slot). (s.reg < length ds) × Q s.reg s.below) ss → (r : ℕ) → (get_or (distances ds ss) r 0 ≡ 0 → ⊥) → Q r (get_or (distances ds ss) r 0)
distances-all Q ds [] p a = p
distances-all Q ds (s ∷ ss) p a =
    distances-all Q (set ds s.reg s.below) ss (λ r. go r (eqb r s.reg) refl)
    (subst (λ (n : ℕ). All (λ (t : Slot). (t.reg < n) × Q t.reg t.below) ss) (sym (length-set ds s.reg s.below)) a.1)
  where
    go : (r : ℕ) (b : Bool) → eqb r s.reg ≡ b → (get_or (set ds s.reg s.below) r 0 ≡ 0 → ⊥) → Q r (get_or (set ds s.reg s.below) r 0)
    go r true e h =
        let q : r ≡ s.reg = eqb-true r s.reg e in
        rw (q, get_or-set_same ds s.reg s.below 0 a.0.0) a.0.1
    go r false e h =
        let g : get_or (set ds s.reg s.below) r 0 ≡ get_or ds r 0 = get_or-set_other ds s.reg r s.below 0 (eqb-false r s.reg e) in
        rw g (p r (λ z. h (g ∙ z)))

-- a register at distance 0 is not listed
pub distances-zero : (ds : List ℕ) (ss : List Slot) → All (λ (s : Slot). (s.reg < length ds) × (0 < s.below)) ss → (r : ℕ)
    → get_or (distances ds ss) r 0 ≡ 0 → (get_or ds r 0 ≡ 0) × Unlisted ss r
distances-zero ds [] a r e = (e, tt)
distances-zero ds (s ∷ ss) a r e =
    go (eqb r s.reg) refl
    (distances-zero (set ds s.reg s.below) ss
    (subst (λ (n : ℕ). All (λ (t : Slot). (t.reg < n) × (0 < t.below)) ss) (sym (length-set ds s.reg s.below)) a.1) r e)
  where
    go : (b : Bool) → eqb r s.reg ≡ b → (get_or (set ds s.reg s.below) r 0 ≡ 0) × Unlisted ss r → (get_or ds r 0 ≡ 0) × Unlisted (s ∷ ss) r
    go true q i =
        let z : get_or (set ds s.reg s.below) r 0 ≡ s.below =
        ap (λ (k : ℕ). get_or (set ds s.reg s.below) k 0) (eqb-true r s.reg q) ∙ get_or-set_same ds s.reg s.below 0 a.0.0 in
        absurd (omega (arith, a.0.1, i.0))
    go false q i =
        let n = eqb-false r s.reg q in
        (sym (get_or-set_other ds s.reg r s.below 0 n) ∙ i.0, (λ h. n (sym h), i.1))

pub length-distances : (ds : List ℕ) (ss : List Slot) → length (distances ds ss) ≡ length ds
length-distances ds [] = refl
length-distances ds (s ∷ ss) = length-distances (set ds s.reg s.below) ss ∙ length-set ds s.reg s.below

pub all-inside : (f : ℕ → Bool) (ds : List ℕ) → ((r : ℕ) → (get_or ds r 0 ≡ 0 → ⊥) → f (get_or ds r 0) ≡ true) → all_inside f ds ≡ true
all-inside f [] h = refl
all-inside f (zero ∷ ds) h = all-inside f ds (λ r. h (suc r))
all-inside f (suc d ∷ ds) h = rw (h 0 (λ z. omega arith)) (all-inside f ds (λ r. h (suc r)))

pub restored-is : (f : ℕ → ℕ) (ds ks es : List ℕ) → length ks ≡ length es → length ds ≡ length es
    → ((r : ℕ) → get_or ds r 0 ≡ 0 → get_or ks r 0 ≡ get_or es r 0) → ((r : ℕ) → (get_or ds r 0 ≡ 0 → ⊥) → f (get_or ds r 0) ≡ get_or es r 0)
    → restored f ds ks ≡ es
restored-is f [] [] [] lk ld z n = refl
restored-is f [] [] (e ∷ es) lk ld z n = absurd (omega arith)
restored-is f [] (k ∷ ks) [] lk ld z n = absurd (omega arith)
restored-is f [] (k ∷ ks) (e ∷ es) lk ld z n = absurd (omega arith)
restored-is f (d ∷ ds) [] [] lk ld z n = refl
restored-is f (d ∷ ds) [] (e ∷ es) lk ld z n = absurd (omega arith)
restored-is f (d ∷ ds) (k ∷ ks) [] lk ld z n = absurd (omega arith)
restored-is f (zero ∷ ds) (k ∷ ks) (e ∷ es) lk ld z n =
    ap₂ ◌∷◌ (z 0 refl) (restored-is f ds ks es (omega arith) (omega arith) (λ r. z (suc r)) (λ r. n (suc r)))
restored-is f (suc d ∷ ds) (k ∷ ks) (e ∷ es) lk ld z n =
    ap₂ ◌∷◌ (n 0 (λ q. omega arith)) (restored-is f ds ks es (omega arith) (omega arith) (λ r. z (suc r)) (λ r. n (suc r)))

pub get_or-zeroes : (n k : ℕ) → get_or {A = ℕ} (replicate n 0) k 0 ≡ 0
get_or-zeroes zero k = refl
get_or-zeroes (suc n) zero = refl
get_or-zeroes (suc n) (suc k) = get_or-zeroes n k
