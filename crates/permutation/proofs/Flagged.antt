-- The flags of the code and the list of unused registers that they stand for.
-- Assumes nothing.
use Prim.Native.Nat.{ℕ, zero, suc, ◌+◌, ◌<◌, ◌≤◌}
use mathlib.Core.Path.{◌≡◌, refl, ap, sym, ◌∙◌}
use mathlib.Core.Bool.{Bool, true, false, cond, not}
use mathlib.Core.List.{List, [], ◌∷◌}
use native.Mathlib.Omega.{arith}
use native.Mathlib.Nat.{le_of_suc-le-suc, not-suc-le-zero}
use lib.ListN.{length, get_or, set, take}
use native.Mathlib.Decide.{dec_le, dec_lt}
use borrow.Author.Tests.{eq-eqb, ne_eqb, not-true}
use Rattle.std.specs.List.{count_by}
use Rattle.std.proofs.lemmas.List.Recursion.{is_count_by}
use Rattle.permutation.specs.Permutation.{without, before, member}
use Rattle.permutation.specs.Flags.{unused_from, unused, unset}

-- once an unused place p is used, its register is gone: as many are unused before it as places before p are
pub used-up : (r : ℕ) (fs : List Bool) (p : ℕ) → p < length fs → get_or fs p false ≡ false → unused_from r (set fs p true) ≡ without (unused_from r fs) (unset (take p fs))
used-up r [] p h e = absurd (not-suc-le-zero h)
used-up r (false ∷ fs) zero h e = refl
used-up r (true ∷ fs) zero h e = absurd (let z : ◌≡◌ {A = ℕ} 0 1 = cc in omega arith)
used-up r (false ∷ fs) (suc p) h e = ap (λ (l : List ℕ). r ∷ l) (used-up (suc r) fs p (le_of_suc-le-suc h) e)
used-up r (true ∷ fs) (suc p) h e = used-up (suc r) fs p (le_of_suc-le-suc h) e

-- the flags that are not set, counted
pub unset-counted : (fs : List Bool) → unset fs ≡ count_by not fs
unset-counted = is_count_by unset not refl step
  where
    step : (f : Bool) (fs : List Bool) → unset (f ∷ fs) ≡ cond (not f) (1 + unset fs) (unset fs)
    step false fs = omega arith
    step true fs = refl

-- registers before the first flag's, and after the last flag's, are not among the unused
pub not-before : (r x : ℕ) (fs : List Bool) → x < r → member x (unused_from r fs) ≡ false
not-before r x [] h = refl
not-before r x (false ∷ fs) h = simp (ne_eqb x r (omega arith), not-before (suc r) x fs (omega arith))
not-before r x (true ∷ fs) h = not-before (suc r) x fs (omega arith)

pub not_after : (r x : ℕ) (fs : List Bool) → r + length fs ≤ x → member x (unused_from r fs) ≡ false
not_after r x [] h = refl
not_after r x (false ∷ fs) h = simp (ne_eqb x r (omega arith), not_after (suc r) x fs (omega arith))
not_after r x (true ∷ fs) h = not_after (suc r) x fs (omega arith)

-- register r + p is unused exactly if its flag is not set, and then as many unused ones stand before it as there are unset flags before its own
pub flag-says : (r : ℕ) (fs : List Bool) (p : ℕ) → p < length fs → member (r + p) (unused_from r fs) ≡ not (get_or fs p false)
flag-says r [] p h = absurd (not-suc-le-zero h)
flag-says r (false ∷ fs) zero h = simp (eq-eqb (r + 0) r (omega arith))
flag-says r (true ∷ fs) zero h = not-before (suc r) (r + 0) fs (omega arith)
flag-says r (false ∷ fs) (suc p) h =
    simp (ne_eqb (r + suc p) r (omega arith))
    (ap (λ (x : ℕ). member x (unused_from (suc r) fs)) (omega arith) ∙ flag-says (suc r) fs p (le_of_suc-le-suc h))
flag-says r (true ∷ fs) (suc p) h =
    ap (λ (x : ℕ). member x (unused_from (suc r) fs)) (omega arith) ∙ flag-says (suc r) fs p (le_of_suc-le-suc h)

pub before-says : (r : ℕ) (fs : List Bool) (p : ℕ) → p < length fs → get_or fs p false ≡ false → before (unused_from r fs) (r + p) ≡ unset (take p fs)
before-says r [] p h e = absurd (not-suc-le-zero h)
before-says r (false ∷ fs) zero h e = simp (eq-eqb (r + 0) r (omega arith))
before-says r (true ∷ fs) zero h e = absurd (let z : ◌≡◌ {A = ℕ} 0 1 = cc in omega arith)
before-says r (false ∷ fs) (suc p) h e =
    simp (ne_eqb (r + suc p) r (omega arith))
    (ap suc (ap (before (unused_from (suc r) fs)) (omega arith) ∙ before-says (suc r) fs p (le_of_suc-le-suc h) e))
before-says r (true ∷ fs) (suc p) h e =
    ap (before (unused_from (suc r) fs)) (omega arith) ∙ before-says (suc r) fs p (le_of_suc-le-suc h) e

-- what is unused is a register, and its flag is not set
pub record Free (fs : List Bool) (x : ℕ) : Type 0 where
  pub low : 0 < x
  pub high : x ≤ length fs
  pub flag : (p : ℕ) → suc p ≡ x → get_or fs p false ≡ false

pub free_of : (fs : List Bool) (x : ℕ) → member x (unused fs) ≡ true → Free fs x
free_of fs x m =
    let l : 0 < x = low (dec_lt 0 x) in
    let h : x ≤ length fs = high (dec_le x (length fs)) in
    record {
      low = l;
      high = h;
      flag = λ p e.
          let q : 1 + p ≡ x = omega arith in
          not-true (get_or fs p false) (sym (flag-says 1 fs p (omega arith)) ∙ ap (λ (v : ℕ). member v (unused fs)) q ∙ m);
    }
  where
    low : Dec (0 < x) → 0 < x
    low (yes p) = p
    low (no p) = absurd (let f = not-before 1 x fs (omega arith) in let z : ◌≡◌ {A = ℕ} 0 1 = cc in omega arith)

    high : Dec (x ≤ length fs) → x ≤ length fs
    high (yes p) = p
    high (no p) = absurd (let f = not_after 1 x fs (omega arith) in let z : ◌≡◌ {A = ℕ} 0 1 = cc in omega arith)
