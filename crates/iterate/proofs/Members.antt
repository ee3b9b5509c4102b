-- What is iterated: a function of a page that opens, or a page's refusal.
-- Assumes nothing.
use Prim.Native.Nat.{ℕ, zero, suc, ◌+◌, ◌-◌, ◌<◌}
use mathlib.Core.Path.{◌≡◌, refl}
use mathlib.Core.Logic.{◌⊎◌, inl, inr}
use mathlib.Core.List.Memᴰ
use mathlib.Core.List.{List, Memᴰ}
use native.Mathlib.Nat.{zero-add, add-zero}
use native.Mathlib.Omega.{arith}
use Rattle.raw.specs.declared.Lists.{Lists}
use Rattle.raw.specs.declared.Page.{Page}
use Rattle.entries.specs.declared.Function.{Function}
use Rattle.raw.specs.Checked.{Checked, good, refused}
use Rattle.entries.specs.Section.{opened_at, function_at}
use Rattle.iterate.specs.Iterate.{functions_from, in_pages, pages_from, iterated}

-- where an answer stands
pub data Place (s : List ℕ) (l : Lists) (a : Checked Function) : Type 0 where
  function : (p i : ℕ) (pg : Page) → p + 1 < l.pages_len → opened_at s l p ≡ good pg → i < pg.functions_len → a ≡ function_at s l p pg i → Place s l a
  page : (p k : ℕ) → p + 1 < l.pages_len → opened_at s l p ≡ refused k → a ≡ refused k → Place s l a

module _ (s : List ℕ) (l : Lists) (a : Checked Function) where
  in-functions : (p : ℕ) (pg : Page) → p + 1 < l.pages_len → opened_at s l p ≡ good pg
      → (k i : ℕ) → i + k ≡ pg.functions_len → Memᴰ a (functions_from s l p pg k i) → Place s l a
  unfolding functions_from
  in-functions p pg h e zero i n m = absurd (Memᴰ.not-nil m)
  in-functions p pg h e (suc k) i n m = either (in-functions p pg h e k (i + 1) (omega arith)) (Memᴰ.cases_cons m)
    where
      either : (Memᴰ a (functions_from s l p pg k (i + 1)) → Place s l a) → (a ≡ function_at s l p pg i) ⊎ Memᴰ a (functions_from s l p pg k (i + 1)) → Place s l a
      either later (inl q) = function p i pg h e (omega arith) q
      either later (inr r) = later r

  in-pages : (left p : ℕ) → p + left ≡ l.pages_len - 1 → Memᴰ a (pages_from s l left p) → Place s l a
  unfolding pages_from in_pages
  in-pages zero p n m = absurd (Memᴰ.not-nil m)
  in-pages (suc left) p n m = either (in-pages left (p + 1) (omega arith)) (Memᴰ.append_cases _ m)
    where
      opens : (o : Checked Page) → opened_at s l p ≡ o → Memᴰ a (in_pages s l p o) → Place s l a
      opens (good pg) e m = in-functions p pg (omega arith) e pg.functions_len 0 (omega arith) m
      opens (refused k) e m = page p k (omega arith) e (Memᴰ.eq_of_singleton m)

      either : (Memᴰ a (pages_from s l left (p + 1)) → Place s l a) → Memᴰ a (in_pages s l p (opened_at s l p)) ⊎ Memᴰ a (pages_from s l left (p + 1)) → Place s l a
      either later (inl q) = opens (opened_at s l p) refl q
      either later (inr r) = later r

  pub place : Memᴰ a (iterated s l) → Place s l a
  unfolding iterated
  place m = in-pages (l.pages_len - 1) 0 (omega arith) m

  -- and the other way
  of-functions : (p : ℕ) (pg : Page) (k i d : ℕ) → d < k → a ≡ function_at s l p pg (i + d) → Memᴰ a (functions_from s l p pg k i)
  unfolding functions_from
  of-functions p pg zero i d h e = absurd (omega arith)
  of-functions p pg (suc k) i zero h e = Memᴰ.head (rw add-zero at e)
  of-functions p pg (suc k) i (suc d) h e =
      let n : i + suc d ≡ i + 1 + d = omega arith in
      Memᴰ.tail (of-functions p pg k (i + 1) d (omega arith) (rw n at e))

  of-pages : (left p d : ℕ) → d < left → Memᴰ a (in_pages s l (p + d) (opened_at s l (p + d))) → Memᴰ a (pages_from s l left p)
  unfolding pages_from
  of-pages zero p d h m = absurd (omega arith)
  of-pages (suc left) p zero h m = Memᴰ.append_left _ (rw add-zero at m)
  of-pages (suc left) p (suc d) h m =
      let n : p + suc d ≡ p + 1 + d = omega arith in
      Memᴰ.append_right (in_pages s l p (opened_at s l p)) (of-pages left (p + 1) d (omega arith) (rw n at m))

  pub member : Place s l a → Memᴰ a (iterated s l)
  unfolding iterated in_pages
  member (function p i pg h e t q) =
      of-pages (l.pages_len - 1) 0 p (omega arith)
      (simp (zero-add, e) (of-functions p pg pg.functions_len 0 i t (simp zero-add q)))
  member (page p k h e q) = of-pages (l.pages_len - 1) 0 p (omega arith) (simp (zero-add, e) (Memᴰ.head q))
