-- A lookup says 15 exactly if the header is there and its version isn't 1, and on lists that anyone names never.
-- Assumes nothing.
use Prim.Native.Nat.{ℕ, ◌+◌, ◌-◌, ◌≤◌}
use mathlib.Core.Path.{◌≡◌, refl}
use mathlib.Core.Bool.{Bool, true, false, cond}
use mathlib.Core.Logic.{◌↔◌}
use mathlib.Core.List.{List}
use lib.Dec.{eqb}
use lib.ListN.{length}
use Rattle.search.specs.declared.Layout.{Layout}
use Rattle.search.specs.declared.Spot.{Spot}
use Rattle.search.specs.Search.{search_of}
use Rattle.raw.specs.declared.Lists.{Lists}
use Rattle.raw.specs.declared.Page.{Page}
use Rattle.raw.specs.Checked.{Checked, good, refused}
use Rattle.raw.specs.Raw.{version_of, pages_of}
use Rattle.raw.proofs.Numbers.{Behind, of-page, only-15, exactly-15, never-15-in}
use Rattle.entries.specs.declared.Function.{Function}
use Rattle.entries.specs.Section.{first_of, offset_of, function_at}
use Rattle.entries.proofs.Numbers.{of-function-at}
use Rattle.lookup.specs.Lookup.{Looked, found, nothing, refusal, telling, from_spot, from_page, at_page, from_pages, lookup_of, lookup_in, lookup_on}

-- the refusal of a lookup, whatever it probed
abbrev pub refusal_of : Looked → Checked (Unit {0})
refusal_of (found f n) = good tt
refusal_of (nothing n) = good tt
refusal_of (refusal k n) = refused k

of-told : (n : ℕ) (x : Checked Function) → Behind x → Behind (refusal_of (telling n x))
of-told n (good f) h = refl
of-told n (refused k) h = h

module _ (s : List ℕ) (l : Lists) (pc : ℕ) where
  of-spot : (p : ℕ) (pg : Page) (n : ℕ) (spot : Spot) → Behind (refusal_of (from_spot s l p pg n spot))
  unfolding from_spot
  of-spot p pg n spot = by (eqb spot.at 0)
    where
      by : (b : Bool) → Behind (refusal_of (cond b (refusal 12 (n + spot.probes)) (telling (n + spot.probes) (function_at s l p pg (spot.at - 1)))))
      by true = refl
      by false = of-told (n + spot.probes) (function_at s l p pg (spot.at - 1)) (of-function-at s l p pg (spot.at - 1))

  of-read : (p n : ℕ) (x : Checked Page) → Behind x → Behind (refusal_of (from_page s l pc p n x))
  unfolding from_page
  of-read p n (good pg) h = of-spot p pg n _
  of-read p n (refused k) h = h

  of-page-at : (p n : ℕ) → Behind (refusal_of (at_page s l pc p n))
  unfolding at_page
  of-page-at p n = of-read p n _ (of-page s (offset_of s l p) (first_of s l p))

  of-pages : (spot : Spot) → Behind (refusal_of (from_pages s l pc spot))
  unfolding from_pages
  of-pages spot = by (eqb spot.at 0) (eqb spot.at l.pages_len)
    where
      by : (b d : Bool) → Behind (refusal_of (cond b (nothing spot.probes) (cond d (nothing spot.probes) (at_page s l pc (spot.at - 1) spot.probes))))
      by true d = refl
      by false true = refl
      by false false = of-page-at (spot.at - 1) spot.probes

  of-lookup : Behind (refusal_of (lookup_of s l pc))
  unfolding lookup_of
  of-lookup = of-pages (search_of (pages_of s l) Layout.Pages pc)

module _ (s : List ℕ) (pc : ℕ) where
  pub exactly-version : (refusal_of (lookup_on s pc) ≡ refused 15) ↔ ((28 ≤ length s) × (version_of s ≡ 1 → ⊥))
  unfolding lookup_on
  exactly-version = exactly-15 (λ k. refusal k 0) (λ m. lookup_of s m pc) refusal_of (λ k. refl) (λ m. of-lookup s m pc) s

  pub other-version : 28 ≤ length s → (version_of s ≡ 1 → ⊥) → lookup_on s pc ≡ refusal 15 0
  unfolding lookup_on
  other-version = only-15 s (λ k. refusal k 0) (λ m. lookup_of s m pc)

  pub never-in : (l : Lists) → refusal_of (lookup_in s l pc) ≡ refused 15 → ⊥
  unfolding lookup_in
  never-in l = never-15-in (λ k. refusal k 0) (λ m. lookup_of s m pc) refusal_of (λ k. refl) (λ m. of-lookup s m pc) s l
