-- A lookup's steps after each of its two searches.
-- Assumes nothing.
use Prim.Native.Nat.{ℕ, ◌+◌, ◌-◌}
use mathlib.Core.Path.{◌≡◌}
use mathlib.Core.List.{List}
use borrow.Author.Tests.{eq-eqb, ne_eqb}
use Rattle.search.specs.declared.Spot.{Spot}
use Rattle.raw.specs.declared.Lists.{Lists}
use Rattle.raw.specs.declared.Page.{Page}
use Rattle.entries.specs.Section.{function_at}
use Rattle.lookup.specs.Lookup.{nothing, refusal, telling, from_spot, at_page, from_pages}

-- after the search of pages
module _ (s : List ℕ) (l : Lists) (pc : ℕ) (spot : Spot) where
  pub no-page : spot.at ≡ 0 → from_pages s l pc spot ≡ nothing spot.probes
  unfolding from_pages
  no-page e = simp (eq-eqb _ _ e)

  pub last-page : (spot.at ≡ 0 → ⊥) → spot.at ≡ l.pages_len → from_pages s l pc spot ≡ nothing spot.probes
  unfolding from_pages
  last-page h e = simp (ne_eqb spot.at 0 h, eq-eqb spot.at l.pages_len e)

  pub a-page : (spot.at ≡ 0 → ⊥) → (spot.at ≡ l.pages_len → ⊥) → from_pages s l pc spot ≡ at_page s l pc (spot.at - 1) spot.probes
  unfolding from_pages
  a-page h e = simp (ne_eqb spot.at 0 h, ne_eqb spot.at l.pages_len e)

-- after the search in a page
module _ (s : List ℕ) (l : Lists) (p : ℕ) (pg : Page) (probes : ℕ) (spot : Spot) where
  pub a-function : (spot.at ≡ 0 → ⊥) → from_spot s l p pg probes spot ≡ telling (probes + spot.probes) (function_at s l p pg (spot.at - 1))
  unfolding from_spot
  a-function h = simp (ne_eqb spot.at 0 h)

  pub no-function : spot.at ≡ 0 → from_spot s l p pg probes spot ≡ refusal 12 (probes + spot.probes)
  unfolding from_spot
  no-function e = simp (eq-eqb spot.at 0 e)
