-- What the helpers promise: the lookup in a page that was read (docs/FORMAT.md, 4.1), over its index, its bytes and the next page's first address.
-- Assumes nothing.
use Rattle.std.specs.Prelude.{ℕ, ◌+◌, ◌-◌, ◌≡◌, List, cond, eqb}
use Rattle.search.specs.declared.Spot.{Spot}
use Rattle.search.specs.Search.{search_of}
use Rattle.raw.specs.declared.Page.{Page}
use Rattle.raw.specs.Checked.{good}
use Rattle.raw.specs.Raw.{layout, page_of}
use Rattle.entries.specs.declared.Place.{Place}
use Rattle.entries.specs.Entries.{functions_of, function_of}
use Rattle.lookup.specs.Lookup.{Looked, refusal, telling}

-- the page at the place was read, under some first address
abbrev pub WasRead : List ℕ → Place → Type 0
WasRead s q = (first : ℕ) × (page_of s q.offset first ≡ good q.page)

module _ (p : ℕ) (globals page : List ℕ) (pg : Page) (next : ℕ) where
  unfoldable pub found_in : ℕ → Spot → Looked
  found_in probes spot =
      cond (eqb spot.at 0) (refusal 12 (probes + spot.probes)) (telling (probes + spot.probes) (function_of page pg p globals next (spot.at - 1)))

  unfoldable pub searched_in : ℕ → ℕ → Looked
  searched_in pc probes = found_in probes (search_of (functions_of page pg) (layout pg.kind) (pc - pg.base))
