-- For the contracts of helpers: the pages of four addresses, and what the search in a page tells (docs/FORMAT.md, 4.1).
-- Assumes nothing.
use Rattle.std.specs.Prelude.{ℕ, suc, ◌+◌, ◌-◌, ◌<◌, ◌≡◌, cond, List, eqb}
use Rattle.reader.specs.Reader.{Slice}
use Rattle.search.specs.declared.four.Four.{Four}
use Rattle.search.specs.declared.Layout.{Layout}
use Rattle.search.specs.declared.Spot.{Spot}
use Rattle.search.specs.Search.{search_of, spots_in}
use Rattle.raw.specs.declared.Kind.{Kind}
use Rattle.raw.specs.declared.Lists.{Lists}
use Rattle.raw.specs.Checked.{Checked, good}
use Rattle.raw.specs.Raw.{pages_of, page_of}
use Rattle.entries.specs.declared.Function.{Function}
use Rattle.entries.specs.Placed.{list_in}
use Rattle.entries.specs.Section.{first_of, offset_of}
use Rattle.lookup.specs.Lookup.{Looked, refusal, telling}
use Rattle.batch.specs.declared.pages.PageFound.{PageFound}

-- the page there was read as one of the kind
pub record Read (s : List ℕ) (index offset first next probes : ℕ) (kind : Kind) (m : PageFound) : Type 0 where
  pub reads : page_of s offset first ≡ good m.place.page
  pub place : m.place ≡ record { index = index; offset = offset; next = next; page = m.place.page }
  pub kind-is : m.place.page.kind ≡ kind
  pub probed : m.probes ≡ probes
  pub small : m.place.page.functions_len < 4294967296

-- page p of that kind, before the place where the search of pages ended
pub record PageOf (s : List ℕ) (l : Lists) (spot : Spot) (kind : Kind) (m : PageFound) : Type 0 where
  pub p : ℕ
  pub ends : spot.at ≡ p + 1
  pub before_last : p + 1 < l.pages_len
  pub page : Read s p (offset_of s l p) (first_of s l p) (first_of s l (suc p)) spot.probes kind m

-- the pages where four searches ended
pub record PagesOf (s : List ℕ) (l : Lists) (spots : Four Spot) (kind : Kind) (m : Four PageFound) : Type 0 where
  pub a : PageOf s l spots.a kind m.a
  pub b : PageOf s l spots.b kind m.b
  pub c : PageOf s l spots.c kind m.c
  pub d : PageOf s l spots.d kind m.d

-- the page of an address
abbrev pub PageFor : List ℕ → Lists → Kind → PageFound → ℕ → Type 0
PageFor s l kind m pc = PageOf s l (search_of (pages_of s l) Layout.Pages pc) kind m

-- four addresses with their pages
abbrev pub PagesFor : List ℕ → Lists → Kind → Four PageFound → Four ℕ → Type 0
PagesFor s l kind m x =
    let pages = pages_of s l in
    PagesOf s l (spots_in Layout.Pages pages pages pages pages x) kind m

-- the functions of each page
abbrev pub lists_in : Slice → Four PageFound → Four (List ℕ)
lists_in x m =
    record {
      a = (list_in x m.a.place).bytes;
      b = (list_in x m.b.place).bytes;
      c = (list_in x m.c.place).bytes;
      d = (list_in x m.d.place).bytes;
    }

-- what is sought in each: the address above the page's base
abbrev pub keys_in : Four PageFound → Four ℕ → Four ℕ
keys_in m x =
    record {
      a = x.a - m.a.place.page.base;
      b = x.b - m.b.place.page.base;
      c = x.c - m.c.place.page.base;
      d = x.d - m.d.place.page.base;
    }

-- the function before the place where the search in a page ended
unfoldable pub tell_of : ℕ → Spot → Checked Function → Looked
tell_of probes spot f = cond (eqb spot.at 0) (refusal 12 (probes + spot.probes)) (telling (probes + spot.probes) f)
