-- The searches of a lookup run over as many entries as the lists and pages say they have.
-- Assumes nothing.
use Prim.Native.Nat.{ℕ, ◌*◌}
use mathlib.Core.Path.{◌≡◌, ap}
use mathlib.Core.List.{List}
use native.Mathlib.Omega.{arith}
use lib.ListN.{length}
use Rattle.reader.proofs.Laws.{fits, length_part}
use Rattle.search.specs.declared.Layout.{Layout}
use Rattle.search.specs.Search.{size_of, count_of, key_of, run, search_of}
use Rattle.raw.specs.declared.Lists.{Lists}
use Rattle.raw.specs.declared.Page.{Page}
use Rattle.raw.specs.Checked.{good}
use Rattle.raw.specs.Raw.{grant_of, pages_of, first_in, page_of, layout}
use Rattle.raw.proofs.Grants.{granted, length-pages}
use Rattle.raw.proofs.Opens.{opened-reads, functions-granted}
use Rattle.entries.specs.Entries.{functions_of}
use Rattle.entries.specs.Section.{first_of, offset_of, page_at, opened_at}

-- a list that is so many entries long has so many
counts : (list : List ℕ) (y : Layout) (n : ℕ) → length list ≡ size_of y * n → count_of list y ≡ n
unfolding count_of
counts list Layout.Pages n e = omega arith
counts list Layout.Regular n e = omega arith
counts list Layout.Compressed n e = omega arith

-- the list of pages, where it is granted
module _ (s : List ℕ) (l : Lists) (g : grant_of s l ≡ good l) where
  pub count-pages : count_of (pages_of s l) Layout.Pages ≡ l.pages_len
  count-pages = counts (pages_of s l) Layout.Pages l.pages_len (length-pages s l (granted s l l g).2)

  pub search-pages : (pc : ℕ) → search_of (pages_of s l) Layout.Pages pc ≡ run (first_of s l) pc 0 l.pages_len
  unfolding search_of first_of first_in
  search-pages pc = ap (run (key_of (pages_of s l) Layout.Pages) pc 0) count-pages

-- a page that opened whole
module _ (s : List ℕ) (l : Lists) (p : ℕ) (pg : Page) (o : opened_at s l p ≡ good pg) where
  pub reads : page_of s (offset_of s l p) (first_of s l p) ≡ good pg
  unfolding opened_at
  reads = (opened-reads s (offset_of s l p) (first_of s l p) pg o).0

  pub count-functions : count_of (functions_of (page_at s l p) pg) (layout pg.kind) ≡ pg.functions_len
  unfolding functions_of page_at
  count-functions =
      counts (functions_of (page_at s l p) pg) (layout pg.kind) pg.functions_len
      (length_part (page_at s l p) pg.functions_offset (size_of (layout pg.kind) * pg.functions_len)
      (fits (size_of (layout pg.kind) * pg.functions_len) (page_at s l p) pg.functions_offset (functions-granted s (offset_of s l p) (first_of s l p) pg reads)))

  pub search-functions : (x : ℕ) → search_of (functions_of (page_at s l p) pg) (layout pg.kind) x ≡ run (key_of (functions_of (page_at s l p) pg) (layout pg.kind)) x 0 pg.functions_len
  unfolding search_of
  search-functions x = ap (run (key_of (functions_of (page_at s l p) pg) (layout pg.kind)) x 0) count-functions
