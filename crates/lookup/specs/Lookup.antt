-- docs/FORMAT.md, 4.1 and 4.2: lookup, what it tells, with the entries that it probed.
-- Assumes nothing.
use Rattle.std.specs.Prelude.{ℕ, ◌+◌, ◌-◌, ◌≤◌, ◌<◌, List, cond, eqb, Option, Some, None, Result, Ok, Err}
use Rattle.search.specs.declared.Layout.{Layout}
use Rattle.search.specs.declared.Spot.{Spot}
use Rattle.search.specs.Search.{search_of}
use Rattle.raw.specs.declared.Lists.{Lists}
use Rattle.raw.specs.declared.Page.{Page}
use Rattle.raw.specs.declared.Error.{Error}
use Rattle.raw.specs.Checked.{Checked, good, refused, either, number_of}
use Rattle.raw.specs.Raw.{parse_of, grant_of, pages_of, page_of, layout}
use Rattle.raw.specs.Section.{Standing}
use Rattle.entries.specs.declared.Function.{Function}
use Rattle.entries.specs.Entries.{functions_of}
use Rattle.entries.specs.Section.{first_of, offset_of, page_at, function_at}
use Rattle.lookup.specs.declared.Found.{Found}

pub data Looked : Type 0 where
  found : Function → (probes : ℕ) → Looked
  nothing : (probes : ℕ) → Looked
  refusal : (number probes : ℕ) → Looked

abbrev pub told_with : ℕ → Result (Option Function) Error → Looked
told_with probes (Ok (Some f)) = found f probes
told_with probes (Ok None) = nothing probes
told_with probes (Err e) = refusal (number_of e) probes

abbrev pub looked_told : Found → Looked
looked_told r = told_with r.probes r.function

abbrev pub telling : ℕ → Checked Function → Looked
telling probes (good f) = found f probes
telling probes (refused k) = refusal k probes

-- the function before the place where the search in the page ended
unfoldable pub from_spot : List ℕ → Lists → ℕ → Page → ℕ → Spot → Looked
from_spot s l p pg probes spot =
    cond (eqb spot.at 0) (refusal 12 (probes + spot.probes)) (telling (probes + spot.probes) (function_at s l p pg (spot.at - 1)))

-- page p, read without its local opcodes' check; in a compressed page the key is pc - first_address
unfoldable pub from_page : List ℕ → Lists → ℕ → ℕ → ℕ → Checked Page → Looked
from_page s l pc p probes (good pg) = from_spot s l p pg probes (search_of (functions_of (page_at s l p) pg) (layout pg.kind) (pc - pg.base))
from_page s l pc p probes (refused k) = refusal k probes

unfoldable pub at_page : List ℕ → Lists → ℕ → ℕ → ℕ → Looked
at_page s l pc p probes = from_page s l pc p probes (page_of s (offset_of s l p) (first_of s l p))

-- the page before the place where the search of pages ended; none, or the last: nothing
unfoldable pub from_pages : List ℕ → Lists → ℕ → Spot → Looked
from_pages s l pc spot =
    cond (eqb spot.at 0) (nothing spot.probes) (cond (eqb spot.at l.pages_len) (nothing spot.probes) (at_page s l pc (spot.at - 1) spot.probes))

unfoldable pub lookup_of : List ℕ → Lists → ℕ → Looked
lookup_of s l pc = from_pages s l pc (search_of (pages_of s l) Layout.Pages pc)

-- over the bytes with the lists' places, granted anew, and over the bytes alone
unfoldable pub lookup_in : List ℕ → Lists → ℕ → Looked
lookup_in s l pc = either (λ k. refusal k 0) (λ m. lookup_of s m pc) (grant_of s l)

unfoldable pub lookup_on : List ℕ → ℕ → Looked
lookup_on s pc = either (λ k. refusal k 0) (λ m. lookup_of s m pc) (parse_of s)

-- for the helpers: over a section, or what refused it
abbrev pub looked_on : Checked Standing → ℕ → Looked
looked_on x pc = either (λ k. refusal k 0) (λ z. lookup_of z.bytes.bytes z.lists pc) x

-- the entries that a lookup probed
abbrev pub probes_of : Looked → ℕ
probes_of (found f n) = n
probes_of (nothing n) = n
probes_of (refusal k n) = n

-- docs/FORMAT.md, 0.2: the function covers the address
pub record Covers (f : Function) (pc : ℕ) : Type 0 where
  pub starts : f.start_address ≤ pc
  pub ends : pc < f.end_address
