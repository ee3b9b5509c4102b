-- docs/FORMAT.md, 2.1 to 2.5: a section's lists and pages.
-- Assumes nothing.
use Rattle.std.specs.Prelude.{ℕ, ◌+◌, ◌*◌, List, Bool, cond, drop, eqb}
use Rattle.reader.specs.Reader.{granted_of, word_at, part_of}
use Rattle.search.specs.declared.Layout.{Layout}
use Rattle.search.specs.Search.{key_of}
use Rattle.raw.specs.declared.Lists.{Lists}
use Rattle.raw.specs.declared.Kind.{Kind}
use Rattle.raw.specs.declared.Page.{Page}
use Rattle.raw.specs.declared.PageEntry.{PageEntry}
use Rattle.raw.specs.Checked.{Checked, good, refused, ◌>>=◌, ◌>>◌, check}

-- 2.1: the two lists lie in the section
unfoldable pub grant_of : List ℕ → Lists → Checked Lists
grant_of s l = do
  check 2 (granted_of (4 * l.global_opcodes_len) s l.global_opcodes_offset)
  check 3 (granted_of (12 * l.pages_len) s l.pages_offset)
  good l

-- 2.1: what the header names: version, then offset and count of global opcodes, of personalities, of pages
abbrev pub version_of : List ℕ → ℕ
version_of s = word_at 4 s 0

unfoldable pub header_of : List ℕ → Lists
header_of s =
    record { global_opcodes_offset = word_at 4 s 4; global_opcodes_len = word_at 4 s 8; pages_offset = word_at 4 s 20; pages_len = word_at 4 s 24 }

-- 2.1: version 1 alone is read
unfoldable pub parse_of : List ℕ → Checked Lists
parse_of s = do
  check 1 (granted_of 28 s 0)
  check 15 (eqb (version_of s) 1)
  grant_of s (header_of s)

-- the bytes of the two lists
unfoldable pub globals_of : List ℕ → Lists → List ℕ
globals_of s l = part_of s l.global_opcodes_offset (4 * l.global_opcodes_len)

unfoldable pub pages_of : List ℕ → Lists → List ℕ
pages_of s l = part_of s l.pages_offset (12 * l.pages_len)

-- 2.2: page entry p: first_address, page_offset
unfoldable pub first_in : List ℕ → ℕ → ℕ
first_in pages p = key_of pages Layout.Pages p

unfoldable pub offset_in : List ℕ → ℕ → ℕ
offset_in pages p = word_at 4 pages (12 * p + 4)

-- both, and where the next page starts
abbrev pub entry_of : List ℕ → ℕ → PageEntry
entry_of pages p = record { first = first_in pages p; offset = offset_in pages p; next = first_in pages (p + 1) }

-- 2.3 to 2.5: a page is the part of the section that starts at its page_offset; the two kinds, without the local opcodes' check
unfoldable pub regular_of : List ℕ → Checked Page
regular_of page = do
  check 7 (granted_of 8 page 0)
  check 8 (granted_of (8 * word_at 2 page 6) page (word_at 2 page 4))
  good (record { kind = Kind.Regular; base = 0; functions_offset = word_at 2 page 4; functions_len = word_at 2 page 6; local_opcodes_offset = 0; local_opcodes_len = 0 })

unfoldable pub compressed_of : List ℕ → ℕ → Checked Page
compressed_of page first = do
  check 9 (granted_of 12 page 0)
  check 10 (granted_of (4 * word_at 2 page 6) page (word_at 2 page 4))
  good (record { kind = Kind.Compressed; base = first; functions_offset = word_at 2 page 4; functions_len = word_at 2 page 6; local_opcodes_offset = word_at 2 page 8; local_opcodes_len = word_at 2 page 10 })

unfoldable pub by_kind : ℕ → List ℕ → ℕ → Checked Page
by_kind kind page first =
    cond (eqb kind 2) (regular_of page) (cond (eqb kind 3) (compressed_of page first) (cond (eqb kind 1) (refused 5) (refused 6)))

unfoldable pub page_of : List ℕ → ℕ → ℕ → Checked Page
page_of s offset first = do
  check 4 (granted_of 4 s offset)
  by_kind (word_at 4 s offset) (drop offset s) first

-- 2.5: the local opcodes; a regular page has none, so they are granted
unfoldable pub locals_granted : List ℕ → Page → Bool
locals_granted page pg = granted_of (4 * pg.local_opcodes_len) page pg.local_opcodes_offset

-- 2.5: the page opened whole, as in iteration
unfoldable pub open_of : List ℕ → ℕ → ℕ → Checked Page
open_of s offset first = do
  pg ← page_of s offset first
  check 11 (locals_granted (drop offset s) pg)
  good pg

-- how the entries of a page's functions lie
abbrev pub layout : Kind → Layout
layout Kind.Regular = Layout.Regular
layout Kind.Compressed = Layout.Compressed
