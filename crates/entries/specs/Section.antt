-- docs/FORMAT.md, 2.2 to 2.7: the pages of a section with its lists, by their number, and their functions.
-- Assumes nothing.
use Rattle.std.specs.Prelude.{ℕ, suc, ◌+◌, ◌-◌, ◌*◌, ◌/◌, List, drop}
use Rattle.reader.specs.Reader.{word_at}
use Rattle.raw.specs.declared.Lists.{Lists}
use Rattle.raw.specs.declared.Page.{Page}
use Rattle.raw.specs.Checked.{Checked}
use Rattle.raw.specs.Raw.{globals_of, pages_of, first_in, offset_in, open_of}
use Rattle.entries.specs.declared.Origin.{Origin}
use Rattle.entries.specs.declared.Function.{Function}
use Rattle.entries.specs.declared.Place.{Place}
use Rattle.entries.specs.Entries.{function_of}

-- first address of page p, and the part of the section that is the page
unfoldable pub first_of : List ℕ → Lists → ℕ → ℕ
first_of s l p = first_in (pages_of s l) p

unfoldable pub offset_of : List ℕ → Lists → ℕ → ℕ
offset_of s l p = offset_in (pages_of s l) p

unfoldable pub page_at : List ℕ → Lists → ℕ → List ℕ
page_at s l p = drop (offset_of s l p) s

-- page p opened whole, and function i of it
unfoldable pub opened_at : List ℕ → Lists → ℕ → Checked Page
opened_at s l p = open_of s (offset_of s l p) (first_of s l p)

unfoldable pub function_at : List ℕ → Lists → ℕ → Page → ℕ → Checked Function
function_at s l p pg i = function_of (page_at s l p) pg p (globals_of s l) (first_of s l (suc p)) i

-- the place of page p, read as pg
abbrev pub place_at : List ℕ → Lists → ℕ → Page → Place
place_at s l p pg = record { index = p; offset = offset_of s l p; next = first_of s l (suc p); page = pg }

-- 2.9: where in the section the opcode of function i of page p stands, by its origin; a compressed entry has the opcode's index in its highest byte
module _ (s : List ℕ) (l : Lists) (pg : Page) (p i : ℕ) where
  abbrev pub entries_at : ℕ
  entries_at = offset_of s l p + pg.functions_offset

  abbrev pub index_at : ℕ
  index_at = word_at 4 s (entries_at + 4 * i) / 16777216

  abbrev pub opcode_at : Origin → ℕ
  opcode_at Origin.Regular = entries_at + (8 * i + 4)
  opcode_at Origin.Global = l.global_opcodes_offset + 4 * index_at
  opcode_at Origin.Local = offset_of s l p + pg.local_opcodes_offset + 4 * (index_at - l.global_opcodes_len)
