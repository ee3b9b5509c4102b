-- docs/FORMAT.md, 2.4 to 2.7: function i of a page, by the page's place in the section. Anyone may name the numbers, so what is read is granted anew.
-- Assumes nothing.
use Rattle.std.specs.Prelude.{ℕ, ◌+◌, ◌*◌, List, [], Bool, cond, ◌&&◌, ltb}
use Rattle.reader.specs.Reader.{granted_of, word_at, part_of, Slice, slice, part_in}
use Rattle.search.specs.Search.{size_of}
use Rattle.raw.specs.declared.Error.{Error}
use Rattle.raw.specs.declared.Kind.{Kind}
use Rattle.raw.specs.declared.Page.{Page}
use Rattle.raw.specs.Checked.{Checked, good, refused, ◌>>◌, check, number_of}
use Rattle.raw.specs.Raw.{layout}
use Rattle.entries.specs.declared.Origin.{Origin}
use Rattle.entries.specs.declared.Function.{Function}
use Rattle.entries.specs.declared.Entry.{Entry}
use Rattle.entries.specs.declared.Place.{Place}
use Rattle.entries.specs.Entries.{start_in, opcode_in, origin_in, function_from, function_in, sourced}

-- its functions and its local opcodes: where they start, whether they lie in the section, and their bytes
abbrev pub first_at : Place → ℕ
first_at q = q.offset + q.page.functions_offset

abbrev pub size_at : Place → ℕ
size_at q = size_of (layout q.page.kind) * q.page.functions_len

abbrev pub locals_from : Place → ℕ
locals_from q = q.offset + q.page.local_opcodes_offset

unfoldable pub list_there : List ℕ → Place → Bool
list_there s q = granted_of (size_at q) s (first_at q)

unfoldable pub list_at : List ℕ → Place → List ℕ
list_at s q = part_of s (first_at q) (size_at q)

unfoldable pub locals_there : List ℕ → Place → Bool
locals_there s q = granted_of (4 * q.page.local_opcodes_len) s (locals_from q)

unfoldable pub locals_at : List ℕ → Place → List ℕ
locals_at s q = part_of s (locals_from q) (4 * q.page.local_opcodes_len)

-- the list has entry i, and lies in the section
unfoldable pub entry_there : List ℕ → Place → ℕ → Bool
entry_there s q i = ltb i q.page.functions_len && list_there s q

-- the functions with their place; none where they don't lie in the section
abbrev pub list_in : Slice → Place → Slice
list_in x q = cond (list_there x.bytes q) (part_in x (first_at q) (size_at q)) (slice x.start [])

-- 8 or 10, as for a page whose functions don't lie in the section
abbrev pub no_entry : Kind → Error
no_entry Kind.Regular = Error.RegularPageFunctions
no_entry Kind.Compressed = Error.CompressedPageFunctions

-- function i: the list has it and lies in the section, and then it is what 2.6, 2.7 and 2.9 say
unfoldable pub read_of : List ℕ → List ℕ → Place → ℕ → Checked Function
read_of s globals q i = do
  check (number_of (no_entry q.page.kind)) (entry_there s q i)
  function_in q.index globals (locals_at s q) (locals_there s q) (list_at s q) q.page q.next i

-- for the helpers: entry i of a list; past the last, the next page's first address
unfoldable pub entry_in : List ℕ → Page → ℕ → ℕ → Entry
entry_in list pg next i =
    cond (ltb i pg.functions_len) (record { word = word_at 4 list (size_of (layout pg.kind) * i); start = start_in list pg i }) (record { word = 0; start = next })

-- the opcode of function i, with where it comes from
abbrev pub opcode_for : List ℕ → List ℕ → Place → ℕ → Checked (ℕ × Origin)
opcode_for s globals q i = sourced (origin_in q.page.kind globals (list_at s q) i) (opcode_in q.page.kind globals (locals_at s q) (locals_there s q) (list_at s q) i)

-- function i from a start to an end
abbrev pub spanning : Place → ℕ → (start end : ℕ) → Checked (ℕ × Origin) → Checked Function
spanning q i start end (good x) = good (function_from q.index i x.1 start end x.0)
spanning q i start end (refused k) = refused k
