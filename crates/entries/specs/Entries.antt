-- docs/FORMAT.md, 2.4 to 2.7: the functions of a page.
-- Assumes nothing.
use Rattle.std.specs.Prelude.{ℕ, suc, ◌+◌, ◌-◌, ◌*◌, ◌/◌, List, [], Bool, cond, ◌||◌, length, ltb}
use Rattle.reader.specs.Reader.{granted_of, word_at, part_of, Slice, slice, further}
use Rattle.search.specs.Search.{size_of, key_of}
use Rattle.raw.specs.declared.Kind.{Kind}
use Rattle.raw.specs.declared.Page.{Page}
use Rattle.raw.specs.Checked.{Checked, good, refused, ◌>>=◌, ◌>>◌, check}
use Rattle.raw.specs.Raw.{layout, locals_granted}
use Rattle.entries.specs.declared.Origin.{Origin}
use Rattle.entries.specs.declared.Function.{Function}

-- a page's functions and its local opcodes, as parts of it
unfoldable pub functions_of : List ℕ → Page → List ℕ
functions_of page pg = part_of page pg.functions_offset (size_of (layout pg.kind) * pg.functions_len)

unfoldable pub locals_of : List ℕ → Page → List ℕ
locals_of page pg = part_of page pg.local_opcodes_offset (4 * pg.local_opcodes_len)

-- the four bytes at o, or none
unfoldable pub four_of : List ℕ → ℕ → List ℕ
four_of s o = cond (granted_of 4 s o) (part_of s o 4) []

-- 2.6: an index below the global count names a global opcode; otherwise the global count is subtracted and the local list taken
unfoldable pub is_global : List ℕ → ℕ → Bool
is_global globals index = ltb index (length globals / 4)

unfoldable pub opcode_part : List ℕ → List ℕ → ℕ → List ℕ
opcode_part globals locals index = cond (is_global globals index) (four_of globals (4 * index)) (four_of locals (4 * (index - length globals / 4)))

-- the same with their place: a part of the one list or of the other; none of it stands at the list's start
abbrev pub four_in : Slice → ℕ → Slice
four_in x o = slice (cond (granted_of 4 x.bytes o) (further x.start o) x.start) (four_of x.bytes o)

unfoldable pub opcode_part_in : Slice → Slice → ℕ → Slice
opcode_part_in globals locals index =
    cond (is_global globals.bytes index) (four_in globals (4 * index)) (four_in locals (4 * (index - length globals.bytes / 4)))

-- 2.7, over the list of functions: start and end of function i, whole numbers
module _ (functions : List ℕ) (pg : Page) where
  unfoldable pub start_in : ℕ → ℕ
  start_in i = pg.base + key_of functions (layout pg.kind) i

  unfoldable pub end_in : (next : ℕ) → ℕ → ℕ
  end_in next i = cond (ltb (suc i) pg.functions_len) (start_in (suc i)) next

-- 2.6: the opcode that an index names, where `there` says that the local opcodes are: they count for a local index alone
unfoldable pub resolve_of : List ℕ → List ℕ → Bool → ℕ → Checked ℕ
resolve_of globals locals there index = do
  check 11 (is_global globals index || there)
  check 14 (granted_of 4 (opcode_part globals locals index) 0)
  good (word_at 4 (opcode_part globals locals index) 0)

-- 2.5: the index that a compressed entry has above its address
abbrev pub index_in : List ℕ → ℕ → ℕ
index_in functions i = word_at 4 functions (4 * i) / 16777216

unfoldable pub opcode_in : Kind → List ℕ → List ℕ → Bool → List ℕ → ℕ → Checked ℕ
opcode_in Kind.Regular globals locals there functions i = good (word_at 4 functions (8 * i + 4))
opcode_in Kind.Compressed globals locals there functions i = resolve_of globals locals there (index_in functions i)

-- 2.9: where function i's opcode comes from; and the number of that, where 0 is left for no function
unfoldable pub palette_of : List ℕ → ℕ → Origin
palette_of globals index = cond (is_global globals index) Origin.Global Origin.Local

unfoldable pub origin_in : Kind → List ℕ → List ℕ → ℕ → Origin
origin_in Kind.Regular globals functions i = Origin.Regular
origin_in Kind.Compressed globals functions i = palette_of globals (index_in functions i)

abbrev pub origin_number : Origin → ℕ
origin_number Origin.Regular = 1
origin_number Origin.Global = 2
origin_number Origin.Local = 3

-- function i of page p
abbrev pub function_from : (p i : ℕ) → Origin → (start end opcode : ℕ) → Function
function_from p i origin start end opcode = record { start_address = start; end_address = end; opcode = opcode; page = p; index = i; origin = origin }

unfoldable pub function_in : ℕ → List ℕ → List ℕ → Bool → List ℕ → Page → ℕ → ℕ → Checked Function
function_in p globals locals there functions pg next i = do
  check 13 (ltb (start_in functions pg i) 4294967296)
  check 13 (ltb (end_in functions pg next i) 4294967296)
  opcode ← opcode_in pg.kind globals locals there functions i
  good (function_from p i (origin_in pg.kind globals functions i) (start_in functions pg i) (end_in functions pg next i) opcode)

-- over the page
module _ (page : List ℕ) (pg : Page) where
  unfoldable pub start_of : ℕ → ℕ
  start_of i = start_in (functions_of page pg) pg i

  unfoldable pub end_of : (next : ℕ) → ℕ → ℕ
  end_of next i = end_in (functions_of page pg) pg next i

  unfoldable pub opcode_of : List ℕ → ℕ → Checked ℕ
  opcode_of globals i = opcode_in pg.kind globals (locals_of page pg) (locals_granted page pg) (functions_of page pg) i

  unfoldable pub function_of : (p : ℕ) → List ℕ → (next : ℕ) → ℕ → Checked Function
  function_of p globals next i = function_in p globals (locals_of page pg) (locals_granted page pg) (functions_of page pg) pg next i

-- for the helpers: an opcode with where it comes from
abbrev pub sourced : Origin → Checked ℕ → Checked (ℕ × Origin)
sourced o (good x) = good (x, o)
sourced o (refused k) = refused k
