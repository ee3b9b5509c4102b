-- What is asked of a section in the worked examples, and what the contracts' definitions answer.
-- Assumes nothing.
use Prim.Native.Nat.{ℕ}
use mathlib.Core.Bool.{Bool}
use mathlib.Core.List.{List, map}
use Rattle.reader.specs.Reader.{number_at, granted_of, read_of, word_at, part_of}
use Rattle.search.specs.Search.{count_of, key_of, mid, more, rounds, run, search_of}
use Rattle.raw.specs.Checked.{Checked}
use Rattle.raw.specs.Raw.{grant_of, header_of, parse_of, globals_of, pages_of, first_in, offset_in, regular_of, compressed_of, by_kind, page_of, locals_granted, open_of}
use Rattle.entries.specs.Entries.{functions_of, locals_of, four_of, is_global, opcode_part, start_in, end_in, resolve_of, opcode_in, palette_of, origin_in, function_in, start_of, function_of}
use Rattle.entries.specs.Section.{first_of, offset_of, page_at, opened_at, function_at}
use Rattle.iterate.specs.declared.Cursor.{Cursor}
use Rattle.iterate.specs.declared.Range.{Range}
use Rattle.iterate.specs.Iterate.{Step, in_page, next_from, next_of, next_on}
use Rattle.iterate.specs.Range.{range_of, range_on}
use Rattle.lookup.specs.Lookup.{Looked, from_spot, from_page, at_page, from_pages, lookup_of, lookup_on}
use Rattle.well_formed.specs.WellFormed.{all, good_function, good_functions, good_opened, good_page, good_pages, well_formed}

-- a question and its answer
pub record Asked (A B : Type 0) : Type 0 where
  pub question : A
  pub answer : B

infixl 20 ◌⇒◌
abbrev pub ◌⇒◌ : {A B : Type 0} → A → B → Asked A B
◌⇒◌ q a = record { question = q; answer = a }

-- a section: whether it is well formed, its range of addresses, what calls at cursors tell, and what lookups of addresses tell
pub record Row : Type 0 where
  pub section : List ℕ
  pub formed : Bool
  pub range : Checked Range
  pub calls : List (Asked Cursor Step)
  pub lookups : List (Asked ℕ Looked)

abbrev pub row : List ℕ → Bool → Checked Range → List (Asked Cursor Step) → List (Asked ℕ Looked) → Row
row s formed range calls lookups = record { section = s; formed = formed; range = range; calls = calls; lookups = lookups }

-- the same questions, with the answers that the definitions give; to unfold it is to unfold all of them
unfoldable pub answered : Row → Row
unfolding number_at granted_of read_of word_at part_of count_of key_of mid more rounds run search_of grant_of header_of parse_of globals_of pages_of first_in offset_in regular_of compressed_of by_kind page_of locals_granted open_of
    functions_of locals_of four_of is_global opcode_part start_in end_in resolve_of opcode_in palette_of origin_in function_in start_of function_of first_of offset_of page_at opened_at function_at in_page next_from next_of next_on range_of range_on from_spot from_page at_page from_pages lookup_of lookup_on all good_function good_functions good_opened good_page good_pages well_formed
answered r =
    row r.section (well_formed r.section) (range_on r.section)
    (map (λ (q : Asked Cursor Step). q.question ⇒ next_on r.section q.question) r.calls)
    (map (λ (q : Asked ℕ Looked). q.question ⇒ lookup_on r.section q.question) r.lookups)
