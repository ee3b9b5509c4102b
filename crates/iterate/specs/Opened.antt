-- docs/FORMAT.md, 2.5: a page of a section opened whole: the slices that its functions are read from, and its place.
-- Assumes nothing.
use Rattle.std.specs.Prelude.{ℕ, Result, Ok, Err}
use Rattle.reader.specs.Reader.{Slice, slice_told, part_at}
use Rattle.raw.specs.declared.Lists.{Lists}
use Rattle.raw.specs.declared.Error.{Error}
use Rattle.raw.specs.Checked.{Checked, good, refused, ◌>>=◌, number_of}
use Rattle.raw.specs.Raw.{globals_of}
use Rattle.entries.specs.declared.Place.{Place}
use Rattle.entries.specs.declared.PageAt.{PageAt}
use Rattle.entries.specs.Section.{opened_at, place_at}

pub record Opened : Type 0 where
  pub section : Slice
  pub globals : Slice
  pub place : Place

-- page p
abbrev pub opens : Slice → Lists → ℕ → Checked Opened
opens x l p = do
  pg ← opened_at x.bytes l p
  good (record { section = x; globals = part_at x l.global_opcodes_offset (globals_of x.bytes l); place = place_at x.bytes l p pg })

abbrev pub opened_told : Result PageAt Error → Checked Opened
opened_told (Ok x) = good (record { section = slice_told x.section; globals = slice_told x.globals; place = x.place })
opened_told (Err e) = refused (number_of e)
