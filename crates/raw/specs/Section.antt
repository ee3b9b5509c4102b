-- A section whose lists lie in it: its bytes, with where they stand in memory, and the lists' places.
-- Assumes nothing.
use Rattle.std.specs.Prelude.{Result, Ok, Err}
use Rattle.reader.specs.Reader.{Slice, slice_told}
use Rattle.raw.specs.declared.Lists.{Lists}
use Rattle.raw.specs.Checked.{Checked, good, refused, ◌>>=◌, number_of}
use Rattle.raw.specs.declared.section.Section.{Section}
use Rattle.raw.specs.declared.Error.{Error}

pub record Standing : Type 0 where
  pub bytes : Slice
  pub lists : Lists

-- where lists were granted, these bytes with them
abbrev pub standing : Slice → Checked Lists → Checked Standing
standing x g = do
  l ← g
  good (record { bytes = x; lists = l })

abbrev pub section_told : Result Section Error → Checked Standing
section_told (Ok x) = good (record { bytes = slice_told x.bytes; lists = x.lists })
section_told (Err e) = refused (number_of e)
