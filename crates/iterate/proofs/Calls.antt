-- A call over a section is the call over its bytes and its lists.
-- Assumes nothing.
use mathlib.Core.Path.{◌≡◌, refl}
use Rattle.reader.specs.Reader.{Slice}
use Rattle.raw.specs.declared.Lists.{Lists}
use Rattle.raw.specs.Checked.{Checked, good, refused, either}
use Rattle.raw.specs.Section.{standing}
use Rattle.iterate.specs.declared.Cursor.{Cursor}
use Rattle.iterate.specs.Iterate.{answer, next_of, called_on}

pub over_section : (x : Slice) (g : Checked Lists) (c : Cursor) → called_on (standing x g) c ≡ either (λ k. answer (refused k) c) (λ m. next_of x.bytes m c) g
over_section x (good l) c = refl
over_section x (refused k) c = refl
