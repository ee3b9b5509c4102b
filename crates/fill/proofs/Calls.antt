-- A block over a section is the block over its bytes and its lists.
-- Assumes nothing.
use Prim.Native.Nat.{ℕ}
use mathlib.Core.Path.{◌≡◌, refl}
use mathlib.Core.List.{List}
use Rattle.reader.specs.Reader.{Slice}
use Rattle.raw.specs.declared.Lists.{Lists}
use Rattle.raw.specs.Checked.{Checked, good, refused, either}
use Rattle.raw.specs.Section.{standing}
use Rattle.iterate.specs.declared.Cursor.{Cursor}
use Rattle.fill.specs.Fill.{untouched, fill_of, filled_on}

pub over_section : (x : Slice) (g : Checked Lists) (c : Cursor) (out : List ℕ)
    → filled_on (standing x g) c out ≡ either (untouched c out) (λ m. fill_of x.bytes m c out) g
over_section x (good l) c out = refl
over_section x (refused k) c out = refl
