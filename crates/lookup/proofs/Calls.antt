-- A lookup on a section is the lookup over its bytes and its lists.
-- Assumes nothing.
use Prim.Native.Nat.{ℕ}
use mathlib.Core.Path.{◌≡◌, refl}
use Rattle.reader.specs.Reader.{Slice}
use Rattle.raw.specs.declared.Lists.{Lists}
use Rattle.raw.specs.Checked.{Checked, good, refused, either}
use Rattle.raw.specs.Section.{standing}
use Rattle.lookup.specs.Lookup.{refusal, lookup_of, looked_on}

pub over_section : (x : Slice) (g : Checked Lists) (pc : ℕ)
    → looked_on (standing x g) pc ≡ either (λ k. refusal k 0) (λ m. lookup_of x.bytes m pc) g
over_section x (good l) pc = refl
over_section x (refused k) pc = refl
