-- After a parse, the view of its lists answers as the call on the bytes alone.
-- Assumes nothing.
use Prim.Native.Nat.{ℕ}
use mathlib.Core.Path.{◌≡◌}
use mathlib.Core.List.{List}
use denote.Ref.{Bor}
use Rattle.raw.specs.declared.Lists.{Lists}
use Rattle.raw.specs.Checked.{good}
use Rattle.raw.specs.Raw.{parse_of}
use Rattle.iterate.specs.declared.Cursor.{Cursor}
use Rattle.iterate.specs.Iterate.{next_in, next_on}
use Rattle.iterate.specs.Range.{range_in, range_on}
use Rattle.iterate.proofs.One.{next-after-parse, range-after-parse}
use Rattle.lookup.specs.Lookup.{lookup_in, lookup_on}
use Rattle.lookup.proofs.One.{after-parse}
use Rattle.macho_unwind_info.specs.View.{view_of}
use Rattle.macho_unwind_info.specs.declared.view.UnwindInfo.{UnwindInfo}

module _ (s : Bor (List ℕ)) (l : Lists) (e : parse_of s.now ≡ good l) where
  abbrev view : UnwindInfo
  view = view_of s l

  pub view-looks-up : (pc : ℕ) → lookup_in view.section.now view.lists pc ≡ lookup_on s.now pc
  view-looks-up pc = after-parse s.now l e pc

  pub view-has-range : range_in view.section.now view.lists ≡ range_on s.now
  view-has-range = range-after-parse s.now l e

  pub view-iterates : (c : Cursor) → next_in view.section.now view.lists c ≡ next_on s.now c
  view-iterates c = next-after-parse s.now l e c
