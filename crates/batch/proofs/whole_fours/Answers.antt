-- `batch::whole_fours` meets its contract: four by four, or none yet.
-- Assumes nothing.
use mathlib.Core.Path.{ap, ◌∙◌}
use native.Mathlib.Omega.{arith}
use Rattle.reader.specs.Reader.{Slice}
use Rattle.raw.specs.Raw.{parse_of}
use Rattle.raw.proofs.Sections.{stands}
use Rattle.batch.proofs.Batches.{none_yet}
use Rattle.batch.proofs.whole_fours.Goals as goal

pub by_fours-requires : goal.by_fours-requires
by_fours-requires c =
    let s = stands _ _ _ c.in-Ok.ensures in
    (ap (λ (z : Slice). parse_of z.bytes) s.0 ∙ s.1, c.requires)

pub returns-in-Err : goal.returns-in-Err
returns-in-Err c = (omega arith, none_yet _ _ _)
