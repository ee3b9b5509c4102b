-- `Section::parse` meets its contract: after a parse the lists are granted.
-- Assumes nothing.
use mathlib.Core.Path.{sym}
use Rattle.raw.proofs.Grants.{parsed}
use Rattle.raw.proofs.section.Section.parse.Goals as goal

pub invariant_of-result : goal.invariant_of-result
invariant_of-result c = record { granted = parsed _ _ (sym c.in_ok-lists.ensures) }
