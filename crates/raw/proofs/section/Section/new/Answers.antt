-- `Section::new` meets its contract: lists that were granted are granted again.
-- Assumes nothing.
use mathlib.Core.Path.{sym}
use Rattle.raw.proofs.Grants.{granted-again}
use Rattle.raw.proofs.section.Section.new.Goals as goal

pub invariant_of-result : goal.invariant_of-result
invariant_of-result c = record { granted = granted-again _ _ _ (sym c.in_ok-lists.ensures) }
