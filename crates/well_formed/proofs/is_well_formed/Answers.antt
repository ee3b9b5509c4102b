-- `well_formed::is_well_formed` meets its contract: the section is refused, or its pages are tested.
-- Assumes nothing.
use Rattle.well_formed.specs.WellFormed.{well_formed}
use Rattle.well_formed.proofs.Cases.{section}
use Rattle.well_formed.proofs.is_well_formed.Goals as goal

pub returns : goal.returns
unfolding well_formed
returns c = section _ _ _ c.parse.ensures _ c.is_ok_and.ensures
