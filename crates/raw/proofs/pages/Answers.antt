-- `raw::pages` meets its contract: the part that the list is.
-- Assumes nothing.
use Rattle.raw.specs.Raw.{pages_of}
use Rattle.raw.proofs.pages.Goals as goal

pub returns : goal.returns
unfolding pages_of
returns c = c.part.ensures
