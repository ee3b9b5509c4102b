-- `raw::has_local_opcodes` meets its contract: the test of the list.
-- Assumes nothing.
use Rattle.raw.specs.Raw.{locals_granted}
use Rattle.raw.proofs.has_local_opcodes.Goals as goal

pub returns : goal.returns
unfolding locals_granted
returns c = c.is_granted.ensures
