-- `raw::global_opcodes` meets its contract: the part that the list is.
-- Assumes nothing.
use Rattle.raw.specs.Raw.{globals_of}
use Rattle.raw.proofs.global_opcodes.Goals as goal

pub returns : goal.returns
unfolding globals_of
returns c = c.part.ensures
