-- `raw::first_address` meets its contract: the key of the entry.
-- Assumes nothing.
use Rattle.raw.specs.Raw.{first_in}
use Rattle.raw.proofs.first_address.Goals as goal

pub returns : goal.returns
unfolding first_in
returns c = c.key.ensures
