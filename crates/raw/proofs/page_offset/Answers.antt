-- `raw::page_offset` meets its contract: the number after the key.
-- Assumes nothing.
use Rattle.raw.specs.Raw.{offset_in}
use Rattle.raw.proofs.page_offset.Goals as goal

pub returns : goal.returns
unfolding offset_in
returns c = c.read_or_0.ensures
