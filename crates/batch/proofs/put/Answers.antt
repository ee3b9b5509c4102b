-- `batch::put` meets its contract: the six writes.
-- Assumes nothing.
use Rattle.batch.proofs.Batches.{set-six}
use Rattle.batch.proofs.put.Goals as goal

pub returns : goal.returns
returns c = set-six _ _ _ c.requires
