-- `entries::is_global` meets its contract: the test of 2.6.
-- Assumes nothing.
use Rattle.entries.proofs.Cases.{tests-global}
use Rattle.entries.proofs.is_global.Goals as goal

pub returns : goal.returns
returns c = tests-global _ _
