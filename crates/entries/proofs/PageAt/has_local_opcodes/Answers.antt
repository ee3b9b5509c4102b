-- `entries::PageAt::has_local_opcodes` meets its contract: the test of the list.
-- Assumes nothing.
use mathlib.Core.Path.{refl}
use Rattle.reader.specs.Reader.{granted_of}
use Rattle.entries.specs.Placed.{locals_there}
use Rattle.entries.proofs.PageAt.has_local_opcodes.Goals as goal

pub returns : goal.returns
unfolding locals_there granted_of
returns c = refl
