-- `entries::PageAt::has_list` meets its contract: the test of the list.
-- Assumes nothing.
use mathlib.Core.Path.{refl}
use Rattle.reader.specs.Reader.{granted_of}
use Rattle.entries.specs.Placed.{list_there}
use Rattle.entries.proofs.Placed.{sum_is}
use Rattle.entries.proofs.PageAt.has_list.Goals as goal

pub returns : goal.returns
unfolding list_there granted_of
returns c = sum_is _ _ _ _ _ _ c.first.ensures.0 c.size.ensures.0 refl
