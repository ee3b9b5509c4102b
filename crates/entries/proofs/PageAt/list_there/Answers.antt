-- `entries::PageAt::list_there` meets its contract: the list lies in the section.
-- Assumes nothing.
use Rattle.entries.proofs.Placed.{list_inside, sum_inside, part-is}
use Rattle.entries.proofs.PageAt.list_there.Goals as goal

pub inside-requires : goal.inside-requires
inside-requires c = sum_inside _ _ _ _ _ c.first.ensures.0 c.size.ensures.0 (list_inside _ _ c.requires)

pub returns : goal.returns
returns c = part-is _ _ _ _ _ _ c.first.ensures.0 c.size.ensures.0 c.inside.ensures
