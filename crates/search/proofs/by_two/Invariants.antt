-- `search::by_two` meets its contract: each turn is two rounds on the way.
-- Assumes nothing.
use Rattle.search.specs.Search.{key_of}
use Rattle.search.specs.Steps.{going, OnWay}
use Rattle.search.proofs.by_two.Given as goal

abbrev pub invariant-loop-width : goal.invariant-loop-width
invariant-loop-width g l = OnWay (key_of l.list g.E.Entry.layout) l.x l.n (going l.left l.width l.probes)

abbrev pub decreases-loop-width : goal.decreases-loop-width
decreases-loop-width g l = l.width
