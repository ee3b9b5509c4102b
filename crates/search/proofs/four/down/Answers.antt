-- `search::four::down` meets its contract: each turn is one round of each search.
-- Assumes nothing.
use Rattle.std.proofs.Common.{rules}
use Rattle.search.proofs.Turns.{begins, may-go, went}
use Rattle.search.proofs.four.down.Goals as goal

pub loop-init : goal.loop-init
loop-init g c = begins _ _ _ _ c.requires.0 _ c.unprobed-p.ensures

pub map-p-requires : goal.map-p-requires
map-p-requires g c = let r = may-go _ _ _ _ c.requires.0 _ c.requires.1 _ _ c.loop.invariant c.loop-test.true in search rules

pub loop-preserved : goal.loop-preserved
loop-preserved g c = went _ _ _ _ _ c.loop.invariant _ (search rules) (search rules) (search rules) (search rules)
