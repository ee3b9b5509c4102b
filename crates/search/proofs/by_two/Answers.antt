-- `search::by_two` meets its contract: each turn is two rounds on the way.
-- Assumes nothing.
use native.Mathlib.Omega.{arith}
use Rattle.search.proofs.Turns.{few, then, onward}
use Rattle.search.proofs.by_two.Goals as goal

pub overflow_add-probes : goal.overflow_add-probes
overflow_add-probes g c = omega (arith, few _ _ _ _ c.loop-width.invariant c.ranges.n.fits)

pub loop-width-preserved : goal.loop-width-preserved
loop-width-preserved g c = onward _ _ _ 2 _ _ c.loop-width.invariant (then _ _ 1 1 _ _ _ c.step-half.ensures c.step-left.ensures)
