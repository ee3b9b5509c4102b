-- `rules::x86_64::pushes` meets its contract: each turn places one more register, and the last lies next to the return address.
-- Assumes nothing.
use native.Mathlib.Omega.{arith}
use Rattle.rules.proofs.Pushing.{next}
use Rattle.rules.proofs.x86_64.pushes.Goals as goal

pub loop-i-preserved : goal.loop-i-preserved
loop-i-preserved c = rw c.from.ensures (next _ _ _ c.loop-i.invariant (omega arith))
