-- `rules::x86_64::pushes` meets its contract: each turn places one more register, and the last lies next to the return address.
-- Assumes nothing.
use Rattle.rules.proofs.Pushing.{Pushing}
use Rattle.rules.proofs.x86_64.pushes.Given as goal

abbrev pub invariant-loop-i : goal.invariant-loop-i
invariant-loop-i l = Pushing l.registers l.below l.i
