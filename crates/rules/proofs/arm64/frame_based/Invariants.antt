-- `rules::arm64::frame_based` meets its contract: each turn places one more pair, or passes it over.
-- Assumes nothing.
use Prim.Native.Nat.{◌+◌, ◌*◌, ◌≤◌}
use lib.ListN.{set, replicate}
use Rattle.rules.proofs.Pairing.{Turn}
use Rattle.rules.proofs.arm64.frame_based.Given as goal

abbrev pub invariant-loop-p : goal.invariant-loop-p
invariant-loop-p l = (l.next ≤ 24 + 16 * l.p) × Turn (set (set (replicate 20 0) 10 16) 11 8) l.fn.pairs l.below l.next l.p
