-- `fill::fill_of` meets its contract: page after page, until the room, the pages or the answers end.
-- Assumes nothing.
use Prim.Native.Nat.{◌/◌, ◌<◌}
use lib.ListN.{length}
use Rattle.iterate.specs.Iterate.{cursor}
use Rattle.fill.specs.Block.{OnWay}
use Rattle.fill.proofs.fill_of.Given as goal

abbrev pub invariant-loop-p : goal.invariant-loop-p
invariant-loop-p l =
    (l.k < length l.initial.out / 3) × OnWay l.section.bytes.now l.section.lists (cursor l.initial.p l.initial.i) l.initial.out l.k l.p l.i l.out
