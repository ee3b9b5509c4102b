-- `fill::put` meets its contract: the three writes.
-- Assumes nothing.
use mathlib.Core.Path.{refl}
use native.Mathlib.Omega.{arith}
use lib.ListN.{length-set}
use Rattle.fill.specs.Block.{put_of}
use Rattle.fill.proofs.put.Goals as goal

pub bounds-out-at-2 : goal.bounds-out-at-2
bounds-out-at-2 c = rw length-set (omega (arith, c.requires))

pub bounds-out-at-3 : goal.bounds-out-at-3
bounds-out-at-3 c = rw length-set (rw length-set (omega (arith, c.requires)))

pub returns : goal.returns
unfolding put_of
returns c = refl
