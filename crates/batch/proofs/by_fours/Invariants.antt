-- `batch::by_fours` meets its contract: each turn writes four answers more.
-- Assumes nothing.
use Prim.Native.Nat.{◌*◌}
use mathlib.Core.Path.{◌≡◌}
use Rattle.lookup.specs.Lookup.{lookup_on}
use Rattle.batch.specs.Batch.{standing}
use Rattle.batch.proofs.by_fours.Given as goal

abbrev pub invariant-loop-i : goal.invariant-loop-i
invariant-loop-i l = l.out ≡ standing (lookup_on l.section.bytes.now) l.addresses l.initial.out (4 * l.i)
