-- `batch::lookup_batch` meets its contract: each turn writes an answer more.
-- Assumes nothing.
use mathlib.Core.Path.{◌≡◌}
use Rattle.lookup.specs.Lookup.{lookup_on}
use Rattle.batch.specs.Batch.{standing}
use Rattle.batch.proofs.lookup_batch.Given as goal

abbrev pub invariant-loop-k : goal.invariant-loop-k
invariant-loop-k l = l.out ≡ standing (lookup_on l.s) l.asked l.fn.out l.k
