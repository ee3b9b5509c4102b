-- `iterate::next_of` meets its contract: each turn tells what the cursor asked for tells, from where it stands.
-- Assumes nothing.
use mathlib.Core.Path.{◌≡◌}
use Rattle.iterate.specs.Iterate.{cursor, next_of}
use Rattle.iterate.proofs.next_of.Given as goal

abbrev pub invariant-loop-p : goal.invariant-loop-p
invariant-loop-p l =
    next_of l.section.bytes.now l.section.lists (cursor l.initial.p l.initial.i) ≡ next_of l.section.bytes.now l.section.lists (cursor l.p l.i)
