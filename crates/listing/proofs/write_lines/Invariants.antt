-- `listing::write_lines` meets its contract: k lines stand at the front after k turns.
-- Assumes nothing.
use Rattle.std.proofs.Common.{◌≡◌, ◌*◌, ◌++◌, drop}
use Rattle.listing.specs.Listing.{lines_of}
use Rattle.listing.proofs.write_lines.Given as goal

abbrev pub invariant-loop-k : goal.invariant-loop-k
invariant-loop-k l = l.out ≡ lines_of l.k l.numbers ++ drop (27 * l.k) l.initial.out
