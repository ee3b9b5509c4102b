-- `listing::write_hex` meets its contract: the digits left to write, before those written, are all of them.
-- Assumes nothing.
use Rattle.std.proofs.Common.{◌≡◌, ◌++◌, drop}
use Rattle.listing.specs.Listing.{digits_of}
use Rattle.listing.proofs.write_hex.Given as goal

abbrev pub invariant-loop-i : goal.invariant-loop-i
invariant-loop-i l = digits_of 16 l.i l.rest ++ drop l.i l.out ≡ digits_of 16 8 l.n
