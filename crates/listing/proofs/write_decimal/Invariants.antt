-- `listing::write_decimal` meets its contract: the digits left to write, before those written, are all of them.
-- Assumes nothing.
use Rattle.std.proofs.Common.{◌≡◌, ◌++◌, length, drop}
use Rattle.listing.specs.Listing.{digits_of}
use Rattle.listing.proofs.write_decimal.Given as goal

abbrev pub invariant-loop-i : goal.invariant-loop-i
invariant-loop-i l = digits_of 10 l.i l.rest ++ drop l.i l.out ≡ digits_of 10 (length l.initial.out) l.n
