-- `records::load` meets its contract: each turn reads one number more.
-- Assumes nothing.
use Rattle.std.proofs.Common.{◌≡◌, take}
use Rattle.records.specs.Records.{numbers_of}
use Rattle.records.proofs.load.Given as goal

abbrev pub invariant-loop-k : goal.invariant-loop-k
invariant-loop-k l = take l.k l.into ≡ numbers_of l.k l.numbers
