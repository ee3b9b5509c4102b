-- `permutation::encode_permutation_6` meets its contract: at each turn the numbers passed were drawn, and weighed into the sum.
-- Assumes nothing.
use lib.ListN.{length, take}
use Rattle.permutation.specs.Permutation.{weights}
use Rattle.permutation.proofs.Encoding.{Turn}
use Rattle.permutation.proofs.encode_permutation_6.Given as goal

abbrev pub invariant-loop-x : goal.invariant-loop-x
invariant-loop-x l = Turn (weights l.n) (take l.n l.fn.registers) l.used l.sum (length l.yielded)
