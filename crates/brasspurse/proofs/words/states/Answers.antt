-- `brasspurse::words::states` meets its contract.
-- Assumes nothing.
use native.Mathlib.Omega.{arith}
use lib.Bits.{and_le_r}
use Rattle.brasspurse.proofs.FieldStates.{any_of, all_of, states-at-once}
use Rattle.brasspurse.proofs.words.states.Goals as goal

pub overflow_add-result : goal.overflow_add-result
overflow_add-result c =
    let f = c.args.fields in
    record { fits = omega (arith, and_le_r (any_of f) 0o11111, and_le_r (all_of f) 0o11111) }

pub returns : goal.returns
returns c = states-at-once 5 c.args.fields
