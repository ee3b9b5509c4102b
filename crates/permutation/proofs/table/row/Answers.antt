-- `permutation::table::row` meets its contract: it is one of three rows.
-- Assumes nothing.
use Prim.Native.Nat.{ℕ, ◌*◌, ◌/◌, ◌%◌, ◌<◌}
use mathlib.Core.Path.{ap, ◌∙◌}
use native.Mathlib.Omega.{arith}
use native.Mathlib.Nat.{div-add-mod}
use Rattle.permutation.specs.Permutation.{registers_of}
use Rattle.permutation.proofs.Octal.{one_of_three}
use Rattle.permutation.proofs.table.row.Goals as goal

pub returns : goal.returns
returns c =
    let at : ℕ = c.args.at in
    let i : at % 3 < 3 = omega arith in
    one_of_three c.three_rows.result (3 * (at / 3)) (at % 3) i c.three_rows.ensures ∙ ap (registers_of 6) (div-add-mod at 3)
