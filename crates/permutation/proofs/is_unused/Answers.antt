-- `permutation::is_unused` meets its contract: the flag of a register says whether it is unused, and no other number names one.
-- Assumes nothing.
use Prim.Native.Nat.{ℕ, ◌+◌}
use mathlib.Core.Path.{◌≡◌, ap, sym, ◌∙◌}
use native.Mathlib.Omega.{arith}
use Rattle.permutation.specs.Permutation.{member}
use Rattle.permutation.specs.Flags.{unused}
use Rattle.permutation.proofs.Flagged.{not-before, not_after, flag-says}
use Rattle.permutation.proofs.is_unused.Goals as goal

pub returns-in-1-to-6 : goal.returns-in-1-to-6
returns-in-1-to-6 c =
    let a = c.args in
    let r : ℕ = c.place.result in
    let e : 1 + r ≡ a.x = omega (arith, c.place.ensures) in
    sym (flag-says 1 a.used r (omega arith)) ∙ ap (λ (x : ℕ). member x (unused a.used)) e

pub returns-in_default : goal.returns-in_default
returns-in_default c = sym (not-before 1 c.args.x c.args.used (omega arith))

pub returns-in_default-2 : goal.returns-in_default-2
returns-in_default-2 c = sym (not_after 1 c.args.x c.args.used (omega arith))
