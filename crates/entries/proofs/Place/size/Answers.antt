-- `entries::Place::size` meets its contract: the bytes of an entry, by its kind, as often as there are entries.
-- Assumes nothing.
use borrow.Author.Rules.{rules}
use native.Mathlib.Omega.{arith}
use Rattle.entries.proofs.Placed.{size_small, size_is}
use Rattle.entries.proofs.Place.size.Goals as goal

pub overflow_mul-result : goal.overflow_mul-result
overflow_mul-result c =
    let q = c.args.self in
    omega (arith, size_small c.from.result _ q.page.functions_len c.entry_size.ensures (search rules))

pub returns : goal.returns
returns c =
    let q = c.args.self in
    (size_is q c.from.result _ c.from.ensures c.entry_size.ensures, size_small c.from.result _ q.page.functions_len c.entry_size.ensures (search rules))
