-- `lookup::in_kind` meets its contract: 12 where the search finds no function, else the one it finds.
-- Assumes nothing.
use Prim.Native.Nat.{◌<◌}
use mathlib.Core.Path.{◌∙◌}
use native.Mathlib.Omega.{arith}
use borrow.Author.Rules.{rules}
use Rattle.entries.proofs.Placed.{list-there}
use Rattle.lookup.proofs.Cases.{by_kind, within, few, few-functions, finds-none, finds-one}
use Rattle.lookup.proofs.in_kind.Goals as goal

pub functions_of-requires : goal.functions_of-requires
functions_of-requires g c =
    let read = c.requires.0 in
    (list-there _ _ _ _ read.0 _ read.1, c.requires.1)

pub overflow_add-all : goal.overflow_add-all
overflow_add-all g c =
    let small : c.args.at.place.page.functions_len < 4294967296 = search rules in
    let h = few-functions _ c.args.at.place _ c.functions_of.ensures in
    omega (arith, few _ _ _ _ _ (by_kind _ _ _ _ c.requires.1 c.search-spot.ensures) h small, c.args.sought.few)

pub returns-then-spot-eq0 : goal.returns-then-spot-eq0
returns-then-spot-eq0 g c =
    c.answered.ensures
    ∙ finds-none _ c.args.at.place _ c.functions_of.ensures c.requires.0 _ _ _ _ c.above.ensures _ (by_kind _ _ _ _ c.requires.1 c.search-spot.ensures) c.if-spot-eq0.true

pub overflow_cast-spot : goal.overflow_cast-spot
overflow_cast-spot g c =
    let small : c.args.at.place.page.functions_len < 4294967296 = search rules in
    let h = few-functions _ c.args.at.place _ c.functions_of.ensures in
    omega (arith, within _ _ _ _ _ (by_kind _ _ _ _ c.requires.1 c.search-spot.ensures) h, small)

pub returns : goal.returns
returns g c =
    finds-one _ c.args.at.place _ c.functions_of.ensures c.requires.0 _ _ _ _ c.above.ensures _ (by_kind _ _ _ _ c.requires.1 c.search-spot.ensures) _ _ c.if-spot-eq0.false c.function.ensures c.answered-2.ensures
