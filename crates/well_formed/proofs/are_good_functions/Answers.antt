-- `well_formed::are_good_functions` meets its contract: a test of each function is the test of all.
-- Assumes nothing.
use native.Mathlib.Omega.{arith}
use mathlib.Core.Bool.{true, false}
use mathlib.Core.Path.{◌≡◌, refl}
use Rattle.std.proofs.Common.{rules, tests}
use Rattle.std.proofs.lemmas.Iterator.{cases_from_all, YieldsList-from_range}
use Rattle.well_formed.specs.WellFormed.{good_read}
use Rattle.well_formed.proofs.Cases.{every}
use Rattle.well_formed.proofs.are_good_functions.Goals as goal

pub returns : goal.returns
returns c =
    let page = c.args.page in
    let f = good_read page.section.now page.globals.now page.place in
    let n = page.place.page.functions_len in
    every n f _
    (cases_from_all _ _ _ (λ x. f x ≡ true) (λ x. f x ≡ false) c.all.ensures.ran (YieldsList-from_range 0 n n refl (omega arith)) (λ x q k. search (rules, tests)) (λ x q k. search (rules, tests)))
