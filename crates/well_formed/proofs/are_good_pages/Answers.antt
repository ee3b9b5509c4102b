-- `well_formed::are_good_pages` meets its contract: a test of each page but the last is the test of all.
-- Assumes nothing.
use mathlib.Core.Bool.{true, false}
use mathlib.Core.Path.{◌≡◌, ap}
use native.Mathlib.Omega.{arith}
use Rattle.std.proofs.Common.{rules, tests}
use Rattle.std.proofs.lemmas.Iterator.{cases_from_all, YieldsList-from_range}
use Rattle.std.specs.Prelude.{ℕ, ◌-◌}
use Rattle.well_formed.specs.WellFormed.{good_page, good_pages}
use Rattle.well_formed.proofs.Cases.{every}
use Rattle.well_formed.proofs.are_good_pages.Goals as goal

pub returns : goal.returns
unfolding good_pages
returns c =
    let f = good_page c.args.section.bytes.now c.args.section.lists in
    let n : ℕ = c.args.section.lists.pages_len - 1 in
    every n f _
    (cases_from_all _ _ _ (λ x. f x ≡ true) (λ x. f x ≡ false) c.all.ensures.ran (YieldsList-from_range 0 _ n (ap (λ (b : ℕ). record { start = 0; end = b }) c.saturating_sub.ensures) (omega arith)) (λ x q k. search (rules, tests)) (λ x q k. search (rules, tests)))
