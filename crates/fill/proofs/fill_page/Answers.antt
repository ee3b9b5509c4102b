-- `fill::fill_page` meets its contract: each turn writes the next function, or says why not.
-- Assumes nothing.
use borrow.Author.Rules.{rules}
use Rattle.fill.proofs.Turns as turns
use Rattle.fill.proofs.fill_page.Goals as goal

pub loop-i-init : goal.loop-i-init
loop-i-init c = turns.sets-out _ _ _ _ _ c.requires (search rules) (search rules) _ c.min-stop.ensures

pub loop-i-preserved : goal.loop-i-preserved
loop-i-preserved c =
    rw c.put.ensures
    (turns.one_more c.loop-i.invariant c.loop-i-test.true _ c.function.ensures _ c.in-Ok.is)
