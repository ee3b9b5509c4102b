-- `search::four::down` meets its contract: each turn is one round of each search.
-- Assumes nothing.
use Rattle.search.specs.Steps.{lists_of, Abreast}
use Rattle.search.proofs.four.down.Given as goal

abbrev pub invariant-loop : goal.invariant-loop
invariant-loop g l = Abreast g.E.Entry.layout (lists_of l.fn.lists) l.fn.x l.p l.counter
