-- `fill::fill_page` meets its contract: each turn writes the next function, or says why not.
-- Assumes nothing.
use Rattle.entries.specs.Placed.{read_of}
use Rattle.fill.specs.Block.{InPage}
use Rattle.fill.proofs.fill_page.Given as goal

abbrev pub invariant-loop-i : goal.invariant-loop-i
invariant-loop-i l =
    InPage (read_of l.page.section.now l.page.globals.now l.page.place) l.page.place.page.functions_len l.written l.from l.initial.out l.stop l.functions l.i l.out
