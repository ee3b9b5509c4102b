-- `entries::PageAt::local_opcodes` meets its contract: the list lies in the section, or there is none.
-- Assumes nothing.
use mathlib.Core.Path.{sym, ◌∙◌}
use Rattle.reader.proofs.Laws.{bytes_of}
use Rattle.entries.proofs.Placed.{locals-inside, none-there, are-there}
use Rattle.entries.proofs.PageAt.local_opcodes.Goals as goal

pub returns-then-not-there : goal.returns-then-not-there
returns-then-not-there c =
    let a = c.args in
    none-there a.self.section.now a.self.place a.there (c.if-not-there.true)

pub inside-requires : goal.inside-requires
inside-requires c = locals-inside c.args.self.section.now c.args.self.place (sym c.requires ∙ c.if-not-there.false)

pub returns : goal.returns
returns c =
    let a = c.args in
    are-there a.self.section.now a.self.place a.there (c.if-not-there.false) _ (bytes_of c.inside.ensures)
