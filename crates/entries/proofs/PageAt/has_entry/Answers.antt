-- `entries::PageAt::has_entry` meets its contract: the index, then the list.
-- Assumes nothing.
use mathlib.Core.Path.{◌∙◌}
use borrow.Author.Tests.{le-ltb}
use Rattle.entries.proofs.Placed.{past-entries, tests-entry}
use Rattle.entries.proofs.PageAt.has_entry.Goals as goal

pub returns-else-i-self : goal.returns-else-i-self
returns-else-i-self c =
    let a = c.args.self in
    le-ltb _ _ c.if-i-self.false ∙ past-entries a.section.now a.place _ c.if-i-self.false

pub returns-then-i-self : goal.returns-then-i-self
returns-then-i-self c = tests-entry _ _ _ _ c.if-i-self.true c.has_list.ensures
