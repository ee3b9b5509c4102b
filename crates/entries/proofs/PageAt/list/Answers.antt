-- `entries::PageAt::list` meets its contract: the list that lies in the section, or none.
-- Assumes nothing.
use mathlib.Core.Path.{sym, ◌∙◌}
use Rattle.entries.proofs.Placed.{listed, unlisted}
use Rattle.entries.proofs.PageAt.list.Goals as goal

pub list_there-requires : goal.list_there-requires
list_there-requires c = sym c.has_list.ensures ∙ c.if-has_list.true

pub returns-then-has_list : goal.returns-then-has_list
returns-then-has_list c = listed _ _ (sym c.has_list.ensures ∙ c.if-has_list.true) _ c.list_there.ensures

pub returns-else-has_list : goal.returns-else-has_list
returns-else-has_list c = unlisted _ _ (sym c.has_list.ensures ∙ c.if-has_list.false)
