-- `raw::open_page` meets its contract: a page that was read starts in the section, so its local opcodes can be asked for.
-- Assumes nothing.
use borrow.Author.Rules.{rules}
use mathlib.Core.Path.{sym}
use Rattle.raw.proofs.Opens.{starts-inside}
use Rattle.raw.proofs.open_page.Goals as goal

pub slice_bounds-has_local_opcodes-count : goal.slice_bounds-has_local_opcodes-count
slice_bounds-has_local_opcodes-count c =
    let h = starts-inside _ _ _ _ (sym c.in_ok-page.ensures) in search rules

pub slice_bounds-has_local_opcodes-start : goal.slice_bounds-has_local_opcodes-start
slice_bounds-has_local_opcodes-start c =
    let h = starts-inside _ _ _ _ (sym c.in_ok-page.ensures) in search rules
