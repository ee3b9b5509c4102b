-- `iterate::open_at` meets its contract: the page that the entry names.
-- Assumes nothing.
use mathlib.Core.Path.{◌∙◌}
use Rattle.reader.proofs.Laws.{bytes_of}
use Rattle.iterate.proofs.Opened.{passed_on, not-opened, opened-there}
use Rattle.iterate.proofs.open_at.Goals as goal

pub returns-in_err-page : goal.returns-in_err-page
returns-in_err-page c =
    passed_on _ _ c.from_residual.ensures.1 ∙ not-opened _ _ _ _ (bytes_of c.pages.ensures) _ c.page_entry-entry.ensures _ c.in_err-page.ensures

pub returns : goal.returns
returns c = opened-there _ _ _ _ (bytes_of c.pages.ensures) _ c.page_entry-entry.ensures _ _ c.global_opcodes.ensures c.in_ok-page.ensures
