-- `lookup::at_page` meets its contract: the page is refused, or searched.
-- Assumes nothing.
use mathlib.Core.Path.{ap, sym, ◌∙◌}
use Rattle.raw.specs.Checked.{told}
use Rattle.reader.proofs.Laws.{bytes_of}
use Rattle.entries.proofs.Places.{first-is, next-is, offset-is}
use Rattle.lookup.proofs.Cases.{page-refused, page-found}
use Rattle.lookup.proofs.at_page.Goals as goal

pub in_page-requires : goal.in_page-requires
in_page-requires c = (_, sym c.read_page.ensures ∙ ap told c.in-Ok.is)

pub returns : goal.returns
returns c =
    let pages = c.requires.0 in
    let entry = c.page_entry-e.ensures in
    page-found _ _ _ pages _ _ _ _ _ (first-is _ _ _ _ pages _ entry) (offset-is _ _ _ _ pages _ entry) _ c.read_page.ensures _ c.in-Ok.is _ _ _ (bytes_of c.global_opcodes.ensures) (next-is _ _ _ _ pages _ entry) c.in_page.ensures

pub returns-in-Err : goal.returns-in-Err
returns-in-Err c =
    let pages = c.requires.0 in
    let entry = c.page_entry-e.ensures in
    c.answered.ensures ∙ page-refused _ _ _ pages _ _ _ _ _ (first-is _ _ _ _ pages _ entry) (offset-is _ _ _ _ pages _ entry) _ c.read_page.ensures _ c.in-Err.is
