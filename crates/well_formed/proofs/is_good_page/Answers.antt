-- `well_formed::is_good_page` meets its contract: the page is refused, or opened and tested.
-- Assumes nothing.
use mathlib.Core.Path.{refl, sym, ◌∙◌}
use mathlib.Core.Bool.{true, false}
use Rattle.std.proofs.Common.{rules}
use Rattle.reader.proofs.Laws.{bytes_of}
use Rattle.well_formed.proofs.Cases.{page-refused, page-opens}
use Rattle.well_formed.proofs.is_good_page.Goals as goal

pub returns-in_default : goal.returns-in_default
returns-in_default c = page-refused _ _ _ _ c.open_at.ensures _ c.in_default.is

pub returns-then-starts_at : goal.returns-then-starts_at
returns-then-starts_at c =
    page-opens _ _ _ _ c.open_at.ensures _ c.in-Ok.is (search rules) _ _ (bytes_of c.pages.ensures) c.first_address-first.ensures true _ (sym c.if-starts_at.true ∙ c.starts_at.ensures) c.are_good_functions.ensures

pub returns-else-starts_at : goal.returns-else-starts_at
returns-else-starts_at c =
    c.if-starts_at.false ∙ page-opens _ _ _ _ c.open_at.ensures _ c.in-Ok.is (search rules) _ _ (bytes_of c.pages.ensures) c.first_address-first.ensures false _ (sym c.if-starts_at.false ∙ c.starts_at.ensures) refl
