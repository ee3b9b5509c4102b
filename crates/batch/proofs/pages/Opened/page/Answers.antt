-- `batch::pages::Opened::page` meets its contract: the page that the entry names.
-- Assumes nothing.
use mathlib.Core.Path.{ap, sym, ◌∙◌}
use borrow.Author.Rules.{rules}
use denote.Enum.Bare.{differs_false}
use Rattle.raw.specs.contracts.Kind.{the_type}
use Rattle.raw.specs.Checked.{told}
use Rattle.batch.proofs.Paging.{page-there}
use Rattle.batch.proofs.pages.Opened.page.Goals as goal

pub returns : goal.returns
returns g c =
    let kind = differs_false the_type (search rules) _ _ (sym c.if-ne.ensures) ∙ c.KIND.ensures in
    page-there _ _ _ c.args.self.pages_are c.args.spot c.if-at-eq0.false c.if-at-self.false c.requires _ c.page_entry-e.ensures _ _ (sym c.read_page.ensures ∙ ap told c.in-Ok.is) kind (search rules)
