-- `lookup::lookup_of` meets its contract: nothing before the first page or from the last on, else what the page gives.
-- Assumes nothing.
use Rattle.reader.proofs.Laws.{bytes_of}
use Rattle.lookup.proofs.Cases.{within, few, few-pages, looks-before, looks-past, looks-in}
use Rattle.raw.specs.Raw.{pages_of}
use native.Mathlib.Omega.{arith}
use borrow.Author.Rules.{rules}
use Rattle.lookup.proofs.lookup_of.Goals as goal

pub returns-then-at-eq0 : goal.returns-then-at-eq0
unfolding pages_of
returns-then-at-eq0 c = looks-before _ _ _ (bytes_of c.pages-pages.ensures) _ _ c.search-spot.ensures c.if-at-eq0.true

pub returns-then-at-n : goal.returns-then-at-n
unfolding pages_of
returns-then-at-n c = looks-past _ _ _ (bytes_of c.pages-pages.ensures) _ _ c.search-spot.ensures c.if-at-eq0.false (omega arith)

pub overflow_cast-at : goal.overflow_cast-at
unfolding pages_of
overflow_cast-at c = omega (arith, within _ _ _ _ _ c.search-spot.ensures (few-pages _ c.args.section.lists _ (bytes_of c.pages-pages.ensures)))

pub invariant_of-sought : goal.invariant_of-sought
unfolding pages_of
invariant_of-sought c =
    let h = few-pages _ c.args.section.lists _ (bytes_of c.pages-pages.ensures) in
    omega (arith, few _ _ _ _ _ c.search-spot.ensures h (search rules))

pub at_page-requires : goal.at_page-requires
unfolding pages_of
at_page-requires c =
    let h = few-pages _ c.args.section.lists _ (bytes_of c.pages-pages.ensures) in
    (bytes_of c.pages-pages.ensures, omega (arith, within _ _ _ _ _ c.search-spot.ensures h, c.if-at-n.false, c.if-at-eq0.false))

pub returns : goal.returns
unfolding pages_of
returns c = looks-in _ _ _ (bytes_of c.pages-pages.ensures) _ _ c.search-spot.ensures _ c.if-at-eq0.false c.if-at-n.false c.at_page.ensures
