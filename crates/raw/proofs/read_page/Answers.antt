-- `raw::read_page` meets its contract: the kind is refused or read, and the page of that kind read from where it stands on.
-- Assumes nothing.
use borrow.Author.Rules.{rules}
use mathlib.Core.Path.{sym, ◌∙◌}
use native.Mathlib.Omega.{arith}
use Rattle.raw.proofs.Opens.{no_kind, kind-inside, kind_1, kind_2, kind_3, other-kind}
use Rattle.raw.proofs.read_page.Goals as goal

pub returns-in_default : goal.returns-in_default
returns-in_default c = no_kind _ _ _ (sym c.read.ensures ∙ c.in_default.is)

pub slice_bounds-regular-count : goal.slice_bounds-regular-count
slice_bounds-regular-count c = let h = kind-inside _ _ 0 _ (sym c.read.ensures ∙ c.in-Some.is) in search rules

pub slice_bounds-regular-start : goal.slice_bounds-regular-start
slice_bounds-regular-start c = let h = kind-inside _ _ 0 _ (sym c.read.ensures ∙ c.in-Some.is) in search rules

pub returns-in-2 : goal.returns-in-2
returns-in-2 c = kind_2 _ _ _ _ (sym c.read.ensures ∙ c.in-Some.is) _ c.in-2.is c.regular.ensures

pub slice_bounds-compressed-count : goal.slice_bounds-compressed-count
slice_bounds-compressed-count c = let h = kind-inside _ _ 0 _ (sym c.read.ensures ∙ c.in-Some.is) in search rules

pub slice_bounds-compressed-start : goal.slice_bounds-compressed-start
slice_bounds-compressed-start c = let h = kind-inside _ _ 0 _ (sym c.read.ensures ∙ c.in-Some.is) in search rules

pub returns-in-3 : goal.returns-in-3
returns-in-3 c = kind_3 _ _ _ _ (sym c.read.ensures ∙ c.in-Some.is) _ (λ e. omega arith) c.in-3.is c.compressed.ensures

pub returns-in-1 : goal.returns-in-1
returns-in-1 c = kind_1 _ _ _ _ (sym c.read.ensures ∙ c.in-Some.is) (λ e. omega arith) (λ e. omega arith) c.in-1.is

pub returns-in_default-kind : goal.returns-in_default-kind
returns-in_default-kind c =
    other-kind _ _ _ _ (sym c.read.ensures ∙ c.in-Some.is) (λ e. omega arith) (λ e. omega arith) (λ e. omega arith)
