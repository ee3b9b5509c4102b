-- `Section::pages` meets its contract: the list lies in the section.
-- Assumes nothing.
use mathlib.Core.Path.{refl}
use native.Mathlib.Omega.{arith}
use Rattle.raw.specs.Raw.{pages_of}
use Rattle.raw.proofs.Grants.{part-inside, pages-inside}
use Rattle.raw.proofs.section.Section.pages.Goals as goal

pub slice_bounds-result-end : goal.slice_bounds-result-end
slice_bounds-result-end c =
    let a = c.args.self in
    omega (arith, pages-inside _ _ a.granted)

pub returns : goal.returns
unfolding pages_of
returns c =
    let a = c.args.self in
    part-inside _ _ _ (pages-inside _ _ a.granted) _ refl
