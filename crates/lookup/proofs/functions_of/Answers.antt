-- `lookup::functions_of` meets its contract: the part that the page names, by its layout.
-- Assumes nothing.
use mathlib.Core.Path.{◌∙◌}
use native.Mathlib.Omega.{arith}
use Rattle.reader.proofs.Laws.{lies-inside}
use Rattle.lookup.proofs.Straight.{kind-inside, kind-list}
use Rattle.lookup.proofs.functions_of.Goals as goal

pub slice_bounds-result-end : goal.slice_bounds-result-end
slice_bounds-result-end g c =
    let h = kind-inside _ c.args.at.place _ c.requires.1 _ (c.SIZE.ensures ∙ g.met.E.Entry.sized) c.requires.0 in
    omega (arith, h)

pub returns : goal.returns
returns g c = kind-list _ c.args.at.place _ c.requires.1 _ (c.SIZE.ensures ∙ g.met.E.Entry.sized) _ (lies-inside _ _ _)
