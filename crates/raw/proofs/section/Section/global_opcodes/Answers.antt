-- `Section::global_opcodes` meets its contract: the list lies in the section.
-- Assumes nothing.
use mathlib.Core.Path.{refl}
use native.Mathlib.Omega.{arith}
use Rattle.raw.specs.Raw.{globals_of}
use Rattle.raw.proofs.Grants.{part-inside, globals-inside}
use Rattle.raw.proofs.section.Section.global_opcodes.Goals as goal

pub slice_bounds-result-end : goal.slice_bounds-result-end
slice_bounds-result-end c =
    let a = c.args.self in
    omega (arith, globals-inside _ _ a.granted)

pub returns : goal.returns
unfolding globals_of
returns c =
    let a = c.args.self in
    part-inside _ _ _ (globals-inside _ _ a.granted) _ refl
