-- `lister::write_block` meets its contract: by the place, the room, and whether the input is listed.
-- Assumes nothing.
use mathlib.Core.Path.{ap, sym, ◌∙◌}
use native.Mathlib.Omega.{arith}
use Rattle.reader.specs.Reader.{slice_told}
use Rattle.raw.specs.Checked.{refused}
use Rattle.lister.specs.Block.{accepted_told}
use Rattle.lister.proofs.Cases.{nothing-more, where-refused, where-whole}
use Rattle.lister.proofs.write_block.Goals as goal

pub returns-then-at : goal.returns-then-at
returns-then-at c = nothing-more (slice_told c.args.s) _ _ c.then-at.either

pub returns-in-Err : goal.returns-in-Err
returns-in-Err c =
    where-refused (slice_told c.args.s) _ _ c.if-at.false (omega arith) _ (ap refused c.number.ensures ∙ ap accepted_told (sym c.in-Err.is) ∙ c.accept.ensures)
    _ _ c.write_refusal.ensures

pub returns-in-Ok : goal.returns-in-Ok
returns-in-Ok c =
    where-whole (slice_told c.args.s) _ _ c.if-at.false (omega arith) _ (ap accepted_told (sym c.in-Ok.is) ∙ c.accept.ensures)
    c.write_functions.ensures
