-- `batch::four::answer` meets its contract: 12 where the search found none, else the function or its refusal.
-- Assumes nothing.
use Prim.Native.Nat.{◌-◌}
use mathlib.Core.Path.{◌≡◌, ap, ◌∙◌}
use Rattle.raw.specs.Checked.{told}
use Rattle.entries.specs.Placed.{read_of}
use Rattle.lookup.specs.Lookup.{telling}
use Rattle.batch.specs.Batch.{numbers_of}
use Rattle.batch.proofs.Paging.{tells_none, tells-one}
use Rattle.batch.proofs.four.answer.Goals as goal

pub returns-then-spot-eq0 : goal.returns-then-spot-eq0
returns-then-spot-eq0 c = c.flat.ensures ∙ ap numbers_of (c.answered.ensures ∙ tells_none _ _ _ c.if-spot-eq0.true)

pub returns : goal.returns
returns c =
    let a = c.args in
    let read : told c.function-function.result ≡ read_of a.opened.section.bytes.now a.opened.globals.now a.m.place (a.spot.at - 1) = cc in
    c.flat-2.ensures ∙ ap numbers_of (c.answered-2.ensures ∙ ap (telling _) read ∙ tells-one _ _ _ c.if-spot-eq0.false)
