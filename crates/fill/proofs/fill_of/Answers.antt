-- `fill::fill_of` meets its contract: page after page, until the room, the pages or the answers end.
-- Assumes nothing.
use Prim.Native.Nat.{◌+◌, ◌<◌}
use mathlib.Core.Path.{ap, sym, ◌∙◌}
use native.Mathlib.Omega.{arith}
use Rattle.iterate.specs.declared.Cursor.{Cursor}
use Rattle.iterate.proofs.Opened.{is-refused}
use Rattle.iterate.specs.Opened.{opened_told}
use Rattle.reader.specs.Reader.{slice_told}
use Rattle.fill.proofs.Block as block
use Rattle.fill.proofs.fill_of.Goals as goal

pub returns-then-out-eq0 : goal.returns-then-out-eq0
returns-then-out-eq0 c =
    block.told_is c.stopped.ensures
    ∙ block.stops (block.sets-out _ _ _ _) (block.no_room _ _ _ _ (omega (arith, c.if-out-eq0.true)))

pub loop-p-init : goal.loop-p-init
loop-p-init c = (omega (arith, c.if-out-eq0.false), block.sets-out _ _ _ _)

pub returns-in-Err : goal.returns-in-Err
returns-in-Err c =
    let last = ap (λ (d : Cursor). d.page) c.end_cursor-last.ensures in
    block.told_is c.stopped-in-Err.ensures
    ∙ block.stops c.loop-p.invariant.1 (block.page-no _ _ _ _ _ _ (omega (arith, c.loop-p.invariant.0)) (omega arith) (is-refused _ _ _ _ (ap opened_told (sym c.in-Err.is) ∙ c.open_at.ensures)))

pub loop-p-preserved : goal.loop-p-preserved
loop-p-preserved c =
    let last = ap (λ (d : Cursor). d.page) c.end_cursor-last.ensures in
    let z = slice_told c.args.section.bytes in
    let inv = c.loop-p.invariant.1 in
    let h : c.loop-p.p + 1 < c.args.section.lists.pages_len = omega arith in
    (block.page-room z inv h c.open_at.ensures c.in-Ok.is c.fill_page-paged.ensures c.in-End.is, block.page-ends z inv h c.open_at.ensures c.in-Ok.is c.fill_page-paged.ensures c.in-End.is)

pub returns-in_default : goal.returns-in_default
returns-in_default c =
    let last = ap (λ (d : Cursor). d.page) c.end_cursor-last.ensures in
    block.told_is c.stopped-in_default.ensures
    ∙ block.page-stops (slice_told c.args.section.bytes) c.loop-p.invariant.1 (omega arith) c.open_at.ensures c.in-Ok.is c.fill_page-paged.ensures c.in_default.not-End

pub returns : goal.returns
returns c =
    let last = ap (λ (d : Cursor). d.page) c.end_cursor-last.ensures in
    block.told_is c.stopped-2.ensures
    ∙ block.stops c.loop-p.invariant.1 (block.at_last _ _ _ _ _ _ (omega (arith, c.loop-p.invariant.0)) (omega arith) c.end_cursor-last.ensures)
