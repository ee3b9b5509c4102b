-- `iterate::next_of` meets its contract: each turn tells what the cursor asked for tells, from where it stands.
-- Assumes nothing.
use mathlib.Core.Path.{ap, ◌∙◌}
use native.Mathlib.Omega.{arith}
use Rattle.iterate.specs.declared.Cursor.{Cursor}
use Rattle.reader.specs.Reader.{slice_told}
use Rattle.iterate.proofs.Loop.{stops-at-end, stops-refused, stops-answered, goes_on, in-step}
use Rattle.iterate.proofs.next_of.Goals as goal

pub returns-in-Err : goal.returns-in-Err
returns-in-Err c =
    let last = ap (λ (d : Cursor). d.page) c.end_cursor-last.ensures in
    stops-refused (slice_told c.args.section.bytes) _ _ _ _ c.loop-p.invariant (omega arith) _ c.open_at.ensures _ c.in-Err.is

pub returns-then-i-page : goal.returns-then-i-page
returns-then-i-page c =
    let last = ap (λ (d : Cursor). d.page) c.end_cursor-last.ensures in
    in-step _ _ _ c.map.ensures.cases
    ∙ stops-answered (slice_told c.args.section.bytes) _ _ _ _ c.loop-p.invariant (omega arith) _ c.open_at.ensures _ c.in-Ok.is _ c.if-i-page.true c.function.ensures

pub loop-p-preserved : goal.loop-p-preserved
loop-p-preserved c =
    let last = ap (λ (d : Cursor). d.page) c.end_cursor-last.ensures in
    goes_on (slice_told c.args.section.bytes) _ _ _ _ c.loop-p.invariant (omega arith) _ c.open_at.ensures _ c.in-Ok.is c.if-i-page.false _ (omega arith)

pub returns : goal.returns
returns c =
    let last = ap (λ (d : Cursor). d.page) c.end_cursor-last.ensures in
    stops-at-end (slice_told c.args.section.bytes) _ _ _ _ c.loop-p.invariant _ (omega arith) c.end_cursor-last.ensures
