-- `batch::by_fours` meets its contract: each turn writes four answers more.
-- Assumes nothing.
use mathlib.Core.Path.{◌∙◌}
use native.Mathlib.Omega.{arith}
use Rattle.batch.proofs.Batches.{none_yet, four-on}
use Rattle.batch.proofs.by_fours.Goals as goal

pub loop-i-init : goal.loop-i-init
loop-i-init c = none_yet _ _ _

pub loop-i-preserved : goal.loop-i-preserved
loop-i-preserved c =
    let chunks = c.as_chunks.ensures in
    four-on _ _ _ _ _ _ c.loop-i.invariant _ c.requires.0 _ chunks.front (omega arith) c.requires.1 (c.answer_four.ensures ∙ simp (c.new-opened.ensures.0, c.new-opened.ensures.1))
