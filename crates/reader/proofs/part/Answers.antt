-- `reader::part` meets its contract: the part starts past the end, runs past it, or lies inside.
-- Assumes nothing.
use borrow.Author.Tests.{le-leb, lt-leb}
use Rattle.reader.proofs.Laws.{placed, starts-past, runs_past, lies-inside}
use Rattle.reader.proofs.part.Goals as goal

pub returns-then-s-offset : goal.returns-then-s-offset
returns-then-s-offset c = placed _ _ _ _ _ _ (simp (lt-leb _ _ c.if-s-offset.true)) (starts-past _ _ _ c.if-s-offset.true)

pub returns-then-s-offset-2 : goal.returns-then-s-offset-2
returns-then-s-offset-2 c = placed _ _ _ _ _ _ (simp (le-leb _ _ c.if-s-offset.false)) (runs_past _ _ _ c.if-s-offset-2.true)

pub returns : goal.returns
returns c = placed _ _ _ _ _ _ (simp (le-leb _ _ c.if-s-offset.false)) (lies-inside _ _ _)
