-- `lister::write_refusal` meets its contract: `refused N` at the front, and the end behind it.
-- Assumes nothing.
use borrow.Author.Rules.{rules}
use native.Mathlib.Omega.{arith}
use Rattle.lister.proofs.Cases.{refusal-ends, refusal-bytes, refusal-written}
use Rattle.lister.proofs.write_refusal.Goals as goal

pub slice_bounds-write_end-count : goal.slice_bounds-write_end-count
slice_bounds-write_end-count c = refusal-ends _ (search rules) _ c.requires _ _ c.write_refused-n.ensures

pub slice_bounds-write_end-start : goal.slice_bounds-write_end-start
slice_bounds-write_end-start c = refusal-ends _ (search rules) _ c.requires _ _ c.write_refused-n.ensures

pub overflow_add-result : goal.overflow_add-result
overflow_add-result c = omega (arith, refusal-bytes _ (search rules) _ c.requires _ _ c.write_refused-n.ensures _ _ c.write_end.ensures)

pub returns : goal.returns
returns c = refusal-written _ (search rules) _ c.requires _ _ c.write_refused-n.ensures _ _ c.write_end.ensures
