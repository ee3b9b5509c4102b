-- `lister::write_functions` meets its contract: the lines are those of the functions that were filled in, and the stop's line is behind them.
-- Assumes nothing.
use mathlib.Core.Bool.{true, false}
use mathlib.Core.Path.{ap, sym}
use native.Mathlib.Omega.{arith}
use Rattle.fill.specs.declared.Stop.{Stop}
use Rattle.fill.specs.Fill.{why_of}
use Rattle.lister.specs.Block.{is_end}
use Rattle.lister.proofs.Cases.{not-ended, lines_end, bytes_inside, block_written}
use Rattle.lister.proofs.write_functions.Goals as goal

pub slice_bounds-write_stop-count : goal.slice_bounds-write_stop-count
slice_bounds-write_stop-count c =
    lines_end _ _ c.args.at _ _ c.requires.0 c.requires.1 c.fill_of-block.result _ c.fill_of-block.ensures
    _ _ c.write_lines-n.ensures _ c.saturating_add-functions.ensures

pub slice_bounds-write_stop-start : goal.slice_bounds-write_stop-start
slice_bounds-write_stop-start c =
    lines_end _ _ c.args.at _ _ c.requires.0 c.requires.1 c.fill_of-block.result _ c.fill_of-block.ensures
    _ _ c.write_lines-n.ensures _ c.saturating_add-functions.ensures

pub overflow_add-result : goal.overflow_add-result
overflow_add-result c =
    omega (
      arith,
      bytes_inside _ _ c.args.at _ _ c.requires.0 c.requires.1 c.fill_of-block.result _ c.fill_of-block.ensures
          _ _ c.write_lines-n.ensures _ c.saturating_add-functions.ensures _ _ c.write_stop-rest.ensures,
    )

pub returns-in-End : goal.returns-in-End
returns-in-End c =
    block_written _ _ c.args.at _ _ c.requires.0 c.requires.1 c.fill_of-block.result _ c.fill_of-block.ensures
    _ _ c.write_lines-n.ensures _ c.saturating_add-functions.ensures _ _ c.write_stop-rest.ensures true (ap (λ (x : Stop). is_end (why_of x)) (sym c.in-End.is))

pub returns-in_default : goal.returns-in_default
returns-in_default c =
    block_written _ _ c.args.at _ _ c.requires.0 c.requires.1 c.fill_of-block.result _ c.fill_of-block.ensures
    _ _ c.write_lines-n.ensures _ c.saturating_add-functions.ensures _ _ c.write_stop-rest.ensures false (not-ended _ c.in_default.not-End)
