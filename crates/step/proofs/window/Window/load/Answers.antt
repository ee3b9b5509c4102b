-- `step::window::Window::load` meets its contract: each turn reads one more byte, from the highest down.
-- Assumes nothing.
use native.Mathlib.Omega.{arith}
use Rattle.step.proofs.Turns.{load_turn, load_room}
use Rattle.step.proofs.window.Window.load.Goals as goal

pub overflow_mul-number : goal.overflow_mul-number
overflow_mul-number g c = record { fits = omega (arith, load_room _ _ _ c.args.self.machine.0 c.loop-i-test.true c.loop-i.invariant.1) }

pub overflow_add-number : goal.overflow_add-number
overflow_add-number g c = record { fits = omega (arith, load_room _ _ _ c.args.self.machine.0 c.loop-i-test.true c.loop-i.invariant.1) }

pub loop-i-preserved : goal.loop-i-preserved
loop-i-preserved g c = load_turn g.row.WIDTH c.args.at c.loop-i.i _ _ _ c.loop-i-test.true c.loop-i.auto.i (omega arith) c.from.ensures c.loop-i.invariant
