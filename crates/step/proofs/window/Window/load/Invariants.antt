-- `step::window::Window::load` meets its contract: each turn reads one more byte, from the highest down.
-- Assumes nothing.
use Prim.Native.Nat.{◌+◌, ◌-◌, ◌^◌, ◌<◌}
use mathlib.Core.Path.{◌≡◌}
use Rattle.frame.specs.Memory.{load}
use Rattle.step.proofs.window.Window.load.Given as goal

abbrev pub invariant-loop-i : goal.invariant-loop-i
invariant-loop-i g l = (l.number ≡ load (g.row.WIDTH - l.i) (l.at + l.i) l.self.bytes.now) × (l.number < 256 ^ (g.row.WIDTH - l.i))
