-- `step::window::Window::load_all` meets its contract: each turn loads one more register.
-- Assumes nothing.
use Prim.Native.Nat.{ℕ, ◌-◌}
use lib.ListN.{length}
use Rattle.frame.specs.Memory.{load}
use Rattle.frame.specs.Frame.{inside}
use Rattle.step.proofs.Turns.{Going}
use Rattle.step.proofs.window.Window.load_all.Given as goal

abbrev pub invariant-loop-i : goal.invariant-loop-i
invariant-loop-i g l =
    Going (inside g.row.WIDTH l.self.base (length l.self.bytes.now) l.cfa) (λ (d : ℕ). load g.row.WIDTH (l.cfa - d - l.self.base) l.self.bytes.now) l.below
    l.initial.kept l.kept l.i
