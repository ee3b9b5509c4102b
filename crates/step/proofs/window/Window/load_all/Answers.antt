-- `step::window::Window::load_all` meets its contract: each turn loads one more register.
-- Assumes nothing.
use Prim.Native.Nat.{ℕ, ◌-◌}
use mathlib.Core.Bool.{Bool}
use lib.ListN.{length}
use Rattle.frame.specs.Memory.{load}
use Rattle.frame.specs.Frame.{inside}
use mathlib.Core.Path.{sym, ◌∙◌}
use native.Mathlib.Numerals.{add-one}
use Rattle.step.proofs.Turns.{skip, loads, slot_there}
use Rattle.step.proofs.window.Window.load_all.Goals as goal
use Rattle.step.proofs.window.Window.load_all.Goals.{then-d-ne0, else-d-ne0}

pub loop-i-preserved : goal.loop-i-preserved
loop-i-preserved g c =
    let s = c.args.self in
    let F : ℕ → Bool = inside g.row.WIDTH s.base (length s.bytes.now) c.args.cfa in
    let f : ℕ → ℕ = λ d. load g.row.WIDTH (c.args.cfa - d - s.base) s.bytes.now in
    let ds = c.args.below.now in
    rw add-one
    (elim c.if-d-ne0.branch [
      | then-d-ne0 w ↦
          rw (w.kept-is, w.load.ensures, w.from.ensures)
          (loads F f ds c.args.kept.now c.loop-i.kept c.loop-i.i c.loop-i.invariant c.loop-i-test.true w.if-d-ne0.true
          (slot_there F ds c.loop-i.i c.loop-i-test.true w.if-d-ne0.true (sym c.loop-i.invariant.same ∙ c.requires.1)))
      | else-d-ne0 w ↦ rw w.kept-is (skip F f ds c.args.kept.now c.loop-i.kept c.loop-i.i c.loop-i.invariant c.loop-i-test.true w.if-d-ne0.false)
    ])
