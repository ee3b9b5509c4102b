-- `step::window::Window::all_inside` meets its contract: it tests each slot.
-- Assumes nothing.
use Rattle.std.proofs.Common.{ℕ, Bool, length, ◌∙◌, sym, rules, tests}
use Rattle.std.proofs.lemmas.Iterator.{YieldsList-from_slice}
use Rattle.std.proofs.lemmas.Iterator.Search.{all_from_yields_List}
use Rattle.frame.specs.Frame.{inside}
use Rattle.step.specs.Slots.{slot_inside}
use Rattle.step.proofs.Turns.{all_slots}
use Rattle.step.proofs.window.Window.all_inside.Goals as goal

pub returns : goal.returns
returns g c =
    let s = c.args.self in
    let F : ℕ → Bool = inside g.row.WIDTH s.base (length s.bytes.now) c.args.cfa in
    let ds = c.args.below.now in
    all_from_yields_List (slot_inside F) _ _ _ c.all.ensures.ran (YieldsList-from_slice ds cc) (λ x b q k. search (rules, tests)) ∙ sym (all_slots F ds)
