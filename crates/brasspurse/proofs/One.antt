-- Two answers that conform to the contract of a call that lends a list are one, the list's content with them. (Every other call's contract gives
-- the answer itself.)
-- Assumes nothing.
use Prim.Native.Nat.{ℕ}
use mathlib.Core.Path.{◌≡◌, ap, sym, ◌∙◌}
use mathlib.Core.List.{List}
use Rattle.brasspurse.specs.declared.sections.FillAnswer.{FillAnswer}
use Rattle.brasspurse.specs.Sections.{FillOutcome, filled_outcome}

pub one-fill : (t : FillOutcome) (x y : FillAnswer) (xs ys : List ℕ) → filled_outcome x xs ≡ t → filled_outcome y ys ≡ t → (x ≡ y) × (xs ≡ ys)
one-fill t x y xs ys p q = (ap (λ (o : FillOutcome). o.flat) (p ∙ sym q), ap (λ (o : FillOutcome). o.list) (p ∙ sym q))
