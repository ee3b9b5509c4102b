-- Two answers that conform to the contract are one, and so are the contents of the list.
-- Assumes nothing.
use Prim.Native.Nat.{ℕ}
use mathlib.Core.Path.{◌≡◌, ap, sym, ◌∙◌}
use mathlib.Core.List.{List}
use Rattle.batch.specs.Batch.{Batch, batch}

pub one_batch : (t : Batch) (m n : ℕ) (xs ys : List ℕ) → batch m xs ≡ t → batch n ys ≡ t → (m ≡ n) × (xs ≡ ys)
one_batch t m n xs ys p q = (ap (λ (b : Batch). b.answers) (p ∙ sym q), ap (λ (b : Batch). b.list) (p ∙ sym q))
