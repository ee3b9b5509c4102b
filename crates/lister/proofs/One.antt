-- Two answers that conform to a contract are one, and so are the lent bytes.
-- Assumes nothing.
use Prim.Native.Nat.{ℕ}
use mathlib.Core.Path.{◌≡◌, ap, sym, ◌∙◌}
use mathlib.Core.List.{List}
use Rattle.lister.specs.declared.Block.{Block}
use Rattle.lister.specs.Block.{Outcome, block_told}

pub one_block : (o : Outcome) (x y : Block) (xs ys : List ℕ) → block_told x xs ≡ o → block_told y ys ≡ o → (x ≡ y) × (xs ≡ ys)
one_block o x y xs ys p q =
    (ap {B = Block} (λ (r : Outcome). record { written = r.written; next = r.next }) (p ∙ sym q), ap (λ (r : Outcome). r.text) (p ∙ sym q))
