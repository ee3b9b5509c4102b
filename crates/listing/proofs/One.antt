-- Two contents that conform to a contract are one, and so are the two answers.
-- Assumes nothing.
use Prim.Native.Nat.{ℕ}
use mathlib.Core.Path.{◌≡◌}
use mathlib.Core.List.{List}
use Rattle.listing.specs.Listing.{Told, written}

pub one_answer : (t : Told) (r s : ℕ) (x y : List ℕ) → written r x ≡ t → written s y ≡ t → (r ≡ s) × (x ≡ y)
one_answer t r s x y p q = (cc, cc)
