-- Two answers that conform to a contract are one answer: where it is `r ≡ t`, at once; where it is `told r ≡ t`, since what was told
-- gives the answer back.
-- Assumes nothing.
use Prim.Native.Nat.{ℕ}
use mathlib.Core.Path.{◌≡◌, refl, ap, sym, ◌∙◌}
use mathlib.Core.List.{List, [], ◌∷◌}
use lib.ListN.{length}
use denote.Ref.{Bor}
use denote.Slice.{slice_val, shr_slice_vals}
use Rattle.reader.specs.Reader.{told, or_zero, Slice, slice_told}
use Rattle.std.specs.Prelude.{Option, Some, None}

pub one_answer : {A : Type 0} (t x y : A) → x ≡ t → y ≡ t → x ≡ y
one_answer t x y p q = p ∙ sym q

-- a read's answer, where what its number tells gives the number back
pub one-read : {A : Type 0} (f : A → ℕ) → ((x y : A) → f x ≡ f y → x ≡ y) → (t : Option ℕ) (x y : Option A) → told f x ≡ t → told f y ≡ t → x ≡ y
one-read {A = A} f back t x y p q = same x y (p ∙ sym q)
  where
    same : (x y : Option A) → told f x ≡ told f y → x ≡ y
    same (Some x) (Some y) e = ap Some (back x y (ap or_zero e))
    same (Some x) None e = cc
    same None (Some y) e = cc
    same None None e = refl

-- two slices: the same value in the machine, a pointer and a count, and the same bytes
pub one-slice : (t : Slice) (x y : Bor (List ℕ)) → slice_told x ≡ t → slice_told y ≡ t → (shr_slice_vals x ≡ shr_slice_vals y) × (x.now ≡ y.now)
one-slice t x y p q =
    (ap (λ (z : Slice). slice_val z.start (length z.bytes) ∷ []) (p ∙ sym q), ap (λ (z : Slice). z.bytes) (p ∙ sym q))
