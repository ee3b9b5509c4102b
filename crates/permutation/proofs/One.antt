-- Two answers that conform to a contract are one answer, since what was told gives the answer back. (The contract of `number` gives
-- the answer itself.)
-- Assumes nothing.
use Prim.Native.Nat.{ℕ}
use mathlib.Core.Path.{◌≡◌, refl, sym, ◌∙◌}
use mathlib.Core.List.{List}
use mathlib.Mathlib.Logic.Function.Defs.{LeftInverse, LeftInverse-Injective}
use lib.Dec.{eqb}
use mathlib.Core.Bool.{cond}
use Rattle.std.specs.Prelude.{Result, Ok, Err}
use Rattle.permutation.specs.Permutation.{Told, accepted, told, Written, encoding, told_encoded}
use Rattle.permutation.specs.declared.Error.{Error}

abbrev refusal : ℕ → Error
refusal k = cond (eqb k 23) Error.Encoding Error.List

abbrev back : Told → Result (List ℕ) Error
back (accepted xs) = Ok xs
back (Told.refused k xs) = Err (refusal k)

way : LeftInverse back told
way (Ok xs) = refl
way (Err Error.Encoding) = refl
way (Err Error.List) = refl

abbrev back_encoded : Written → Result ℕ Error
back_encoded (encoding e) = Ok e
back_encoded (Written.refused k) = Err (refusal k)

way_encoded : LeftInverse back_encoded told_encoded
way_encoded (Ok e) = refl
way_encoded (Err Error.Encoding) = refl
way_encoded (Err Error.List) = refl

pub one-permutation : (t : Told) (x y : Result (List ℕ) Error) → told x ≡ t → told y ≡ t → x ≡ y
one-permutation t x y p q = LeftInverse-Injective back told way x y (p ∙ sym q)

pub one-encoded : (t : Written) (x y : Result ℕ Error) → told_encoded x ≡ t → told_encoded y ≡ t → x ≡ y
one-encoded t x y p q = LeftInverse-Injective back_encoded told_encoded way_encoded x y (p ∙ sym q)
