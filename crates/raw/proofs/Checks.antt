-- What a check says: where it was passed, its test holds; where it was not, the test does not, and the number is the check's.
-- Assumes nothing.
use Prim.Native.Nat.{ℕ}
use mathlib.Core.Path.{◌≡◌, refl, ap}
use mathlib.Core.Bool.{Bool, true, false}
use native.Mathlib.Omega.{arith}
use Rattle.std.specs.Prelude.{Result, Ok, Err, IsErrAnd}
use Rattle.raw.specs.declared.Error.{Error}
use Rattle.raw.specs.Checked.{good, refused, check, number_of, told}

pub passes : (k : ℕ) (b : Bool) → good tt ≡ check k b → b ≡ true
passes k true e = refl
passes k false e = absurd (let z : ◌≡◌ {A = ℕ} 0 1 = cc in omega arith)

pub fails : (k n : ℕ) (b : Bool) → refused n ≡ check k b → (b ≡ false) × (n ≡ k)
fails k n true e = absurd (let z : ◌≡◌ {A = ℕ} 0 1 = cc in omega arith)
fails k n false e = (refl, cc)

-- a `?` passes the error on as it is
pub passed_on : {A : Type 0} (r : Result A Error) (e : Error) → IsErrAnd r (λ x. x ≡ e) → told r ≡ refused (number_of e)
passed_on (Ok x) e h = absurd h
passed_on (Err d) e h = ap (λ (x : Error). refused (number_of x)) h
