-- Two answers that conform to a contract are one, probes included; and after a parse, the lookup on its lists is the lookup on the bytes alone.
-- Assumes nothing.
use Prim.Native.Nat.{ℕ}
use mathlib.Core.Path.{◌≡◌, refl, ap, sym, ◌∙◌}
use mathlib.Core.List.{List}
use mathlib.Mathlib.Logic.Function.Defs.{LeftInverse, LeftInverse-Injective}
use Rattle.raw.specs.declared.Lists.{Lists}
use Rattle.raw.specs.Checked.{good}
use Rattle.raw.specs.Raw.{parse_of}
use Rattle.raw.proofs.Grants.{as-parsed}
use Rattle.raw.proofs.One.{error_of, error-back}
use Rattle.std.specs.Prelude.{Option, Some, None, Result, Ok, Err}
use Rattle.raw.specs.declared.Error.{Error}
use Rattle.entries.specs.declared.Function.{Function}
use Rattle.lookup.specs.declared.Found.{Found}
use Rattle.lookup.specs.Lookup.{Looked, found, nothing, refusal, looked_told, told_with, lookup_in, lookup_on}

abbrev found_for : Looked → Found
found_for (found f n) = record { probes = n; function = Ok (Some f) }
found_for (nothing n) = record { probes = n; function = Ok None }
found_for (refusal k n) = record { probes = n; function = Err (error_of k) }

found_back : LeftInverse found_for looked_told
found_back r = by r.probes r.function
  where
    by : (n : ℕ) (w : Result (Option Function) Error) → found_for (told_with n w) ≡ record { probes = n; function = w }
    by n (Ok (Some f)) = refl
    by n (Ok None) = refl
    by n (Err e) = ap (λ (x : Error). record { probes = n; function = Err x }) (error-back e)

pub one_found : (t : Looked) (x y : Found) → looked_told x ≡ t → looked_told y ≡ t → x ≡ y
one_found t x y p q = LeftInverse-Injective found_for looked_told found_back x y (p ∙ sym q)

pub after-parse : (s : List ℕ) (l : Lists) → parse_of s ≡ good l → (pc : ℕ) → lookup_in s l pc ≡ lookup_on s pc
unfolding lookup_in lookup_on
after-parse s l e pc = as-parsed _ _ s l e
