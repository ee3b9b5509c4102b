-- Two answers that conform to a contract are one, and so are the lists' contents; and after a parse, the call on its lists is the call on the bytes alone.
-- Assumes nothing.
use mathlib.Core.Path.{◌≡◌, refl, ap, sym, ◌∙◌}
use mathlib.Core.List.{List}
use Prim.Native.Nat.{ℕ}
use Rattle.raw.specs.declared.Lists.{Lists}
use Rattle.raw.specs.Checked.{good}
use Rattle.raw.specs.Raw.{parse_of}
use Rattle.raw.proofs.Grants.{as-parsed}
use Rattle.raw.proofs.One.{error_of, error-back}
use Rattle.iterate.specs.declared.Cursor.{Cursor}
use Rattle.fill.specs.declared.Filled.{Filled}
use Rattle.fill.specs.declared.Stop.{Stop}
use Rattle.fill.specs.Fill.{Why, full, ended, refusal, Outcome, why_of, filled_told, fill_in, fill_on}

abbrev stop_for : Why → Stop
stop_for full = Stop.Full
stop_for ended = Stop.End
stop_for (refusal k) = Stop.Refused (error_of k)

stop-back : (w : Stop) → stop_for (why_of w) ≡ w
stop-back Stop.Full = refl
stop-back Stop.End = refl
stop-back (Stop.Refused e) = ap Stop.Refused (error-back e)

abbrev filled_for : Outcome → Filled
filled_for o = record { functions = o.functions; next = o.next; stop = stop_for o.why }

filled-back : (r : Filled) (list : List ℕ) → filled_for (filled_told r list) ≡ r
filled-back r list = ap {B = Filled} (λ (w : Stop). record { functions = r.functions; next = r.next; stop = w }) (stop-back r.stop)

pub one-filled : (t : Outcome) (x y : Filled) (xs ys : List ℕ) → filled_told x xs ≡ t → filled_told y ys ≡ t → (x ≡ y) × (xs ≡ ys)
one-filled t x y xs ys p q =
    (sym (filled-back x xs) ∙ ap filled_for (p ∙ sym q) ∙ filled-back y ys, ap (λ (o : Outcome). o.list) (p ∙ sym q))

pub after-parse : (s : List ℕ) (l : Lists) → parse_of s ≡ good l → (c : Cursor) (out : List ℕ) → fill_in s l c out ≡ fill_on s c out
unfolding fill_in fill_on
after-parse s l e c out = as-parsed _ _ s l e
