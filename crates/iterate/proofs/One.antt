-- Two answers that conform to a contract are one, cursors included; and after a parse, a call on its lists is the call on the bytes alone.
-- Assumes nothing.
use Prim.Native.Nat.{ℕ}
use mathlib.Core.Path.{◌≡◌, refl, ap, sym, ◌∙◌}
use mathlib.Core.List.{List}
use mathlib.Mathlib.Logic.Function.Defs.{LeftInverse, LeftInverse-Injective}
use Rattle.std.specs.Prelude.{Result, Ok, Err, Option, Some, None}
use Rattle.raw.specs.Checked.{Checked, good, refused, told}
use Rattle.raw.specs.declared.Error.{Error}
use Rattle.raw.specs.declared.Lists.{Lists}
use Rattle.raw.specs.Raw.{parse_of}
use Rattle.raw.proofs.Grants.{as-parsed}
use Rattle.raw.proofs.One.{error_of, error-back, one-good, one-error}
use denote.Slice.{shr_slice_vals}
use Rattle.reader.specs.Reader.{slice_told}
use Rattle.reader.proofs.One.{one-slice}
use Rattle.entries.specs.declared.PageAt.{PageAt}
use Rattle.iterate.specs.Opened.{Opened, opened_told}
use Rattle.entries.specs.declared.Function.{Function}
use Rattle.iterate.specs.declared.Cursor.{Cursor}
use Rattle.iterate.specs.declared.Next.{Next}
use Rattle.iterate.specs.Iterate.{Step, answer, end, stepped, next_told, next_in, next_on}
use Rattle.iterate.specs.Range.{range_in, range_on}

abbrev next : Cursor → Result (Option Function) Error → Next
next c r = record { next = c; function = r }

abbrev next_for : Step → Next
next_for (answer (good f) c) = next c (Ok (Some f))
next_for (answer (refused k) c) = next c (Err (error_of k))
next_for (end c) = next c (Ok None)

step-back : (c : Cursor) (r : Result (Option Function) Error) → next_for (stepped c (told r)) ≡ next c r
step-back c (Ok (Some f)) = refl
step-back c (Ok None) = refl
step-back c (Err e) = ap (λ k. next c (Err k)) (error-back e)

next-back : LeftInverse next_for next_told
next-back x = step-back x.next x.function

pub one-next : (t : Step) (x y : Next) → next_told x ≡ t → next_told y ≡ t → x ≡ y
one-next t x y p q = LeftInverse-Injective next_for next_told next-back x y (p ∙ sym q)

-- two pages that were opened alike: the same slices in the machine, the same bytes in them, and the same place; and two refusals
pub record Same (x y : PageAt) : Type 0 where
  pub section : (shr_slice_vals x.section ≡ shr_slice_vals y.section) × (x.section.now ≡ y.section.now)
  pub globals : (shr_slice_vals x.globals ≡ shr_slice_vals y.globals) × (x.globals.now ≡ y.globals.now)
  pub place : x.place ≡ y.place

module _ (t : Checked Opened) where
  pub one-opened : (x y : PageAt) → opened_told (Ok x) ≡ t → opened_told (Ok y) ≡ t → Same x y
  one-opened x y p q =
      let told : PageAt → Opened = λ (z : PageAt). record { section = slice_told z.section; globals = slice_told z.globals; place = z.place } in
      let same : told x ≡ told y = one-good (told x) (told y) (p ∙ sym q) in
      record {
        section = one-slice (told y).section x.section y.section (ap (λ (m : Opened). m.section) same) refl;
        globals = one-slice (told y).globals x.globals y.globals (ap (λ (m : Opened). m.globals) same) refl;
        place = ap (λ (m : Opened). m.place) same;
      }

  pub one-unopened : (d e : Error) → opened_told (Err d) ≡ t → opened_told (Err e) ≡ t → d ≡ e
  one-unopened d e p q = one-error d e (p ∙ sym q)

module _ (s : List ℕ) (l : Lists) (e : parse_of s ≡ good l) where
  pub next-after-parse : (c : Cursor) → next_in s l c ≡ next_on s c
  unfolding next_in next_on
  next-after-parse c = as-parsed _ _ s l e

  pub range-after-parse : range_in s l ≡ range_on s
  unfolding range_in range_on
  range-after-parse = as-parsed _ _ s l e
