-- What the loop over pages keeps: a call at the cursor asked for tells what a call at the place reached tells.
-- Assumes nothing.
use Prim.Native.Nat.{ℕ, ◌+◌, ◌≤◌, ◌<◌}
use mathlib.Core.Path.{◌≡◌, ap, sym, ◌∙◌}
use mathlib.Core.List.{List}
use Rattle.std.specs.Prelude.{Result, Ok, Err, Option, Some, IsOkAnd, MatchResult}
use Rattle.reader.specs.Reader.{Slice, slice_told}
use Rattle.raw.specs.declared.Lists.{Lists}
use Rattle.raw.specs.declared.Error.{Error}
use Rattle.raw.specs.Checked.{Checked, good, refused, number_of, told}
use Rattle.entries.specs.declared.Function.{Function}
use Rattle.entries.specs.declared.PageAt.{PageAt}
use Rattle.entries.specs.Placed.{read_of}
use Rattle.iterate.specs.declared.Cursor.{Cursor}
use Rattle.iterate.specs.Iterate.{cursor, end_cursor, answer, end, next_of, stepped}
use Rattle.iterate.specs.Opened.{Opened, opens, opened_told}
use Rattle.iterate.proofs.Iteration.{at-end, page-refused, page-function, page-past}
use Rattle.iterate.proofs.Opened.{is-refused, is-opened, function-there}

module _ (z : Slice) (l : Lists) (c : Cursor) (p i : ℕ) (inv : next_of z.bytes l c ≡ next_of z.bytes l (cursor p i)) where
  abbrev s : List ℕ
  s = z.bytes

  pub stops-at-end : (d : Cursor) → l.pages_len ≤ p + 1 → d ≡ end_cursor l → end d ≡ next_of s l c
  stops-at-end d h e = ap end e ∙ sym (inv ∙ at-end s l p i h)

  module _ (h : p + 1 < l.pages_len) (w : Result PageAt Error) (e : opened_told w ≡ opens z l p) where
    pub stops-refused : (k : Error) → w ≡ Err k → answer (refused (number_of k)) (cursor (p + 1) 0) ≡ next_of s l c
    stops-refused k q = sym (inv ∙ page-refused s l p i (number_of k) h (is-refused z l p _ (ap opened_told (sym q) ∙ e)))

    module _ (x : PageAt) (q : w ≡ Ok x) where
      abbrev page : Opened
      page = record { section = slice_told x.section; globals = slice_told x.globals; place = x.place }

      is : good page ≡ opens z l p
      is = ap opened_told (sym q) ∙ e

      pub stops-answered : (a : Checked Function) → i < x.place.page.functions_len → a ≡ read_of x.section.now x.globals.now x.place i → answer a (cursor p (i + 1)) ≡ next_of s l c
      stops-answered a t f =
          ap (λ (b : Checked Function). answer b (cursor p (i + 1))) (f ∙ function-there z l p page is i t)
          ∙ sym (inv ∙ page-function s l p i x.place.page h (is-opened z l p page is) t)

      pub goes_on : x.place.page.functions_len ≤ i → (next : ℕ) → p + 1 ≡ next → next_of s l c ≡ next_of s l (cursor next 0)
      goes_on t next n = inv ∙ page-past s l p i x.place.page h (is-opened z l p page is) t ∙ ap (λ (m : ℕ). next_of s l (cursor m 0)) n

-- a function's answer is the call's
pub in-step : (d : Cursor) (r : Result Function Error) (m : Result (Option Function) Error)
    → MatchResult r (λ f. IsOkAnd m (λ x. x ≡ Some f)) (λ e. m ≡ Err e) → stepped d (told m) ≡ answer (told r) d
in-step d (Ok f) (Ok x) h = ap (λ (y : Option Function). stepped d (good y)) h
in-step d (Ok f) (Err e) h = absurd h
in-step d (Err e) m h = ap (λ (x : Result (Option Function) Error). stepped d (told x)) h
