-- From a lookup on: the call at the place of the function found answers that very function, so a caller can go on iterating from there. A lookup
-- doesn't ask for the page's local opcodes, and a cursor's call does: where they don't lie in the section it says 11.
-- Assumes nothing.
use Prim.Native.Nat.{ℕ, ◌+◌, ◌<◌}
use mathlib.Core.Path.{◌≡◌, refl, ap, ◌∙◌}
use mathlib.Core.Bool.{Bool, true, false, cond}
use mathlib.Core.List.{List}
use native.Mathlib.Omega.{arith}
use Rattle.raw.specs.declared.Lists.{Lists}
use Rattle.raw.specs.Checked.{Checked, good, refused, ◌>>◌, check}
use Rattle.raw.specs.Raw.{locals_granted, open_of}
use Rattle.raw.proofs.Grants.{parsed}
use Rattle.raw.proofs.Opens.{opened-reads}
use Rattle.entries.specs.declared.Function.{Function}
use Rattle.entries.specs.Section.{page_at, opened_at}
use Rattle.iterate.specs.Iterate.{Step, cursor, answer, next_of, next_in, next_on}
use Rattle.iterate.proofs.Iteration.{page-refused, page-function}
use Rattle.lookup.specs.Lookup.{found, lookup_of, lookup_in, lookup_on}
use Rattle.lookup.proofs.Where.{FoundAt, found_at}
use Rattle.well_formed.specs.WellFormed.{WellFormed}

-- the function found, with the cursor after it
abbrev pub itself : Function → Step
itself f = answer (good f) (cursor f.page (f.index + 1))

module _ (s : List ℕ) (l : Lists) (pc : ℕ) (f : Function) (at : FoundAt s l pc f.page f.index f) where
  abbrev locals : Bool
  locals = locals_granted (page_at s l f.page) at.page

  opens : opened_at s l f.page ≡ cond locals (good at.page) (refused 11)
  unfolding opened_at open_of page_at
  opens = rw at.reads (by locals)
    where
      by : (b : Bool) → ◌>>◌ (check 11 b) (good at.page) ≡ cond b (good at.page) (refused 11)
      by true = refl
      by false = refl

  pub goes_on : next_of s l (cursor f.page f.index) ≡ cond locals (itself f) (answer (refused 11) (cursor (f.page + 1) 0))
  goes_on = by locals opens
    where
      last : f.page + 1 < l.pages_len
      last = omega (arith, at.before_last)

      by : (b : Bool) → opened_at s l f.page ≡ cond b (good at.page) (refused 11)
          → next_of s l (cursor f.page f.index) ≡ cond b (itself f) (answer (refused 11) (cursor (f.page + 1) 0))
      by true e =
          page-function s l f.page f.index at.page last e at.inside
          ∙ ap (λ (x : Checked Function). answer x (cursor f.page (f.index + 1))) at.is
      by false e = page-refused s l f.page f.index 11 last e

-- in a well-formed section no page lacks its local opcodes
module _ (s : List ℕ) (w : WellFormed s) (pc : ℕ) (f : Function) (n : ℕ) where
  whole : (at : FoundAt s w.lists pc f.page f.index f) → locals_granted (page_at s w.lists f.page) at.page ≡ true
  unfolding opened_at page_at
  whole at =
      let each = w.sound.each f.page at.before_last in
      let both = opened-reads s _ _ each.0 each.1.opens in
      let page = at.reads in
      let same : each.0 ≡ at.page = cc both.0 in
      rw same at both.1

  on-lists : lookup_of s w.lists pc ≡ found f n → next_of s w.lists (cursor f.page f.index) ≡ itself f
  on-lists e =
      let at = found_at s w.lists pc f n e in
      goes_on s w.lists pc f at ∙ ap (λ (b : Bool). cond b (itself f) (answer (refused 11) (cursor (f.page + 1) 0))) (whole at)

  pub goes-on-on : lookup_on s pc ≡ found f n → next_on s (cursor f.page f.index) ≡ itself f
  unfolding lookup_on next_on
  goes-on-on e = rw w.parses (on-lists (rw w.parses at e))

  pub goes-on-in : lookup_in s w.lists pc ≡ found f n → next_in s w.lists (cursor f.page f.index) ≡ itself f
  unfolding lookup_in next_in
  goes-on-in e =
      let g = parsed s w.lists w.parses in
      rw g (on-lists (rw g at e))
