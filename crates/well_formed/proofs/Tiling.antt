-- docs/FORMAT.md, 0.2: on a well-formed section the functions that the calls tell cover the address range in order, with no gap or overlap, each
-- once.
-- Assumes nothing.
use Prim.Native.Nat.{ℕ, zero, suc, ◌+◌, ◌-◌, ◌≤◌, ◌<◌}
use mathlib.Core.Path.{◌≡◌, refl, ap, ◌∙◌}
use mathlib.Core.Bool.{Bool, true, false, cond}
use mathlib.Core.Logic.{◌⊎◌, inl, inr}
use mathlib.Core.List.Memᴰ
use mathlib.Core.List.{List, [], ◌∷◌, ◌++◌, map, Memᴰ}
use native.Mathlib.Omega.{arith}
use borrow.Author.Tests.{eqb-true}
use lib.Dec.{eqb}
use Rattle.reader.specs.Reader.{Bytes}
use Rattle.raw.specs.declared.Lists.{Lists}
use Rattle.raw.specs.declared.Page.{Page}
use Rattle.raw.specs.Checked.{Checked, good, refused, either}
use Rattle.raw.proofs.Grants.{parsed}
use Rattle.entries.specs.declared.Function.{Function}
use Rattle.entries.specs.Entries.{start_of}
use Rattle.entries.specs.Section.{first_of, page_at, opened_at}
use Rattle.iterate.specs.declared.Cursor.{Cursor}
use Rattle.iterate.specs.declared.Range.{Range}
use Rattle.iterate.specs.Iterate as iterate
use Rattle.iterate.specs.Iterate.{cursor, Step, answer, end, next_of, next_in, next_on, Iterates, functions_from, in_pages, pages_from, iterated}
use Rattle.iterate.specs.Range.{range_of, range_in, range_on}
use Rattle.iterate.proofs.Iteration.{iterates}
use Rattle.well_formed.specs.WellFormed.{GoodPage, GoodLists, WellFormed}
use Rattle.well_formed.proofs.Agree.{is-good}
use Rattle.well_formed.proofs.Checker.{end-inside, end-last}

-- functions from a to b: the first starts at a, each starts where the one before it ends, none is empty, and the last ends at b
abbrev pub Tiles : ℕ → List Function → ℕ → Type 0
Tiles a [] b = a ≡ b
Tiles a (f ∷ fs) b = (f.start_address ≡ a) × (a < f.end_address) × Tiles f.end_address fs b

-- none stands twice
abbrev pub Once : List Function → Type 0
Once [] = Unit {0}
Once (f ∷ fs) = (Memᴰ f fs → ⊥) × Once fs

-- the calls from a cursor on tell these functions, each at the cursor that the call before handed back, and then the end
pub data Calls (next : Cursor → Step) : Cursor → List Function → Type 0 where
  ends : {c d : Cursor} → next c ≡ end d → Calls next c []
  tells : {c d : Cursor} {f : Function} {fs : List Function} → next c ≡ answer (good f) d → Calls next d fs → Calls next c (f ∷ fs)

-- the calls from the first cursor tell functions that tile the range
pub record Tiled (range : Checked Range) (next : Cursor → Step) : Type 0 where
  pub span : Range
  pub ranged : range ≡ good span
  pub functions : List Function
  pub called : Calls next (cursor 0 0) functions
  pub tiles : Tiles span.start functions span.end
  pub once : Once functions

-- in a tiling, what stands later starts later
later : (fs : List Function) (a b : ℕ) (g : Function) → Tiles a fs b → Memᴰ g fs → a ≤ g.start_address
later [] a b g t m = absurd (Memᴰ.not-nil m)
later (f ∷ fs) a b g t m = by (later fs f.end_address b g t.2) (Memᴰ.cases_cons m)
  where
    by : (Memᴰ g fs → f.end_address ≤ g.start_address) → (g ≡ f) ⊎ Memᴰ g fs → a ≤ g.start_address
    by go (inl e) = rw e (omega (arith, t.0))
    by go (inr n) = omega (arith, go n, t.1)

pub each-once : (fs : List Function) (a b : ℕ) → Tiles a fs b → Once fs
each-once [] a b t = tt
each-once (f ∷ fs) a b t = (λ m. omega (arith, later fs f.end_address b f t.2 m, t.0, t.1), each-once fs f.end_address b t.2)

-- answers that are functions, and tile
record Covered (a : ℕ) (answers : List (Checked Function)) (b : ℕ) : Type 0 where
  functions : List Function
  are : answers ≡ map good functions
  tiles : Tiles a functions b

one_more : (f : Function) {r : List (Checked Function)} {b : ℕ} → f.start_address < f.end_address → Covered f.end_address r b
    → Covered f.start_address (good f ∷ r) b
one_more f h c = record { functions = f ∷ c.functions; are = ap (λ r. good f ∷ r) c.are; tiles = (refl, h, c.tiles) }

module _ (s : List ℕ) (bytes : Bytes s) (l : Lists) (w : GoodLists s l) where
  abbrev last : ℕ
  last = first_of s l (l.pages_len - 1)

  -- a page's functions from i on, and what follows the page
  module _ (p : ℕ) (pg : Page) (g : GoodPage s l p pg) (r : List (Checked Function)) (after : Covered (first_of s l (suc p)) r last) where
    abbrev start : ℕ → ℕ
    start = start_of (page_at s l p) pg

    in-page : (k i : ℕ) → i + suc k ≡ pg.functions_len → Covered (start i) (functions_from s l p pg (suc k) i ++ r) last
    unfolding functions_from
    in-page zero i n =
        let t : i < pg.functions_len = omega arith in
        let e = end-last (page_at s l p) pg (first_of s l (suc p)) i (omega arith) in
        rw (is-good s bytes l p pg g i t).1 (one_more _ (rw e (g.below i t)) (rw e after))
    in-page (suc k) i n =
        let t : i < pg.functions_len = omega arith in
        let q : suc i ≡ i + 1 = omega arith in
        let e = end-inside (page_at s l p) pg (first_of s l (suc p)) i (omega arith) in
        rw (is-good s bytes l p pg g i t).1
        (one_more _ (rw e (g.rises i (suc i) (omega arith) (omega arith))) (rw e (rw q (in-page k (i + 1) (omega arith)))))

  page : (p : ℕ) (r : List (Checked Function)) → suc p < l.pages_len → Covered (first_of s l (suc p)) r last
      → Covered (first_of s l p) (in_pages s l p (opened_at s l p) ++ r) last
  unfolding in_pages
  page p r h after =
      let each = w.each p h in
      let g = each.1 in
      let k : suc (each.0.functions_len - 1) ≡ each.0.functions_len = omega (arith, g.some) in
      let t = in-page p each.0 g r after (each.0.functions_len - 1) 0 (omega (arith, g.some)) in
      rw g.opens (rw (← g.begins) (rw k at t))

  pages : (left p : ℕ) → p + left ≡ l.pages_len - 1 → Covered (first_of s l p) (pages_from s l left p) last
  unfolding pages_from
  pages zero p n = record { functions = []; are = refl; tiles = ap (first_of s l) (omega arith) }
  pages (suc left) p n =
      let q : suc p ≡ p + 1 = omega arith in
      page p (pages_from s l left (p + 1)) (omega arith) (rw q (pages left (p + 1) (omega arith)))

  -- from the range's start to its end; with no pages there is no function, and 0..0
  covered : Covered (range_of s l).start (iterated s l) (range_of s l).end
  unfolding range_of iterated pages_from
  covered = by (eqb l.pages_len 0) refl
    where
      range : Bool → Range
      range b = cond b (record { start = 0; end = 0 }) (record { start = first_of s l 0; end = last })

      by : (b : Bool) → eqb l.pages_len 0 ≡ b → Covered (range b).start (pages_from s l (l.pages_len - 1) 0) (range b).end
      by true e =
          let none : l.pages_len - 1 ≡ 0 = omega (arith, eqb-true l.pages_len 0 e) in
          rw none (record { functions = []; are = refl; tiles = refl })
      by false e = pages (l.pages_len - 1) 0 (omega arith)

-- calls that tell what those over the lists tell
module _ (s : List ℕ) (l : Lists) (next : Cursor → Step) (alike : (c : Cursor) → next c ≡ next_of s l c) where
  calls : (fs : List Function) {c : Cursor} → Iterates s l c (map good fs) → Calls next c fs
  calls [] {c} (iterate.ends e) = ends (alike c ∙ e)
  calls (f ∷ fs) {c} (iterate.answers e i) = tells (alike c ∙ e) (calls fs i)

-- the hypothesis `Bytes` costs nothing: every `&[u8]` meets it
module _ (s : List ℕ) (bytes : Bytes s) (w : WellFormed s) where
  tiled : (range : Checked Range) (next : Cursor → Step) → range ≡ good (range_of s w.lists)
      → ((c : Cursor) → next c ≡ next_of s w.lists c) → Tiled range next
  tiled range next e alike =
      let c = covered s bytes w.lists w.sound in
      record {
        span = range_of s w.lists;
        ranged = e;
        functions = c.functions;
        called = calls s w.lists next alike c.functions (rw c.are at (iterates s w.lists));
        tiles = c.tiles;
        once = each-once c.functions _ _ c.tiles;
      }

  -- over the bytes alone, and over the bytes with the lists' places
  pub tiled-on : Tiled (range_on s) (next_on s)
  unfolding range_on next_on
  tiled-on =
      tiled _ _ (ap (either refused (λ m. good (range_of s m))) w.parses)
      (λ c. ap (either (λ k. answer (refused k) c) (λ m. next_of s m c)) w.parses)

  pub tiled-in : Tiled (range_in s w.lists) (next_in s w.lists)
  unfolding range_in next_in
  tiled-in =
      let g = parsed s w.lists w.parses in
      tiled _ _ (ap (either refused (λ m. good (range_of s m))) g) (λ c. ap (either (λ k. answer (refused k) c) (λ m. next_of s m c)) g)
