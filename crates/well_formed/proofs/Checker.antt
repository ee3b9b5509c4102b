-- docs/FORMAT.md, 6: the checker says yes exactly for well-formed sections.
-- Assumes nothing.
use Prim.Native.Nat.{ℕ, zero, suc, ◌-◌, ◌≤◌, ◌<◌}
use mathlib.Core.Path.{◌≡◌, refl}
use mathlib.Core.Bool.{Bool, true, false}
use mathlib.Core.Logic.{◌↔◌, ◌⊎◌, inl, inr}
use mathlib.Core.List.{List}
use native.Mathlib.Nat.{eq-or-lt_of_le}
use native.Mathlib.Decide.{dec_lt}
use native.Mathlib.Omega.{arith}
use borrow.Author.Tests.{ltb-true, lt-ltb, le-ltb, eqb-true, eq-eqb}
use Rattle.search.specs.Search.{Rising}
use Rattle.raw.specs.declared.Lists.{Lists}
use Rattle.raw.specs.declared.Page.{Page}
use Rattle.raw.specs.Checked.{Checked, good, refused, either}
use Rattle.raw.specs.Raw.{version_of, parse_of, globals_of, locals_granted}
use Rattle.raw.proofs.Grants.{version-1}
use Rattle.raw.proofs.Opens.{opened-reads}
use Rattle.entries.specs.Entries.{functions_of, locals_of, end_in, start_of, end_of, opcode_of}
use Rattle.entries.specs.Section.{first_of, offset_of, page_at, opened_at}
use Rattle.well_formed.specs.WellFormed.{GoodPage, GoodLists, WellFormed, good_function, good_functions, good_opened, good_page, good_pages, well_formed}
use Rattle.well_formed.proofs.Functions.{both, all-each, each_all, each-good, end_low}

-- keys rise if each is below the next
steps : (key : ℕ → ℕ) (n : ℕ) → ((i : ℕ) → suc i < n → key i < key (suc i)) → Rising key n
steps key n step i zero h l = absurd (omega arith)
steps key n step i (suc j) h l = last (λ t. steps key n step i j t (omega arith)) (eq-or-lt_of_le {n = i} {m = j} (omega arith))
  where
    last : (i < j → key i < key j) → (i ≡ j) ⊎ (i < j) → key i < key (suc j)
    last before (inl q) = rw q (step j l)
    last before (inr t) = omega (arith, before t, step j l)

-- what is there and passes a test
passes : {A : Type 0} (test : A → Bool) (x : Checked A) → either (λ k. false) test x ≡ true → (y : A) × (x ≡ good y) × (test y ≡ true)
passes test (good y) e = (y, refl, e)
passes test (refused k) e = absurd (let z : ◌≡◌ {A = ℕ} 0 1 = cc in omega arith)

-- the end of a function: the next one's start, or the next page's first address
module _ (page : List ℕ) (pg : Page) (next : ℕ) where
  pub end-inside : (i : ℕ) → suc i < pg.functions_len → end_of page pg next i ≡ start_of page pg (suc i)
  unfolding end_of end_in start_of
  end-inside i h = simp (lt-ltb _ _ h)

  pub end-last : (i : ℕ) → pg.functions_len ≤ suc i → end_of page pg next i ≡ next
  unfolding end_of end_in
  end-last i h = simp (le-ltb _ _ h)

module _ (s : List ℕ) (l : Lists) where
  module _ (p : ℕ) (pg : Page) (o : opened_at s l p ≡ good pg) where
    abbrev page : List ℕ
    page = page_at s l p

    abbrev next : ℕ
    next = first_of s l (suc p)

    abbrev start : ℕ → ℕ
    start = start_of page pg

    -- the checker need not ask whether the local opcodes are there
    pub locals-there : locals_granted page pg ≡ true
    unfolding opened_at page_at
    locals-there = (opened-reads s (offset_of s l p) (first_of s l p) pg o).1

    page-good : good_opened (globals_of s l) page pg (first_of s l p) next ≡ true → GoodPage s l p pg
    unfolding good_opened start_of end_of opcode_of
    page-good e =
        let t = both _ _ e in
        let u = both _ _ t.1 in
        let f = each-good _ _ _ pg next u.1 in
        record {
          opens = o;
          some = ltb-true _ _ t.0;
          begins = eqb-true _ _ u.0;
          rises = steps start pg.functions_len (λ i h. rw (end-inside page pg next i h) at (f i (omega arith)).0);
          below = λ i h. omega (arith, (f i h).0, end_low _ _ _ pg next u.1 i h);
          resolves = λ i h. simp locals-there (f i h).1;
        }

    -- and the other way
    pub functions-good : GoodPage s l p pg → good_functions (globals_of s l) (locals_of page pg) (functions_of page pg) pg next ≡ true
    unfolding good_functions good_function start_of end_of opcode_of
    functions-good g = each_all _ _ (λ i h. simp (lt-ltb _ _ (ordered i h (dec_lt (suc i) pg.functions_len)), simp locals-there at (g.resolves i h).1))
      where
        ordered : (i : ℕ) → i < pg.functions_len → Dec (suc i < pg.functions_len) → start i < end_of page pg next i
        ordered i h (yes t) = rw (end-inside page pg next i t) (g.rises i (suc i) (omega arith) t)
        ordered i h (no t) = rw (end-last page pg next i (omega arith)) (omega (arith, g.below i h))

  good-page : (p : ℕ) (pg : Page) → GoodPage s l p pg → good_page s l p ≡ true
  unfolding good_page good_opened
  good-page p pg g = simp (g.opens, lt-ltb _ _ g.some, eq-eqb _ _ g.begins, functions-good p pg g.opens g)

  page-of : (p : ℕ) → good_page s l p ≡ true → (pg : Page) × GoodPage s l p pg
  unfolding good_page
  page-of p e =
      let t = passes _ (opened_at s l p) e in
      (t.0, page-good p t.0 t.1 t.2)

  lists-good : good_pages s l ≡ true → GoodLists s l
  unfolding good_pages
  lists-good e =
      let each : (p : ℕ) → suc p < l.pages_len → (pg : Page) × GoodPage s l p pg = λ p h. page-of p (all-each (l.pages_len - 1) (good_page s l) e p (omega arith)) in
      record { firsts = steps (first_of s l) l.pages_len (λ p h. let g = (each p h).1 in omega (arith, g.begins, g.below 0 g.some)); each = each }

  good-lists : GoodLists s l → good_pages s l ≡ true
  unfolding good_pages
  good-lists w = each_all _ _ (λ p h. good-page p _ (w.each p (omega arith)).1)

pub says-yes : (s : List ℕ) → WellFormed s → well_formed s ≡ true
unfolding well_formed
says-yes s w = simp w.parses (good-lists s w.lists w.sound)

pub said-yes : (s : List ℕ) → well_formed s ≡ true → WellFormed s
unfolding well_formed
said-yes s e =
    let t = passes (good_pages s) (parse_of s) e in
    record { lists = t.0; parses = t.1; sound = lists-good s t.0 t.2 }

-- and those have version 1
pub has-version-1 : (s : List ℕ) → WellFormed s → version_of s ≡ 1
has-version-1 s w = version-1 s w.lists w.parses

pub exactly : (s : List ℕ) → (well_formed s ≡ true) ↔ WellFormed s
exactly s = (said-yes s, says-yes s)
