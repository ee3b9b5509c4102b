-- On a section with good lists a lookup finds exactly the one iterated function that covers the address.
-- Assumes nothing.
use Prim.Native.Nat.{ℕ, zero, suc, ◌+◌, ◌-◌, ◌≤◌, ◌<◌, zero-le}
use mathlib.Core.Path.{◌≡◌, refl, ap, sym, ◌∙◌}
use mathlib.Core.List.{List, Memᴰ}
use native.Mathlib.Nat.{le_refl}
use native.Mathlib.Decide.{dec_lt}
use native.Mathlib.Omega.{arith}
use Rattle.reader.specs.Reader.{Bytes}
use Rattle.reader.proofs.Laws.{bounded-word, bytes-part}
use Rattle.search.specs.declared.Spot.{Spot}
use Rattle.search.specs.Search.{run, key_of, Rising, Last}
use Rattle.search.proofs.Laws as search
use Rattle.search.proofs.Ends.{order, ends-after}
use Rattle.raw.specs.declared.Lists.{Lists}
use Rattle.raw.specs.declared.Page.{Page}
use Rattle.raw.specs.Checked.{good}
use Rattle.raw.specs.Raw.{grant_of, globals_of, pages_of, first_in, layout}
use Rattle.entries.specs.declared.Function.{Function}
use Rattle.entries.specs.Entries.{functions_of, start_in, origin_in, function_from, start_of, end_of, function_of}
use Rattle.entries.specs.Section.{first_of, page_at, opened_at, function_at}
use Rattle.iterate.specs.Iterate.{iterated}
use Rattle.iterate.proofs.Members.{Place, function, page, place, member}
use Rattle.lookup.specs.Lookup.{Looked, found, nothing, telling, from_spot, from_page, at_page, from_pages, lookup_of, Covers}
use Rattle.lookup.proofs.Steps.{no-page, last-page, a-page, a-function}
use Rattle.well_formed.specs.WellFormed.{GoodPage, GoodLists}
use Rattle.well_formed.proofs.Counts.{search-pages, reads, search-functions}
use Rattle.well_formed.proofs.Functions.{end_low, gives}
use Rattle.well_formed.proofs.Checker.{end-inside, end-last, locals-there, functions-good}

-- the lookup's steps, after each search
module _ (s : List ℕ) (l : Lists) (p : ℕ) where
  from-pages : (pc : ℕ) (spot : Spot) → spot.at ≡ suc p → suc p < l.pages_len → from_pages s l pc spot ≡ at_page s l pc p spot.probes
  from-pages pc spot e h =
      let z : spot.at - 1 ≡ p = omega arith in
      rw z at (a-page s l pc spot (λ q. omega arith) (λ q. omega arith))

  from-spot : (pg : Page) (probes i : ℕ) (spot : Spot) → spot.at ≡ suc i → from_spot s l p pg probes spot ≡ telling (probes + spot.probes) (function_at s l p pg i)
  from-spot pg probes i spot e =
      let z : spot.at - 1 ≡ i = omega arith in
      rw z at (a-function s l p pg probes spot (λ q. omega arith))

-- a page that opens in good lists is good
pub good-page : (s : List ℕ) (l : Lists) → GoodLists s l → (p : ℕ) (pg : Page) → suc p < l.pages_len → opened_at s l p ≡ good pg → GoodPage s l p pg
good-page s l w p pg h e =
    let each = w.each p h in
    let g = each.1 in
    let o = g.opens in
    let same : each.0 ≡ pg = cc in
    rw same at g

module _ (s : List ℕ) (bytes : Bytes s) (l : Lists) where
  first-bound : (p : ℕ) → first_of s l p < 4294967296
  unfolding first_of first_in key_of pages_of
  first-bound p = bounded-word (pages_of s l) (bytes-part s _ _ bytes) 4 _

  module _ (p : ℕ) (pg : Page) where
    abbrev start : ℕ → ℕ
    start = start_of (page_at s l p) pg

    abbrev stop : ℕ → ℕ
    stop = end_of (page_at s l p) pg (first_of s l (suc p))

    abbrev key : ℕ → ℕ
    key = key_of (functions_of (page_at s l p) pg) (layout pg.kind)

    abbrev pub with-opcode : ℕ → ℕ → Function
    with-opcode i opcode = function_from p i (origin_in pg.kind (globals_of s l) (functions_of (page_at s l p) pg) i) (start i) (stop i) opcode

    module _ (g : GoodPage s l p pg) where
      end-bound : (i : ℕ) → i < pg.functions_len → stop i ≤ first_of s l (suc p)
      unfolding end_of
      end-bound = end_low _ _ _ pg (first_of s l (suc p)) (functions-good s l p pg g.opens g)

      -- function i is answered, in iteration as in lookup: 13 and 14 do not arise
      pub is-good : (i : ℕ) → i < pg.functions_len → (opcode : ℕ) × (function_at s l p pg i ≡ good (with-opcode i opcode))
      unfolding function_at function_of start_of end_of
      is-good i h = simp (locals-there s l p pg g.opens) (gives _ _ _ pg (first_of s l (suc p)) (functions-good s l p pg g.opens g) (first-bound (suc p)) p i h)

      keys-rise : Rising key pg.functions_len
      unfolding start_of start_in
      keys-rise i j h t = omega (arith, g.rises i j h t)

  -- what a lookup can tell
  pub data Outcome (pc : ℕ) (r : Looked) : Type 0 where
    covered : (f : Function) (probes : ℕ) → Memᴰ (good f) (iterated s l) → Covers f pc → r ≡ found f probes → Outcome pc r
    none : (probes : ℕ) → r ≡ nothing probes → Outcome pc r

  module _ (grant : grant_of s l ≡ good l) (w : GoodLists s l) (pc : ℕ) where
    -- the search of pages, and the search in a page
    abbrev outer : Spot
    outer = run (first_of s l) pc 0 l.pages_len

    abbrev inner : ℕ → Page → Spot
    inner p pg = run (key p pg) (pc - pg.base) 0 pg.functions_len

    -- page p is found, and in it function i
    module _ (p : ℕ) (pg : Page) (g : GoodPage s l p pg) (low : first_of s l p ≤ pc) where
      base-low : pg.base ≤ pc
      unfolding start_of start_in
      base-low = omega (arith, g.begins)

      in-page : (probes i : ℕ) → (inner p pg).at ≡ suc i → (f : Function) → function_at s l p pg i ≡ good f → at_page s l pc p probes ≡ found f (probes + (inner p pg).probes)
      unfolding at_page from_page
      in-page probes i e f q =
          rw (reads s l p pg g.opens)
          (ap (from_spot s l p pg probes) (search-functions s l p pg g.opens (pc - pg.base)) ∙ from-spot s l p pg probes i (inner p pg) e ∙ ap (telling (probes + (inner p pg).probes)) q)

      finds : (i : ℕ) → i < pg.functions_len → start p pg i ≤ pc → pc < stop p pg i → (inner p pg).at ≡ suc i
      unfolding start_of start_in
      finds i t a b =
          ends-after _ _ _ (keys-rise p pg g) i t (omega (arith, base-low))
          (λ u. omega (arith, base-low, end-inside (page_at s l p) pg (first_of s l (suc p)) i u))

    looks : lookup_of s l pc ≡ from_pages s l pc outer
    unfolding lookup_of
    looks = ap (from_pages s l pc) (search-pages s l grant pc)

    -- page p is the one that the search of pages ends after
    pages : (p : ℕ) → suc p < l.pages_len → first_of s l p ≤ pc → pc < first_of s l (suc p)
        → lookup_of s l pc ≡ at_page s l pc p outer.probes
    pages p h low high = looks ∙ from-pages s l p pc outer (ends-after _ _ _ w.firsts p (omega arith) low (λ u. high)) h

    -- every function that is iterated and covers the address is what the lookup finds
    pub complete : (f : Function) → Memᴰ (good f) (iterated s l) → Covers f pc → (probes : ℕ) × (lookup_of s l pc ≡ found f probes)
    complete f m c = by_place (place s l (good f) m)
      where
        at_place : (p i : ℕ) (pg : Page) → suc p < l.pages_len → GoodPage s l p pg → i < pg.functions_len → function_at s l p pg i ≡ good f → (probes : ℕ) × (lookup_of s l pc ≡ found f probes)
        at_place p i pg h g t q =
            let o = is-good p pg g i t in
            let same : f ≡ with-opcode p pg i o.0 = (cc o.1) in
            let starts : start p pg i ≤ pc = rw same at c.starts in
            let ends : pc < stop p pg i = rw same at c.ends in
            let low : first_of s l p ≤ pc = omega (arith, g.begins, order _ 0 _ g.rises 0 i (omega arith) t) in
            let high : pc < first_of s l (suc p) = omega (arith, end-bound p pg g i t) in
            (_, pages p h low high ∙ in-page p pg g low _ i (finds p pg g low i t starts ends) f q)

        by_place : Place s l (good f) → (probes : ℕ) × (lookup_of s l pc ≡ found f probes)
        by_place (function p i pg h e t q) = at_place p i pg (omega arith) (good-page s l w p pg (omega arith) e) t (sym q)
        by_place (page p k h e q) = absurd (let z : ◌≡◌ {A = ℕ} 0 1 = cc in omega arith)

    -- in a page that is found, a function is found that is iterated and covers the address
    in-found : (p : ℕ) (pg : Page) → suc p < l.pages_len → GoodPage s l p pg → first_of s l p ≤ pc → pc < first_of s l (suc p) → Outcome pc (lookup_of s l pc)
    unfolding start_of start_in
    in-found p pg h g low high = by-spot (inner p pg).at refl (search.found _ _ _ (keys-rise p pg g))
      where
        stops : (i : ℕ) → i < pg.functions_len → Last (key p pg) (pc - pg.base) pg.functions_len (suc i) → Dec (suc i < pg.functions_len) → pc < stop p pg i
        stops i t last (yes u) = rw (end-inside (page_at s l p) pg (first_of s l (suc p)) i u) (omega (arith, base-low p pg g low, last.above (suc i) (le_refl _) u))
        stops i t last (no u) = rw (end-last (page_at s l p) pg (first_of s l (suc p)) i (omega arith)) high

        by-spot : (a : ℕ) → (inner p pg).at ≡ a → Last (key p pg) (pc - pg.base) pg.functions_len (inner p pg).at → Outcome pc (lookup_of s l pc)
        by-spot zero e last = absurd (omega (arith, g.begins, base-low p pg g low, (rw e at last).above 0 zero-le g.some))
        by-spot (suc i) e last =
            let at_i = rw e at last in
            let t : i < pg.functions_len = omega (arith, at_i.within) in
            let o = is-good p pg g i t in
            covered _ _ (member s l _ (function p i pg (omega arith) g.opens t (sym o.1)))
            (record { starts = omega (arith, base-low p pg g low, at_i.below i (omega arith)); ends = stops i t at_i (dec_lt (suc i) pg.functions_len) })
            (pages p h low high ∙ in-page p pg g low _ i e _ o.1)

    -- no page, or the last, is found: nothing
    by_pages : (a : ℕ) → outer.at ≡ a → Dec (a < l.pages_len) → Last (first_of s l) pc l.pages_len a → Outcome pc (lookup_of s l pc)
    by_pages zero e d last = none _ (looks ∙ no-page s l pc _ e)
    by_pages (suc p) e (no d) last = none _ (looks ∙ last-page s l pc _ (λ q. omega arith) (omega (arith, last.within)))
    by_pages (suc p) e (yes h) last =
        let g = w.each p h in
        in-found p g.0 h g.1 (last.below p (omega arith)) (last.above (suc p) (le_refl _) h)

    -- the lookup finds a function that is iterated and covers the address, or nothing
    pub sound : Outcome pc (lookup_of s l pc)
    sound = by_pages _ refl (dec_lt _ _) (search.found _ _ _ w.firsts)
