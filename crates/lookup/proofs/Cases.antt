-- What the lookup's code knows at each return, on plain values.
-- Assumes nothing.
use Prim.Native.Nat.{ℕ, suc, ◌+◌, ◌-◌, ◌*◌, ◌≤◌, ◌<◌}
use mathlib.Core.Path.{◌≡◌, ap, sym, ◌∙◌}
use mathlib.Core.List.{List}
use native.Mathlib.Omega.{arith}
use borrow.Author.Tests.{eq-eqb, ne_eqb}
use lib.ListN.{drop, length-take}
use Rattle.std.specs.Prelude.{Result, Ok, Err}
use Rattle.reader.specs.Reader.{part_of}
use Rattle.search.specs.declared.Spot.{Spot}
use Rattle.search.specs.declared.Layout.{Layout}
use Rattle.search.specs.Search.{size_of, count_of, key_of, search_of}
use Rattle.search.proofs.Laws as search
use Rattle.raw.specs.declared.Lists.{Lists}
use Rattle.raw.specs.declared.Page.{Page}
use Rattle.raw.specs.declared.Error.{Error}
use Rattle.raw.specs.Checked.{Checked, number_of, told}
use Rattle.raw.specs.Raw.{globals_of, pages_of, page_of, layout}
use Rattle.entries.specs.declared.Function.{Function}
use Rattle.entries.specs.declared.Place.{Place}
use Rattle.entries.specs.Placed.{first_at, list_at, read_of}
use Rattle.entries.specs.Section.{first_of, offset_of, page_at, function_at}
use Rattle.entries.proofs.Placed.{same-list, placed}
use Rattle.lookup.specs.Searched.{WasRead, found_in, searched_in}
use Rattle.lookup.specs.Lookup.{Looked, nothing, refusal, telling, from_spot, from_page, at_page, from_pages, lookup_of}
use Rattle.lookup.proofs.Steps.{no-page, last-page, a-page}

-- by the page's kind
pub by_kind : (list : List ℕ) (j k : Layout) (x : ℕ) {r : Spot} → j ≡ k → r ≡ search_of list k x → r ≡ search_of list j x
by_kind list j k x e q = q ∙ ap (λ (m : Layout). search_of list m x) (sym e)

-- a part of so many entries has at most so many
pub counted : (l : Layout) (s : List ℕ) (o n : ℕ) → count_of (part_of s o (size_of l * n)) l ≤ n
unfolding count_of part_of
counted Layout.Pages s o n = omega (arith, length-take (12 * n) (drop o s))
counted Layout.Regular s o n = omega (arith, length-take (8 * n) (drop o s))
counted Layout.Compressed s o n = omega (arith, length-take (4 * n) (drop o s))

-- a search ends within its list, after few probes
module _ (list : List ℕ) (l : Layout) (x n : ℕ) (r : Spot) (e : r ≡ search_of list l x) (h : count_of list l ≤ n) where
  pub within : r.at ≤ n
  unfolding search_of
  within = omega (arith, ap (λ (q : Spot). q.at) e, search.inside (key_of list l) x (count_of list l))

  pub few : n < 4294967296 → r.probes ≤ 32
  unfolding search_of
  few t = omega (arith, ap (λ (q : Spot). q.probes) e, search.bits (key_of list l) x (count_of list l) 32 (omega arith))

module _ (s : List ℕ) (l : Lists) (pages : List ℕ) (ep : pages ≡ pages_of s l) where
  pub few-pages : count_of pages Layout.Pages ≤ l.pages_len
  unfolding pages_of
  few-pages = rw ep (counted Layout.Pages s l.pages_offset l.pages_len)

  -- the search of pages
  module _ (pc : ℕ) (r : Spot) (er : r ≡ search_of pages Layout.Pages pc) where
    looked : from_pages s l pc r ≡ lookup_of s l pc
    unfolding lookup_of
    looked = ap (from_pages s l pc) (er ∙ ap (λ (q : List ℕ). search_of q Layout.Pages pc) ep)

    pub looks-before : r.at ≡ 0 → nothing r.probes ≡ lookup_of s l pc
    looks-before e = sym (no-page s l pc r e) ∙ looked

    pub looks-past : (r.at ≡ 0 → ⊥) → r.at ≡ l.pages_len → nothing r.probes ≡ lookup_of s l pc
    looks-past h e = sym (last-page s l pc r h e) ∙ looked

    pub looks-in : (x : Looked) → (r.at ≡ 0 → ⊥) → (r.at ≡ l.pages_len → ⊥) → x ≡ at_page s l pc (r.at - 1) r.probes → x ≡ lookup_of s l pc
    looks-in x h k e = e ∙ sym (a-page s l pc r h k) ∙ looked

  -- page p, read
  module _ (pc p probes a o : ℕ) (ea : a ≡ first_of s l p) (eo : o ≡ offset_of s l p) (w : Result Page Error) (e : told w ≡ page_of s o a) where
    reads : told w ≡ page_of s (offset_of s l p) (first_of s l p)
    reads = e ∙ ap (page_of s o) ea ∙ ap (λ (k : ℕ). page_of s k (first_of s l p)) eo

    pub page-refused : (k : Error) → w ≡ Err k → refusal (number_of k) probes ≡ at_page s l pc p probes
    unfolding at_page from_page
    page-refused k q = ap (λ (v : Result Page Error). from_page s l pc p probes (told v)) (sym q) ∙ ap (from_page s l pc p probes) reads

    module _ (pg : Page) (q : w ≡ Ok pg) where
      pub page-found : (globals : List ℕ) (next : ℕ) (x : Looked) → globals ≡ globals_of s l → next ≡ first_of s l (suc p)
          → x ≡ searched_in p globals (drop o s) pg next pc probes → x ≡ at_page s l pc p probes
      unfolding at_page from_page searched_in found_in from_spot function_at page_at
      page-found globals next x eg en ex =
          ex ∙ (simp (eg, en, eo)) ∙ ap (λ (v : Result Page Error). from_page s l pc p probes (told v)) (sym q) ∙ ap (from_page s l pc p probes) reads
      -- the page's bytes, as a call on `&section[page_offset..]` has them

-- the search in a page that was read
module _ (s : List ℕ) (q : Place) (list : List ℕ) (el : list ≡ list_at s q) where
  pub few-functions : count_of list (layout q.page.kind) ≤ q.page.functions_len
  unfolding list_at
  few-functions = rw el (counted (layout q.page.kind) s (first_at q) q.page.functions_len)

  module _ (read : WasRead s q) (globals : List ℕ) (pc probes y : ℕ) (ey : y ≡ pc - q.page.base) (r : Spot) (er : r ≡ search_of list (layout q.page.kind) y) where
    abbrev pub Searched : Looked
    Searched = searched_in q.index globals (drop q.offset s) q.page q.next pc probes

    searched : found_in q.index globals (drop q.offset s) q.page q.next probes r ≡ Searched
    unfolding searched_in
    searched = ap (found_in q.index globals (drop q.offset s) q.page q.next probes) (er ∙ simp (el ∙ same-list s q.index q.offset q.next read.0 q.page read.1, ey))

    pub finds-none : r.at ≡ 0 → refusal 12 (probes + r.probes) ≡ Searched
    unfolding found_in
    finds-none e = sym (simp (eq-eqb r.at 0 e)) ∙ searched

    pub finds-one : (x : Looked) (a : Checked Function) → (r.at ≡ 0 → ⊥) → a ≡ read_of s globals q (r.at - 1) → x ≡ telling (probes + r.probes) a → x ≡ Searched
    unfolding found_in
    finds-one x a h ea ex =
        let inside : r.at - 1 < q.page.functions_len = omega (arith, within list (layout q.page.kind) y q.page.functions_len r er few-functions) in
        ex ∙ ap (telling (probes + r.probes)) (ea ∙ placed s q.index q.offset q.next read.0 q.page read.1 globals (r.at - 1) inside)
        ∙ sym (simp (ne_eqb r.at 0 h)) ∙ searched
