-- Lookups of a batch: the page that was read for an address, and what the search in it tells.
-- Assumes nothing.
use Prim.Native.Nat.{ℕ, suc, ◌+◌, ◌-◌, ◌≤◌, ◌<◌}
use mathlib.Core.Path.{◌≡◌, refl, ap, sym, ◌∙◌}
use mathlib.Core.List.{List}
use mathlib.Core.Bool.{true}
use native.Mathlib.Omega.{arith}
use native.Mathlib.Decide.{dec_lt}
use borrow.Author.Tests.{eq-eqb, ne_eqb}
use Rattle.reader.specs.Reader.{Slice}
use Rattle.search.specs.declared.four.Four.{Four}
use Rattle.search.specs.declared.Layout.{Layout}
use Rattle.search.specs.declared.Spot.{Spot}
use Rattle.search.specs.Search.{count_of, search_of, spots_in}
use Rattle.raw.specs.declared.Kind.{Kind}
use Rattle.raw.specs.declared.Lists.{Lists}
use Rattle.raw.specs.declared.Page.{Page}
use Rattle.raw.specs.declared.PageEntry.{PageEntry}
use Rattle.raw.specs.Checked.{Checked, good}
use Rattle.raw.specs.Raw.{layout, globals_of, grant_of, pages_of, page_of, entry_of}
use Rattle.entries.specs.declared.Function.{Function}
use Rattle.entries.specs.declared.Place.{Place}
use Rattle.entries.specs.Entries.{functions_of}
use Rattle.entries.specs.Section.{first_of, offset_of, page_at, function_at, place_at}
use Rattle.entries.specs.Placed.{list_at, list_in, read_of}
use Rattle.entries.proofs.Places.{first-is, next-is, offset-is}
use Rattle.entries.proofs.Placed.{list-there, list-is, same-list, at_place}
use Rattle.lookup.specs.Lookup.{Looked, refusal, telling, from_spot, from_page, from_pages, at_page, lookup_of, lookup_in}
use Rattle.lookup.proofs.Steps.{a-page}
use Rattle.lookup.proofs.Cases as cases
use Rattle.batch.specs.declared.Numbers.{Numbers}
use Rattle.batch.specs.declared.pages.PageFound.{PageFound}
use Rattle.batch.specs.Batch.{numbers_of, put_of, four_found}
use Rattle.batch.specs.Pages.{PageOf, PageFor, PagesFor, lists_in, keys_in, tell_of}

-- four answers, each written by itself
pub four-puts : (look : ℕ → Looked) (x : Four ℕ) (k : ℕ) (o p q r t : List ℕ) (a b c d : Numbers)
    → a ≡ numbers_of (look x.a) → b ≡ numbers_of (look x.b) → c ≡ numbers_of (look x.c) → d ≡ numbers_of (look x.d)
    → p ≡ put_of o k a → q ≡ put_of p (k + 1) b → r ≡ put_of q (k + 2) c → t ≡ put_of r (k + 3) d → t ≡ four_found look o k x
four-puts look x k o p q r t a b c d ea eb ec ed ep eq er et =
    et ∙ ap (λ (l : List ℕ). put_of l (k + 3) d) (er ∙ ap (λ (l : List ℕ). put_of l (k + 2) c) (eq ∙ ap (λ (l : List ℕ). put_of l (k + 1) b) ep)) ∙ simp (ea, eb, ec, ed)

-- what the search in a page tells
module _ (probes : ℕ) (spot : Spot) (f : Checked Function) where
  pub tells_none : spot.at ≡ 0 → refusal 12 (probes + spot.probes) ≡ tell_of probes spot f
  unfolding tell_of
  tells_none e = simp (eq-eqb spot.at 0 e)

  pub tells-one : (spot.at ≡ 0 → ⊥) → telling (probes + spot.probes) f ≡ tell_of probes spot f
  unfolding tell_of
  tells-one h = simp (ne_eqb spot.at 0 h)

-- four searches, each by itself
pub apart : (l : Layout) (la lb lc ld : List ℕ) (x : Four ℕ) (q : Four Spot) → q ≡ spots_in l la lb lc ld x
    → (q.a ≡ search_of la l x.a) × (q.b ≡ search_of lb l x.b) × (q.c ≡ search_of lc l x.c) × (q.d ≡ search_of ld l x.d)
apart l la lb lc ld x q e = (ap (λ (z : Four Spot). z.a) e, ap (λ (z : Four Spot). z.b) e, ap (λ (z : Four Spot). z.c) e, ap (λ (z : Four Spot). z.d) e)

-- the page before the place where the search of pages ended
pub page-there : (s : List ℕ) (l : Lists) (pages : List ℕ) → pages ≡ pages_of s l → (spot : Spot) → (spot.at ≡ 0 → ⊥) → (spot.at ≡ l.pages_len → ⊥) → spot.at ≤ l.pages_len
    → (e : PageEntry) → e ≡ entry_of pages (spot.at - 1) → (kind : Kind) (pg : Page) → page_of s e.offset e.first ≡ good pg → pg.kind ≡ kind → pg.functions_len < 4294967296
    → PageOf s l spot kind (record { place = record { index = spot.at - 1; offset = e.offset; next = e.next; page = pg }; probes = spot.probes })
page-there s l pages ep spot h t in_List e ee kind pg read k small =
    let p = spot.at - 1 in
    let offset = offset-is s l p pages ep e ee in
    let first = first-is s l p pages ep e ee in
    let next = next-is s l p pages ep e ee in
    record {
      p = spot.at - 1;
      ends = omega arith;
      before_last = omega arith;
      page =
          record {
            reads = ap (λ (o : ℕ). page_of s o (first_of s l p)) (sym offset) ∙ ap (page_of s e.offset) (sym first) ∙ read;
            place = simp (offset, next);
            kind-is = k;
            probed = refl;
            small = small;
          };
    }

by_layout : (list : List ℕ) (n : ℕ) (j k : Kind) → j ≡ k → count_of list (layout j) ≤ n → count_of list (layout k) ≤ n
by_layout list n j k e h = rw e at h

-- an address with its page
module _ (s : List ℕ) (l : Lists) (kind : Kind) (m : PageFound) (pc : ℕ) (t : PageFor s l kind m pc) where
  abbrev pg : Page
  pg = m.place.page

  abbrev p : ℕ
  p = t.p

  abbrev pages : Spot
  pages = search_of (pages_of s l) Layout.Pages pc

  few-before : l.pages_len < 4294967296 → m.probes ≤ 32
  few-before n = omega (arith, t.page.probed, cases.few (pages_of s l) Layout.Pages pc l.pages_len pages refl (cases.few-pages s l (pages_of s l) refl) n)

  -- its functions
  list-are : (x r : Slice) → x.bytes ≡ s → r ≡ list_in x m.place → r.bytes ≡ functions_of (page_at s l p) pg
  unfolding page_at
  list-are x r ex e =
      let here : r ≡ list_in x (place_at s l p pg) = e ∙ ap (list_in x) t.page.place in
      let there = list-there s p (offset_of s l p) (first_of s l (suc p)) (first_of s l p) pg t.page.reads in
      let inside : Rattle.entries.specs.Placed.list_there x.bytes (place_at s l p pg) ≡ true = rw ex there in
      list-is s (place_at s l p pg) x r ex (here ∙ simp inside)
      ∙ same-list s p (offset_of s l p) (first_of s l (suc p)) (first_of s l p) pg t.page.reads

  module _ (functions : List ℕ) (ef : functions ≡ functions_of (page_at s l p) pg) (y : ℕ) (ey : y ≡ pc - pg.base) (spot : Spot) (es : spot ≡ search_of functions (layout kind) y) where
    count : count_of functions (layout kind) ≤ pg.functions_len
    unfolding functions_of
    count = by_layout functions pg.functions_len pg.kind kind t.page.kind-is (rw ef (cases.counted (layout pg.kind) (page_at s l p) pg.functions_offset pg.functions_len))

    within-page : spot.at ≤ pg.functions_len
    within-page = cases.within functions (layout kind) y pg.functions_len spot es count

    few-in-page : pg.functions_len < 4294967296 → spot.probes ≤ 32
    few-in-page n = cases.few functions (layout kind) y pg.functions_len spot es count n

    same-search : search_of (functions_of (page_at s l p) pg) (layout pg.kind) (pc - pg.base) ≡ spot
    same-search = sym (es ∙ simp (ef, ey, sym t.page.kind-is))

    in-page : grant_of s l ≡ good l → lookup_in s l pc ≡ from_spot s l p pg m.probes spot
    unfolding lookup_in lookup_of at_page from_page
    in-page g =
        let at_p : pages.at - 1 ≡ p = omega (arith, t.ends) in
        let page = a-page s l pc pages (λ z. absurd (omega (arith, t.ends))) (λ z. absurd (omega (arith, t.ends, t.before_last))) in
        let looked : lookup_in s l pc ≡ from_pages s l pc pages = simp g in
        looked ∙ page ∙ simp (at_p, t.page.reads, same-search, sym t.page.probed)

    answers : grant_of s l ≡ good l → tell_of m.probes spot (read_of s (globals_of s l) m.place (spot.at - 1)) ≡ lookup_in s l pc
    unfolding tell_of from_spot
    answers g = by_place (dec_lt 0 spot.at) ∙ sym (in-page g)
      where
        by_place : Dec (0 < spot.at) → tell_of m.probes spot (read_of s (globals_of s l) m.place (spot.at - 1)) ≡ from_spot s l p pg m.probes spot
        by_place (yes h) =
            let same : read_of s (globals_of s l) m.place (spot.at - 1) ≡ function_at s l p pg (spot.at - 1) =
            ap (λ (q : Place). read_of s (globals_of s l) q (spot.at - 1)) t.page.place ∙ at_place s l p pg t.page.reads (spot.at - 1) (omega (arith, within-page)) in
            simp same
        by_place (no h) =
            let z : spot.at ≡ 0 = omega arith in
            simp (eq-eqb spot.at 0 z)

-- what the code has to know of an address, its page, and the search in it
abbrev pub Fine : List ℕ → Lists → List ℕ → PageFound → ℕ → Spot → Type 0
Fine s l globals m pc spot =
    ((spot.at < 4294967296) × (m.probes ≤ 32) × (spot.probes ≤ 32))
    × (numbers_of (tell_of m.probes spot (read_of s globals m.place (spot.at - 1))) ≡ numbers_of (lookup_in s l pc))

abbrev pub Fines : List ℕ → Lists → List ℕ → Four PageFound → Four ℕ → Four Spot → Type 0
Fines s l globals m x q = Fine s l globals m.a x.a q.a × Fine s l globals m.b x.b q.b × Fine s l globals m.c x.c q.c × Fine s l globals m.d x.d q.d

module _ (s : List ℕ) (l : Lists) (kind : Kind) (globals : List ℕ) (eg : globals ≡ globals_of s l) (granted : grant_of s l ≡ good l) (few : l.pages_len < 4294967296)
    (z : Slice) (ez : z.bytes ≡ s) where
  fine : (m : PageFound) (pc : ℕ) → PageFor s l kind m pc → (list : List ℕ) → list ≡ (list_in z m.place).bytes → (y : ℕ) → y ≡ pc - m.place.page.base
      → (spot : Spot) → spot ≡ search_of list (layout kind) y → Fine s l globals m pc spot
  fine m pc t list el y ey spot es =
      let are = el ∙ list-are s l kind m pc t z (list_in z m.place) ez refl in (
        (
          omega (arith, within-page s l kind m pc t list are y ey spot es),
          few-before s l kind m pc t few,
          few-in-page s l kind m pc t list are y ey spot es t.page.small,
        ),
        ap numbers_of (ap (λ (g : List ℕ). tell_of m.probes spot (read_of s g m.place (spot.at - 1))) eg ∙ answers s l kind m pc t list are y ey spot es granted),
      )

  pub fines : (m : Four PageFound) (x : Four ℕ) → PagesFor s l kind m x → (lists : Four (List ℕ)) → lists ≡ lists_in z m → (y : Four ℕ) → y ≡ keys_in m x
      → (by : Layout) → layout kind ≡ by → (q : Four Spot) → q ≡ spots_in by lists.a lists.b lists.c lists.d y → Fines s l globals m x q
  fines m x t lists el y ey by eb q eq =
      let at = apart (layout kind) lists.a lists.b lists.c lists.d y q (eq ∙ ap (λ (b : Layout). spots_in b lists.a lists.b lists.c lists.d y) (sym eb)) in (
        fine m.a x.a t.a lists.a (ap (λ (w : Four (List ℕ)). w.a) el) y.a (ap (λ (k : Four ℕ). k.a) ey) q.a at.0,
        fine m.b x.b t.b lists.b (ap (λ (w : Four (List ℕ)). w.b) el) y.b (ap (λ (k : Four ℕ). k.b) ey) q.b at.1,
        fine m.c x.c t.c lists.c (ap (λ (w : Four (List ℕ)). w.c) el) y.c (ap (λ (k : Four ℕ). k.c) ey) q.c at.2,
        fine m.d x.d t.d lists.d (ap (λ (w : Four (List ℕ)). w.d) el) y.d (ap (λ (k : Four ℕ). k.d) ey) q.d at.3,
      )

-- four searches of the pages
module _ (s : List ℕ) (l : Lists) (pages : List ℕ) (ep : pages ≡ pages_of s l) (x : Four ℕ) (p : Four Spot) (e : p ≡ spots_in Layout.Pages pages pages pages pages x) where
  ends_by : (spot : Spot) (pc : ℕ) → spot ≡ search_of pages Layout.Pages pc → spot.at ≤ l.pages_len
  ends_by spot pc q = cases.within pages Layout.Pages pc l.pages_len spot q (cases.few-pages s l pages ep)

  -- they end in the list
  pub ends-in : (p.a.at ≤ l.pages_len) × (p.b.at ≤ l.pages_len) × (p.c.at ≤ l.pages_len) × (p.d.at ≤ l.pages_len)
  ends-in =
      let spots = apart Layout.Pages pages pages pages pages x p e in
      (ends_by p.a x.a spots.0, ends_by p.b x.b spots.1, ends_by p.c x.c spots.2, ends_by p.d x.d spots.3)
