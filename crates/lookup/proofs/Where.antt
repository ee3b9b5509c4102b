-- Where a lookup's function stands: the search of pages ended after its page, and the search in that page after it. Its index has 16 bits.
-- Assumes nothing.
use Prim.Native.Nat.{ℕ, suc, ◌+◌, ◌-◌, ◌≤◌, ◌<◌}
use mathlib.Core.Path.{◌≡◌, refl, ap, sym, subst, ◌∙◌}
use mathlib.Core.Bool.{true}
use mathlib.Core.List.{List}
use native.Mathlib.Omega.{arith}
use native.Mathlib.Decide.{dec_lt}
use Rattle.reader.specs.Reader.{Bytes, granted_of, word_at}
use Rattle.search.specs.declared.Layout.{Layout}
use Rattle.search.specs.declared.Spot.{Spot}
use Rattle.search.specs.Search.{search_of}
use Rattle.raw.specs.declared.Lists.{Lists}
use Rattle.raw.specs.declared.Page.{Page}
use Rattle.raw.specs.Checked.{Checked, good, refused, either}
use Rattle.raw.specs.Raw.{parse_of, grant_of, pages_of, page_of, layout}
use Rattle.raw.proofs.Opens.{few-functions}
use Rattle.entries.specs.declared.Function.{Function}
use Rattle.entries.specs.Entries.{functions_of}
use Rattle.entries.specs.Section.{first_of, offset_of, page_at, function_at, opcode_at}
use Rattle.entries.proofs.Origins.{says-where, stands}
use Rattle.lookup.specs.Lookup.{Looked, found, nothing, refusal, telling, from_page, at_page, from_pages, lookup_of, lookup_in, lookup_on}
use Rattle.lookup.proofs.Cases.{counted, within, few-pages}
use Rattle.lookup.proofs.Steps.{no-page, last-page, a-page, a-function, no-function}

module _ (s : List ℕ) (l : Lists) (pc : ℕ) where
  abbrev pub spot_of : Spot
  spot_of = search_of (pages_of s l) Layout.Pages pc

  abbrev pub spot_in : ℕ → Page → Spot
  spot_in p pg = search_of (functions_of (page_at s l p) pg) (layout pg.kind) (pc - pg.base)

  -- the function is function i of page p
  pub record FoundAt (p i : ℕ) (f : Function) : Type 0 where
    pub pages-ended : spot_of.at ≡ suc p
    pub before_last : suc p < l.pages_len
    pub page : Page
    pub reads : page_of s (offset_of s l p) (first_of s l p) ≡ good page
    pub functions-ended : (spot_in p page).at ≡ suc i
    pub inside : i < page.functions_len
    pub is : function_at s l p page i ≡ good f

  never : {x : Looked} {f : Function} {n k m : ℕ} → x ≡ found f n → x ≡ refusal k m → ⊥
  never p q = let z : ◌≡◌ {A = ℕ} 0 1 = cc in omega arith

  never-none : {x : Looked} {f : Function} {n m : ℕ} → x ≡ found f n → x ≡ nothing m → ⊥
  never-none p q = let z : ◌≡◌ {A = ℕ} 0 1 = cc in omega arith

  opens : (p probes : ℕ) → at_page s l pc p probes ≡ from_page s l pc p probes (page_of s (offset_of s l p) (first_of s l p))
  unfolding at_page
  opens p probes = refl

  -- a page's functions are as many as its list has
  in_list : (p : ℕ) (pg : Page) → (spot_in p pg).at ≤ pg.functions_len
  unfolding functions_of
  in_list p pg = within _ (layout pg.kind) _ pg.functions_len (spot_in p pg) refl (counted (layout pg.kind) (page_at s l p) pg.functions_offset pg.functions_len)

  -- in page p
  module _ (p : ℕ) (ended : spot_of.at ≡ suc p) (last : suc p < l.pages_len) (f : Function) (n : ℕ) where
    by-function : (pg : Page) → page_of s (offset_of s l p) (first_of s l p) ≡ good pg → (probes i : ℕ) → (spot_in p pg).at ≡ suc i
        → (w : Checked Function) → function_at s l p pg i ≡ w → telling probes w ≡ found f n → FoundAt p i f
    by-function pg r probes i h (refused k) e q = absurd (never q refl)
    by-function pg r probes i h (good g) e q =
        let same : g ≡ f = cc in
        record { pages-ended = ended; before_last = last; page = pg; reads = r; functions-ended = h; inside = omega (arith, in_list p pg); is = e ∙ ap good same }

    by-page : (probes : ℕ) (o : Checked Page) → page_of s (offset_of s l p) (first_of s l p) ≡ o → from_page s l pc p probes o ≡ found f n → (i : ℕ) × FoundAt p i f
    unfolding from_page
    by-page probes (refused k) r q = absurd (never q refl)
    by-page probes (good pg) r q = by-spot (dec_lt 0 (spot_in p pg).at)
      where
        by-spot : Dec (0 < (spot_in p pg).at) → (i : ℕ) × FoundAt p i f
        by-spot (yes h) =
            let told = a-function s l p pg probes (spot_in p pg) (λ z. omega arith) in
            ((spot_in p pg).at - 1, by-function pg r (probes + (spot_in p pg).probes) ((spot_in p pg).at - 1) (omega arith) _ refl (sym told ∙ q))
        by-spot (no h) = absurd (never q (no-function s l p pg probes (spot_in p pg) (omega arith)))

  by_pages : (f : Function) (n : ℕ) → from_pages s l pc spot_of ≡ found f n → (p i : ℕ) × FoundAt p i f
  by_pages f n e = by_first (dec_lt 0 spot_of.at) (dec_lt spot_of.at l.pages_len)
    where
      told : from_pages s l pc spot_of ≡ at_page s l pc (spot_of.at - 1) spot_of.probes
          → from_page s l pc (spot_of.at - 1) spot_of.probes (page_of s (offset_of s l (spot_of.at - 1)) (first_of s l (spot_of.at - 1))) ≡ found f n
      told q = sym (opens (spot_of.at - 1) spot_of.probes) ∙ sym q ∙ e

      by_first : Dec (0 < spot_of.at) → Dec (spot_of.at < l.pages_len) → (p i : ℕ) × FoundAt p i f
      by_first (no h) d = absurd (never-none e (no-page s l pc spot_of (omega arith)))
      by_first (yes h) (no t) =
          let ends : spot_of.at ≤ l.pages_len = within _ Layout.Pages pc l.pages_len spot_of refl (few-pages s l (pages_of s l) refl) in
          absurd (never-none e (last-page s l pc spot_of (λ z. omega arith) (omega arith)))
      by_first (yes h) (yes t) =
          let there = a-page s l pc spot_of (λ z. omega arith) (λ z. omega arith) in
          let found_in_lem = by-page (spot_of.at - 1) (omega arith) (omega arith) f n spot_of.probes _ refl (told there) in
          (spot_of.at - 1, found_in_lem.0, found_in_lem.1)

  -- what a lookup finds, is found where its record says
  pub found_at : (f : Function) (n : ℕ) → lookup_of s l pc ≡ found f n → FoundAt f.page f.index f
  unfolding lookup_of
  found_at f n e =
      let r = by_pages f n e in
      let at = r.2 in
      let says = says-where s l r.0 at.page r.1 f at.is in
      subst (λ (p : ℕ). FoundAt p f.index f) (sym says.0) (subst (λ (i : ℕ). FoundAt r.0 i f) (sym says.1) at)

  -- and its opcode is the word at the place that its origin and its index name
  pub opcode-stands : grant_of s l ≡ good l → (f : Function) → (at : FoundAt f.page f.index f)
      → let place = opcode_at s l at.page f.page f.index f.origin in (granted_of 4 s place ≡ true) × (f.opcode ≡ word_at 4 s place)
  opcode-stands grant f at = stands s l grant f.page at.page at.reads f.index at.inside f at.is

-- over the bytes with the lists' places, and over the bytes alone
module _ (s : List ℕ) (pc : ℕ) (f : Function) (n : ℕ) where
  on-lists : (t : Checked Lists) → either (λ k. refusal k 0) (λ m. lookup_of s m pc) t ≡ found f n → (l : Lists) × (t ≡ good l) × FoundAt s l pc f.page f.index f
  on-lists (good l) e = (l, refl, found_at s l pc f n e)
  on-lists (refused k) e = absurd (let z : ◌≡◌ {A = ℕ} 0 1 = cc in omega arith)

  pub found_in_lem : (l : Lists) → lookup_in s l pc ≡ found f n → (m : Lists) × (grant_of s l ≡ good m) × FoundAt s m pc f.page f.index f
  unfolding lookup_in
  found_in_lem l e = on-lists (grant_of s l) e

  pub found-on : lookup_on s pc ≡ found f n → (l : Lists) × (parse_of s ≡ good l) × FoundAt s l pc f.page f.index f
  unfolding lookup_on
  found-on e = on-lists (parse_of s) e

-- a page has less than 65,536 functions, so the index has 16 bits
module _ (s : List ℕ) (bytes : Bytes s) (pc : ℕ) (f : Function) (n : ℕ) where
  small : (l : Lists) → FoundAt s l pc f.page f.index f → f.index < 65536
  small l at = omega (arith, at.inside, few-functions s bytes _ _ at.page at.reads)

  pub small-in : (l : Lists) → lookup_in s l pc ≡ found f n → f.index < 65536
  small-in l e = let r = found_in_lem s pc f n l e in small r.0 r.2

  pub small-on : lookup_on s pc ≡ found f n → f.index < 65536
  small-on e = let r = found-on s pc f n e in small r.0 r.2
