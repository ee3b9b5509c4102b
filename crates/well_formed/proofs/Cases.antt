-- What the checker's code knows at each return, on plain values.
-- Assumes nothing.
use Prim.Native.Nat.{ℕ, suc, ◌<◌, zero-le}
use mathlib.Core.Path.{◌≡◌, refl, ap, sym, ◌∙◌}
use mathlib.Core.Bool.{Bool, true, false, ◌&&◌}
use mathlib.Core.List.{List}
use native.Mathlib.Nat.{zero-add}
use native.Mathlib.Omega.{arith}
use lib.Dec.{eqb}
use lib.ListN.{length, get_or}
use Rattle.std.specs.Prelude.{Result, Ok, Err, MatchBool, MatchResult}
use Rattle.std.specs.List.{range_with_len, AllWithin, HoldsAt}
use Rattle.std.proofs.lemmas.List.FromFn.{length-range_with_len, get_or-range_with_len}
use Rattle.raw.specs.declared.Lists.{Lists}
use Rattle.raw.specs.declared.Page.{Page}
use Rattle.raw.specs.declared.Error.{Error}
use Rattle.raw.specs.Checked.{Checked, good, refused, either, number_of}
use Rattle.raw.specs.declared.section.Section.{Section}
use Rattle.raw.specs.Section.{Standing, standing, section_told}
use Rattle.reader.specs.Reader.{Slice, slice_told}
use Rattle.raw.specs.Raw.{globals_of, pages_of, first_in}
use Rattle.entries.specs.declared.PageAt.{PageAt}
use Rattle.entries.specs.Section.{first_of, page_at, opened_at, place_at}
use Rattle.entries.specs.Placed.{read_of}
use Rattle.iterate.specs.Opened.{Opened, opens, opened_told}
use Rattle.iterate.proofs.Opened.{is-refused, is-opened, its-page}
use Rattle.well_formed.specs.WellFormed.{all, good_page, good_pages, given, good_read}
use Rattle.well_formed.proofs.Functions.{all-each, each_all, opened}

-- a test of each number below n is the test of all
abbrev numbers : ℕ → List ℕ
numbers n = range_with_len 0 n

number-is : (n i : ℕ) → i < n → get_or (numbers n) i 0 ≡ i
number-is n i h = get_or-range_with_len 0 n i 0 h ∙ zero-add i

pub every : (n : ℕ) (f : ℕ → Bool) (b : Bool)
    → MatchBool b (AllWithin (λ x. f x ≡ true) (numbers n) 0 (length (numbers n))) ((k : ℕ) × (k < length (numbers n)) × HoldsAt (λ x. f x ≡ false) (numbers n) k) → b ≡ all n f
every n f true h = sym (each_all n f (λ i k. rw (number-is n i k) at (h i 0 zero-le (omega (arith, length-range_with_len 0 n)))))
every n f false h = by (all n f) refl
  where
    below : h.0 < n
    below = omega (arith, length-range_with_len 0 n, h.1)

    by : (b : Bool) → all n f ≡ b → false ≡ b
    by false e = refl
    by true e = sym (rw (number-is n h.0 below) at (h.2 0)) ∙ all-each n f e h.0 below

-- a page's first function starts at the address
abbrev begins : Opened → ℕ → Bool
begins o first = given (λ x y. eqb x first) (read_of o.section.bytes o.globals.bytes o.place 0)

abbrev all_good : Opened → Bool
all_good o = all o.place.page.functions_len (good_read o.section.bytes o.globals.bytes o.place)

-- page p
module _ (z : Slice) (l : Lists) (p : ℕ) (w : Result PageAt Error) (e : opened_told w ≡ opens z l p) where
  abbrev s : List ℕ
  s = z.bytes

  pub page-refused : (k : Error) → w ≡ Err k → false ≡ good_page s l p
  unfolding good_page
  page-refused k q =
      let r : opened_at s l p ≡ refused (number_of k) = is-refused z l p (number_of k) (ap opened_told (sym q) ∙ e) in
      simp r

  module _ (x : PageAt) (q : w ≡ Ok x) where
    abbrev page : Opened
    page = record { section = slice_told x.section; globals = slice_told x.globals; place = x.place }

    is : good page ≡ opens z l p
    is = ap opened_told (sym q) ∙ e

    pub page-opens : x.place.next < 4294967296 → (pages : List ℕ) (first : ℕ) → pages ≡ pages_of s l → first ≡ first_in pages p
        → (a b : Bool) → a ≡ begins page first → b ≡ all_good page → (a && b) ≡ good_page s l p
    unfolding good_page page_at opened_at first_of
    page-opens small pages first ep ef a b ea eb =
        let pg : Page = x.place.page in
        let there : opened_at s l p ≡ good pg = is-opened z l p page is in
        let n : x.place.next ≡ first_of s l (suc p) = ap (λ (o : Opened). o.place.next) (its-page z l p page is) in
        ap (λ (z : Bool). z && b) (ea ∙ ap (begins page) (ef ∙ ap (λ (z : List ℕ). first_in z p) ep)) ∙ ap (λ (z : Bool). begins page (first_of s l p) && z) eb
        ∙ ap (λ (o : Opened). begins o (first_of s l p) && all_good o) (its-page z l p page is)
        ∙ opened s (globals_of s l) (place_at s l p pg) (first_of s l p) there (rw n at small)
        ∙ simp there

-- the section, or what refused it
pub section : (w : Result Section Error) (x : Slice) (g : Checked Lists) → section_told w ≡ standing x g → (b : Bool)
    → MatchResult w (λ z. b ≡ good_pages z.bytes.now z.lists) (λ k. b ≡ false) → b ≡ either (λ k. false) (good_pages x.bytes) g
section (Ok z) x (good l) e b h =
    let same : ◌≡◌ {A = Standing} (record { bytes = slice_told z.bytes; lists = z.lists }) (record { bytes = x; lists = l }) = cc in
    h ∙ ap (λ (o : Standing). good_pages o.bytes.bytes o.lists) same
section (Ok z) x (refused k) e b h = absurd (let z : ◌≡◌ {A = ℕ} 0 1 = cc in omega arith)
section (Err k) x (good l) e b h = absurd (let z : ◌≡◌ {A = ℕ} 0 1 = cc in omega arith)
section (Err k) x (refused j) e b h = h
