-- A page that was opened: its bytes and its place are the section's, and its functions are those of the section's page.
-- Assumes nothing.
use Prim.Native.Nat.{ℕ, suc, ◌<◌}
use mathlib.Core.Path.{◌≡◌, ap, sym, ◌∙◌}
use mathlib.Core.List.{List}
use native.Mathlib.Omega.{arith}
use Rattle.std.specs.Prelude.{Result, Ok, Err, IsErrAnd}
use Rattle.reader.specs.Reader.{Slice, part_at}
use Rattle.raw.specs.declared.Error.{Error}
use Rattle.raw.specs.declared.Lists.{Lists}
use Rattle.raw.specs.declared.Page.{Page}
use Rattle.raw.specs.declared.PageEntry.{PageEntry}
use Rattle.raw.specs.Checked.{Checked, good, refused, ◌>>=◌, number_of}
use Rattle.raw.specs.Raw.{globals_of, pages_of, entry_of, open_of}
use Rattle.raw.proofs.Opens.{opened-reads}
use Rattle.entries.specs.declared.Place.{Place}
use Rattle.entries.specs.Placed.{read_of}
use Rattle.entries.specs.Section.{first_of, offset_of, page_at, opened_at, function_at, place_at}
use Rattle.entries.proofs.Places.{next-is, offset-is, opens-there}
use Rattle.entries.proofs.Placed.{placed}
use Rattle.entries.specs.declared.PageAt.{PageAt}
use Rattle.iterate.specs.Opened.{Opened, opens, opened_told}

abbrev opened : Slice → Slice → Place → Opened
opened x globals q = record { section = x; globals = globals; place = q }

abbrev globals : Slice → Lists → Slice
globals x l = part_at x l.global_opcodes_offset (globals_of x.bytes l)

-- a `?` passes the error on as it is
pub passed_on : (r : Result PageAt Error) (e : Error) → IsErrAnd r (λ x. x ≡ e) → opened_told r ≡ refused (number_of e)
passed_on (Ok x) e h = absurd h
passed_on (Err d) e h = ap (λ (x : Error). refused (number_of x)) h

module _ (x : Slice) (l : Lists) (p : ℕ) where
  abbrev s : List ℕ
  s = x.bytes

  -- from its entry
  module _ (pages : List ℕ) (ep : pages ≡ pages_of s l) (entry : PageEntry) (ee : entry ≡ entry_of pages p) where
    pub not-opened : (k : ℕ) → refused k ≡ open_of s entry.offset entry.first → refused k ≡ opens x l p
    not-opened k e = simp (sym (opens-there s l p pages ep entry ee (refused k) e))

    pub opened-there : (g : Slice) (pg : Page) → g ≡ globals x l → good pg ≡ open_of s entry.offset entry.first
        → good (opened x g (record { index = p; offset = entry.offset; next = entry.next; page = pg })) ≡ opens x l p
    opened-there g pg eg e =
        simp (sym (opens-there s l p pages ep entry ee (good pg) e), eg, next-is s l p pages ep entry ee, offset-is s l p pages ep entry ee)

  -- what it says of the section
  was : (t : Checked Page) (o : Opened) → good o ≡ (◌>>=◌ t (λ pg. good (opened x (globals x l) (place_at s l p pg))))
      → (t ≡ good o.place.page) × (o ≡ opened x (globals x l) (place_at s l p o.place.page))
  was (good pg) o e =
      let same : o ≡ opened x (globals x l) (place_at s l p pg) = cc in
      let page : o.place.page ≡ pg = ap (λ (y : Opened). y.place.page) same in
      (ap good (sym page), same ∙ ap (λ (y : Page). opened x (globals x l) (place_at s l p y)) (sym page))
  was (refused k) o e = absurd (let z : ◌≡◌ {A = ℕ} 0 1 = cc in omega arith)

  was_not : (t : Checked Page) (k : ℕ) → refused k ≡ (◌>>=◌ t (λ pg. good (opened x (globals x l) (place_at s l p pg)))) → t ≡ refused k
  was_not (good pg) k e = absurd (let z : ◌≡◌ {A = ℕ} 0 1 = cc in omega arith)
  was_not (refused j) k e =
      let same : j ≡ k = cc in
      ap refused same

  pub is-refused : (k : ℕ) → refused k ≡ opens x l p → opened_at s l p ≡ refused k
  is-refused k e = was_not (opened_at s l p) k e

  module _ (o : Opened) (e : good o ≡ opens x l p) where
    pub is-opened : opened_at s l p ≡ good o.place.page
    is-opened = (was (opened_at s l p) o e).0

    pub its-page : o ≡ opened x (globals x l) (place_at s l p o.place.page)
    its-page = (was (opened_at s l p) o e).1

    -- function i of it
    pub function-there : (i : ℕ) → i < o.place.page.functions_len → read_of o.section.bytes o.globals.bytes o.place i ≡ function_at s l p o.place.page i
    unfolding function_at page_at opened_at
    function-there i h =
        let pg = o.place.page in
        let read = (opened-reads s (offset_of s l p) (first_of s l p) pg is-opened).0 in
        ap (λ (y : Opened). read_of y.section.bytes y.globals.bytes y.place i) its-page
        ∙ placed s p (offset_of s l p) (first_of s l (suc p)) (first_of s l p) pg read (globals_of s l) i h
