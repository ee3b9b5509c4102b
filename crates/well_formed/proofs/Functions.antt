-- Good functions of a page: the reader gives each, from its start to an end above it, and what it gives so is good. It refuses an address
-- of 2^32 or more, and good functions have none: their starts rise up to the next page's first address.
-- Assumes nothing.
use Prim.Native.Nat.{ℕ, zero, suc, ◌+◌, ◌-◌, ◌≤◌, ◌<◌}
use mathlib.Core.Path.{◌≡◌, refl, ap, sym, ◌∙◌}
use mathlib.Core.Bool.{Bool, true, false, ◌&&◌, and-false}
use mathlib.Core.Logic.{◌⊎◌, inl, inr}
use mathlib.Core.List.{List}
use native.Mathlib.Nat.{eq-or-lt_of_le}
use native.Mathlib.Decide.{dec_lt}
use native.Mathlib.Omega.{arith}
use borrow.Author.Tests.{ltb-true, lt-ltb, le-ltb}
use lib.Dec.{ltb, eqb}
use lib.ListN.{drop}
use Rattle.raw.specs.declared.Page.{Page}
use Rattle.raw.specs.Checked.{Checked, good, refused, ◌>>=◌, ◌>>◌, check}
use Rattle.raw.specs.Raw.{page_of, open_of, locals_granted}
use Rattle.raw.proofs.Opens.{opened-reads}
use Rattle.entries.specs.declared.Function.{Function}
use Rattle.entries.specs.declared.Place.{Place}
use Rattle.entries.specs.Entries.{functions_of, locals_of, start_in, end_in, opcode_in, origin_in, function_from, function_in, start_of, function_of}
use Rattle.entries.specs.Placed.{entry_there, read_of}
use Rattle.entries.proofs.Cases.{end-inside, end-last}
use Rattle.entries.proofs.Placed.{list-there, placed}
use Rattle.well_formed.specs.WellFormed.{all, is_good, good_function, good_functions, good_opened, given, good_read}

-- tests that pass
pub both : (a b : Bool) → (a && b) ≡ true → (a ≡ true) × (b ≡ true)
both true b e = (refl, e)
both false b e = (e, cc)

alike : (a b : Bool) → (a ≡ true → b ≡ true) → (b ≡ true → a ≡ true) → a ≡ b
alike true b f g = sym (f refl)
alike false true f g = g refl
alike false false f g = refl

beside : (a b c : Bool) → (c ≡ true → a ≡ b) → (a && c) ≡ (b && c)
beside a b true f = ap (λ (x : Bool). x && true) (f refl)
beside a b false f = and-false a ∙ sym (and-false b)

pub all-each : (n : ℕ) (f : ℕ → Bool) → all n f ≡ true → (i : ℕ) → i < n → f i ≡ true
unfolding all
all-each zero f e i h = absurd (omega arith)
all-each (suc n) f e i h =
    let t = both (f n) (all n f) e in
    last (λ l. all-each n f t.1 i l) t.0 (eq-or-lt_of_le {n = i} {m = n} (omega arith))
  where
    last : (i < n → f i ≡ true) → f n ≡ true → (i ≡ n) ⊎ (i < n) → f i ≡ true
    last before at (inl q) = rw q at
    last before at (inr l) = before l

pub each_all : (n : ℕ) (f : ℕ → Bool) → ((i : ℕ) → i < n → f i ≡ true) → all n f ≡ true
unfolding all
each_all zero f h = refl
each_all (suc n) f h = simp (h n (omega arith)) (each_all n f (λ i l. h i (omega arith)))

is-good : {A : Type 0} (c : Checked A) → is_good c ≡ true → (x : A) × (c ≡ good x)
is-good (good x) e = (x, refl)
is-good (refused k) e = absurd (let z : ◌≡◌ {A = ℕ} 0 1 = cc in omega arith)

-- over the list of functions
module _ (globals locals functions : List ℕ) (pg : Page) (next : ℕ) where
  -- function i of page p, with an opcode
  abbrev pub told : (p i opcode : ℕ) → Function
  told p i opcode = function_from p i (origin_in pg.kind globals functions i) (start_in functions pg i) (end_in functions pg next i) opcode

  module _ (e : good_functions globals locals functions pg next ≡ true) where
    pub each-good : (i : ℕ) → i < pg.functions_len → (start_in functions pg i < end_in functions pg next i) × ((opcode : ℕ) × (opcode_in pg.kind globals locals true functions i ≡ good opcode))
    unfolding good_functions good_function
    each-good i h =
        let t = both _ _ (all-each _ _ e i h) in
        (ltb-true _ _ t.0, is-good _ t.1)

    -- from the last function down: each ends by the next page's first address
    ends_by : (d i : ℕ) → i + suc d ≡ pg.functions_len → end_in functions pg next i ≤ next
    ends_by zero i q = omega (arith, end-last functions pg next i (omega arith))
    ends_by (suc d) i q = omega (arith, end-inside functions pg next i (omega arith), (each-good (i + 1) (omega arith)).0, ends_by d (i + 1) (omega arith))

    pub end_low : (i : ℕ) → i < pg.functions_len → end_in functions pg next i ≤ next
    end_low i h = ends_by (pg.functions_len - suc i) i (omega arith)

    -- so function i is given: 13 and 14 do not arise
    pub gives : next < 4294967296 → (p i : ℕ) → i < pg.functions_len
        → (opcode : ℕ) × (function_in p globals locals true functions pg next i ≡ good (told p i opcode))
    unfolding function_in
    gives small p i h =
        let t = each-good i h in
        let l = end_low i h in
        (t.1.0, simp (lt-ltb (start_in functions pg i) 4294967296 (omega (arith, t.0)), lt-ltb (end_in functions pg next i) 4294967296 (omega arith), t.1.1))

  -- and the other way
  given-good : (p i : ℕ) → given ltb (function_in p globals locals true functions pg next i) ≡ true → good_function globals locals functions pg next i ≡ true
  unfolding function_in good_function
  given-good p i = by (ltb (start_in functions pg i) 4294967296) (ltb (end_in functions pg next i) 4294967296) (opcode_in pg.kind globals locals true functions i)
    where
      by : (a b : Bool) (x : Checked ℕ) → given ltb (◌>>◌ (check 13 a) (◌>>◌ (check 13 b) (◌>>=◌ x (λ z. good (told p i z))))) ≡ true → (ltb (start_in functions pg i) (end_in functions pg next i) && is_good x) ≡ true
      by true true (good z) e = simp e
      by true true (refused k) e = cc
      by true false x e = cc
      by false b x e = cc

-- a page that opened, read by its place
module _ (s globals : List ℕ) (q : Place) (first : ℕ) (o : open_of s q.offset first ≡ good q.page) (small : q.next < 4294967296) where
  abbrev page : List ℕ
  page = drop q.offset s

  abbrev locals : List ℕ
  locals = locals_of page q.page

  abbrev functions : List ℕ
  functions = functions_of page q.page

  abbrev count : ℕ
  count = q.page.functions_len

  reads : (page_of s q.offset first ≡ good q.page) × (locals_granted page q.page ≡ true)
  reads = opened-reads s q.offset first q.page o

  read_is : (i : ℕ) → i < count → read_of s globals q i ≡ function_in q.index globals locals true functions q.page q.next i
  unfolding function_of
  read_is i h = placed s q.index q.offset q.next first q.page reads.0 globals i h ∙ simp reads.1

  good-given : good_functions globals locals functions q.page q.next ≡ true → (test : ℕ → ℕ → Bool) (i : ℕ) → i < count
      → given test (read_of s globals q i) ≡ test (start_in functions q.page i) (end_in functions q.page q.next i)
  good-given e test i h = ap (given test) (read_is i h ∙ (gives globals locals functions q.page q.next e small q.index i h).1)

  same : all count (good_read s globals q) ≡ good_functions globals locals functions q.page q.next
  unfolding good_functions
  same =
      alike _ _
      (λ e. each_all _ _ (λ i h. given-good globals locals functions q.page q.next q.index i (ap (given ltb) (sym (read_is i h)) ∙ all-each _ _ e i h)))
      (λ e. each_all _ _ (λ i h. good-given e ltb i h ∙ lt-ltb _ _ (each-good globals locals functions q.page q.next e i h).0))

  -- its first function and all
  pub opened : (given (λ x y. eqb x first) (read_of s globals q 0) && all count (good_read s globals q)) ≡ good_opened globals page q.page first q.next
  unfolding good_opened start_of read_of entry_there
  opened = by_count (dec_lt 0 count)
    where
      by_count : Dec (0 < count) → (given (λ x y. eqb x first) (read_of s globals q 0) && all count (good_read s globals q)) ≡ good_opened globals page q.page first q.next
      by_count (yes h) = beside _ _ _ (λ e. good-given (sym same ∙ e) (λ x y. eqb x first) 0 h) ∙ simp (lt-ltb 0 count h, same)
      by_count (no h) = simp (list-there s q.index q.offset q.next first q.page reads.0, le-ltb 0 count (omega arith))
