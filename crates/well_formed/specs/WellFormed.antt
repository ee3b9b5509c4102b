-- docs/FORMAT.md, 6: which sections are well formed, and what their checker computes.
-- Assumes nothing.
use Rattle.std.specs.Prelude.{ℕ, zero, suc, ◌-◌, ◌<◌, ◌≡◌, List, Bool, true, false, ◌&&◌, ltb, eqb}
use Rattle.search.specs.Search.{Rising}
use Rattle.raw.specs.declared.Lists.{Lists}
use Rattle.raw.specs.declared.Page.{Page}
use Rattle.raw.specs.Checked.{Checked, good, refused, either}
use Rattle.raw.specs.Raw.{parse_of, globals_of}
use Rattle.entries.specs.declared.Function.{Function}
use Rattle.entries.specs.declared.Place.{Place}
use Rattle.entries.specs.Entries.{functions_of, locals_of, start_in, end_in, opcode_in, start_of, opcode_of}
use Rattle.entries.specs.Section.{first_of, page_at, opened_at}
use Rattle.entries.specs.Placed.{read_of}

-- page p opens as in iteration, as pg, and has a function; its first function starts at the page's first_address, starts rise strictly
-- as whole numbers, and all lie below the next page's first_address; each opcode index resolves
pub record GoodPage (s : List ℕ) (l : Lists) (p : ℕ) (pg : Page) : Type 0 where
  pub opens : opened_at s l p ≡ good pg
  pub some : 0 < pg.functions_len
  pub begins : start_of (page_at s l p) pg 0 ≡ first_of s l p
  pub rises : Rising (start_of (page_at s l p) pg) pg.functions_len
  pub below : (i : ℕ) → i < pg.functions_len → start_of (page_at s l p) pg i < first_of s l (suc p)
  pub resolves : (i : ℕ) → i < pg.functions_len → (opcode : ℕ) × (opcode_of (page_at s l p) pg (globals_of s l) i ≡ good opcode)

-- first addresses rise strictly, and each page but the last is good
pub record GoodLists (s : List ℕ) (l : Lists) : Type 0 where
  pub firsts : Rising (first_of s l) l.pages_len
  pub each : (p : ℕ) → suc p < l.pages_len → (pg : Page) × GoodPage s l p pg

pub record WellFormed (s : List ℕ) : Type 0 where
  pub lists : Lists
  pub parses : parse_of s ≡ good lists
  pub sound : GoodLists s lists

-- the checker: a test passed at all numbers below n
unfoldable pub all : ℕ → (ℕ → Bool) → Bool
all zero f = true
all (suc n) f = f n && all n f

abbrev pub is_good : {A : Type 0} → Checked A → Bool
is_good (good x) = true
is_good (refused k) = false

-- function i starts below its end, and its opcode resolves; the page opened, so its local opcodes are there
unfoldable pub good_function : (globals locals functions : List ℕ) → Page → (next : ℕ) → ℕ → Bool
good_function globals locals functions pg next i =
    ltb (start_in functions pg i) (end_in functions pg next i) && is_good (opcode_in pg.kind globals locals true functions i)

unfoldable pub good_functions : (globals locals functions : List ℕ) → Page → (next : ℕ) → Bool
good_functions globals locals functions pg next = all pg.functions_len (good_function globals locals functions pg next)

-- the page has a function, its first one starts at the page's first_address, and all are good
unfoldable pub good_opened : (globals page : List ℕ) → Page → (first next : ℕ) → Bool
good_opened globals page pg first next =
    ltb 0 pg.functions_len && (eqb (start_of page pg 0) first && good_functions globals (locals_of page pg) (functions_of page pg) pg next)

unfoldable pub good_page : List ℕ → Lists → ℕ → Bool
good_page s l p = either (λ k. false) (λ pg. good_opened (globals_of s l) (page_at s l p) pg (first_of s l p) (first_of s l (suc p))) (opened_at s l p)

-- each page but the last
unfoldable pub good_pages : List ℕ → Lists → Bool
good_pages s l = all (l.pages_len - 1) (good_page s l)

unfoldable pub well_formed : List ℕ → Bool
well_formed s = either (λ k. false) (good_pages s) (parse_of s)

-- for the helpers: a test of start and end of a function that was given; function i is given and starts below its end
abbrev pub given : (ℕ → ℕ → Bool) → Checked Function → Bool
given test x = either (λ k. false) (λ f. test f.start_address f.end_address) x

abbrev pub good_read : (s globals : List ℕ) → Place → ℕ → Bool
good_read s globals q i = given ltb (read_of s globals q i)
