-- docs/FORMAT.md, 3.2: a lookup probes at most the bit length of the page count and, if a page was searched, that of its function count.
-- Assumes nothing.
use Prim.Native.Nat.{ℕ, ◌+◌, ◌-◌, ◌^◌, ◌≤◌, ◌<◌, zero-le}
use mathlib.Core.Path.{◌≡◌, refl}
use mathlib.Core.Bool.{Bool, true, false, cond}
use mathlib.Core.List.{List}
use mathlib.Core.Logic.{◌↔◌}
use native.Mathlib.Nat.{lt_of_lt_of_le}
use native.Mathlib.Omega.{arith}
use lib.Dec.{eqb}
use lib.Ieee.{size}
use lib.Ieee.Digits.{size-lt, size-le}
use lib.ListN.{length, length-drop}
use lib.Pow.{pow_mono}
use Rattle.reader.proofs.Laws.{fits}
use Rattle.search.specs.declared.Spot.{Spot}
use Rattle.search.specs.declared.Layout.{Layout}
use Rattle.search.specs.Search.{count_of, key_of, search_of}
use Rattle.search.proofs.Laws.{bits}
use Rattle.search.proofs.Turns.{less-inside}
use Rattle.raw.specs.declared.Lists.{Lists}
use Rattle.raw.specs.declared.Page.{Page}
use Rattle.raw.specs.Checked.{Checked, good, refused, either}
use Rattle.raw.specs.Raw.{parse_of, grant_of, pages_of, page_of, layout}
use Rattle.raw.proofs.Grants.{granted, granted-again, parsed}
use Rattle.raw.proofs.Opens.{functions-granted}
use Rattle.entries.specs.declared.Function.{Function}
use Rattle.entries.specs.Entries.{functions_of}
use Rattle.entries.specs.Section.{first_of, offset_of, page_at}
use Rattle.lookup.specs.Lookup.{Looked, refusal, telling, from_spot, from_page, at_page, from_pages, lookup_of, lookup_in, lookup_on, probes_of}
use Rattle.lookup.proofs.Cases.{counted, few-pages}

-- how many binary digits a number has: the least k with the number below 2 ^ k
abbrev pub bit_length : ℕ → ℕ
bit_length n = size n

pub bit_length_lem : (n k : ℕ) → (n < 2 ^ k) ↔ (bit_length n ≤ k)
bit_length_lem n k = (size-le n k, λ h. lt_of_lt_of_le (size-lt n) (pow_mono h))

-- the function count of the page that a lookup searches; 0 where it searches none: no page is found, or the last one, or the page is refused
abbrev pub count_in : Checked Page → ℕ
count_in (good pg) = pg.functions_len
count_in (refused k) = 0

unfoldable pub searched_after : List ℕ → Lists → Spot → ℕ
searched_after s l spot =
    cond (eqb spot.at 0) 0 (cond (eqb spot.at l.pages_len) 0 (count_in (page_of s (offset_of s l (spot.at - 1)) (first_of s l (spot.at - 1)))))

unfoldable pub functions_searched : List ℕ → Lists → ℕ → ℕ
functions_searched s l pc = searched_after s l (search_of (pages_of s l) Layout.Pages pc)

-- the bound of 3.2
abbrev pub most_probes : List ℕ → ℕ → Lists → ℕ
most_probes s pc l = bit_length l.pages_len + bit_length (functions_searched s l pc)

tells : (n : ℕ) (a : Checked Function) → probes_of (telling n a) ≡ n
tells n (good f) = refl
tells n (refused k) = refl

-- the same test for the answer and for the count
choose : (b : Bool) (x y : Looked) (j m n : ℕ) → probes_of x ≤ j + bit_length m → probes_of y ≤ j + bit_length n
    → probes_of (cond b x y) ≤ j + bit_length (cond b m n)
choose true x y j m n h k = h
choose false x y j m n h k = k

same : (b : Bool) (x y : Looked) (n : ℕ) → probes_of x ≤ n → probes_of y ≤ n → probes_of (cond b x y) ≤ n
same true x y n h k = h
same false x y n h k = k

in_list : (list : List ℕ) (y : Layout) (x n : ℕ) → count_of list y ≤ n → (search_of list y x).probes ≤ bit_length n
unfolding search_of
in_list list y x n h = bits (key_of list y) x (count_of list y) (bit_length n) (omega (arith, size-lt n))

module _ (s : List ℕ) (l : Lists) (pc : ℕ) where
  in-page : (p probes : ℕ) (o : Checked Page) → probes_of (from_page s l pc p probes o) ≤ probes + bit_length (count_in o)
  unfolding from_page from_spot functions_of
  in-page p probes (refused k) = omega arith
  in-page p probes (good pg) =
      let list = functions_of (page_at s l p) pg in
      let lay = layout pg.kind in
      let h = in_list list lay (pc - pg.base) pg.functions_len (counted lay (page_at s l p) pg.functions_offset pg.functions_len) in
      same (eqb (search_of list lay (pc - pg.base)).at 0) _ _ _ (omega arith) (rw tells (omega arith))

  pub probes : probes_of (lookup_of s l pc) ≤ most_probes s pc l
  unfolding lookup_of from_pages at_page functions_searched searched_after
  probes =
      let spot = search_of (pages_of s l) Layout.Pages pc in
      let p = spot.at - 1 in
      let h = in_list (pages_of s l) Layout.Pages pc l.pages_len (few-pages s l (pages_of s l) refl) in
      choose (eqb spot.at 0) _ _ _ 0 _ (omega arith)
      (choose (eqb spot.at l.pages_len) _ _ _ 0 _ (omega arith) (omega (arith, in-page p spot.probes (page_of s (offset_of s l p) (first_of s l p)))))

-- over the bytes with the lists' places, and over the bytes alone: lists that are refused take no probe
module _ (s : List ℕ) (pc : ℕ) where
  by-lists : (t : Checked Lists) → probes_of (either (λ k. refusal k 0) (λ m. lookup_of s m pc) t) ≤ either (λ k. 0) (most_probes s pc) t
  by-lists (good l) = probes s l pc
  by-lists (refused k) = zero-le

  pub probes-in : (l : Lists) → probes_of (lookup_in s l pc) ≤ either (λ k. 0) (most_probes s pc) (grant_of s l)
  unfolding lookup_in
  probes-in l = by-lists (grant_of s l)

  pub probes-on : probes_of (lookup_on s pc) ≤ either (λ k. 0) (most_probes s pc) (parse_of s)
  unfolding lookup_on
  probes-on = by-lists (parse_of s)

-- in any section that memory holds the probes are few
module _ (s : List ℕ) (h : length s < 2 ^ 64) where
  least : (b : Bool) (m n k : ℕ) → m ≤ k → n ≤ k → cond b m n ≤ k
  least true m n k t u = t
  least false m n k t u = u

  in-section : (offset first : ℕ) (o : Checked Page) → page_of s offset first ≡ o → count_in o ≤ length s
  in-section offset first (refused k) e = zero-le
  in-section offset first (good pg) e =
      less-inside (layout pg.kind) _ _ (omega (arith, fits _ _ pg.functions_offset (functions-granted s offset first pg e), length-drop offset s))

  few-after : (l : Lists) (spot : Spot) → searched_after s l spot ≤ length s
  unfolding searched_after
  few-after l spot =
      least (eqb spot.at 0) _ _ _ zero-le
      (least (eqb spot.at l.pages_len) _ _ _ zero-le (in-section (offset_of s l (spot.at - 1)) (first_of s l (spot.at - 1)) _ refl))

  few-searched : (l : Lists) (pc : ℕ) → functions_searched s l pc ≤ length s
  unfolding functions_searched
  few-searched l pc = few-after l (search_of (pages_of s l) Layout.Pages pc)

  few : (t : Checked Lists) (pc : ℕ) → ((l : Lists) → t ≡ good l → grant_of s l ≡ good l)
      → probes_of (either (λ k. refusal k 0) (λ m. lookup_of s m pc) t) ≤ 128
  few (refused k) pc g = zero-le
  few (good l) pc g =
      let inside = fits _ s l.pages_offset (granted s l l (g l refl)).2 in
      omega (arith, probes s l pc, size-le l.pages_len 64 (omega arith), size-le (functions_searched s l pc) 64 (omega (arith, few-searched l pc)))

  pub few_on : (pc : ℕ) → probes_of (lookup_on s pc) ≤ 128
  unfolding lookup_on
  few_on pc = few (parse_of s) pc (parsed s)

  pub few-in : (l : Lists) (pc : ℕ) → probes_of (lookup_in s l pc) ≤ 128
  unfolding lookup_in
  few-in l pc = few (grant_of s l) pc (granted-again s l)
