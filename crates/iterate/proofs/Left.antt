-- How many answers are left at a cursor: each call that answers leaves fewer, so the calls end.
-- Assumes nothing.
use Prim.Native.Nat.{ℕ, zero, suc, ◌+◌, ◌-◌, ◌*◌, ◌≤◌, ◌<◌, zero-le}
use mathlib.Core.Path.{◌≡◌, refl, ap}
use mathlib.Core.List.{List}
use native.Mathlib.Omega.{arith}
use native.Mathlib.Decide.{dec_lt}
use borrow.Author.Tests.{lt-ltb, le-ltb}
use Rattle.reader.specs.Reader.{Bytes}
use Rattle.raw.specs.declared.Lists.{Lists}
use Rattle.raw.specs.declared.Page.{Page}
use Rattle.raw.specs.Checked.{Checked, good, refused}
use Rattle.raw.proofs.Opens.{opened-reads, few-functions}
use Rattle.entries.specs.declared.Function.{Function}
use Rattle.entries.specs.Section.{first_of, offset_of, opened_at, function_at}
use Rattle.iterate.specs.declared.Cursor.{Cursor}
use Rattle.iterate.specs.Iterate.{cursor, answer, in_page, next_from, next_of}

-- in a page from index i on: its functions, or its refusal
abbrev pub left_in : Checked Page → ℕ → ℕ
left_in (good pg) i = pg.functions_len - i
left_in (refused k) i = 1

unfoldable pub left_from : List ℕ → Lists → ℕ → ℕ → ℕ → ℕ
left_from s l zero p i = 0
left_from s l (suc left) p i = left_in (opened_at s l p) i + left_from s l left (p + 1) 0

unfoldable pub left_of : List ℕ → Lists → Cursor → ℕ
left_of s l c = left_from s l (l.pages_len - 1 - c.page) c.page c.index

module _ (s : List ℕ) (l : Lists) where
  left_at : (left p i : ℕ) → l.pages_len - 1 - p ≡ left → left_of s l (cursor p i) ≡ left_from s l left p i
  unfolding left_of
  left_at left p i e = ap (λ (m : ℕ). left_from s l m p i) e

  -- in a page that was opened, or refused
  in-page : (left p i : ℕ) (a : Checked Function) (d : Cursor) (o : Checked Page) → l.pages_len - 1 - p ≡ suc left → opened_at s l p ≡ o
      → in_page s l p i o (next_from s l left (p + 1) 0) ≡ answer a d
      → (next_from s l left (p + 1) 0 ≡ answer a d → left_of s l d < left_from s l left (p + 1) 0) → left_of s l d < left_in o i + left_from s l left (p + 1) 0
  unfolding in_page left_from
  in-page left p i a d (refused k) n q r later =
      let same : d ≡ cursor (p + 1) 0 = cc in
      rw same (rw (left_at left (p + 1) 0 (omega arith)) (omega arith))
  in-page left p i a d (good pg) n q r later = by_index (dec_lt i pg.functions_len)
    where
      by_index : Dec (i < pg.functions_len) → left_of s l d < left_in (good pg) i + left_from s l left (p + 1) 0
      by_index (yes t) =
          let here : answer (function_at s l p pg i) (cursor p (i + 1)) ≡ answer a d = simp (lt-ltb i pg.functions_len t) at r in
          let same : d ≡ cursor p (i + 1) = cc in
          let there : left_of s l (cursor p (i + 1)) ≡ left_in (opened_at s l p) (i + 1) + left_from s l left (p + 1) 0 = left_at (suc left) p (i + 1) n in
          let then : left_of s l (cursor p (i + 1)) ≡ (pg.functions_len - (i + 1)) + left_from s l left (p + 1) 0 = simp q at there in
          rw same (omega (arith, then))
      by_index (no t) = omega (arith, later (simp (le-ltb i pg.functions_len (omega arith)) at r))

  from : (left p i : ℕ) (a : Checked Function) (d : Cursor) → l.pages_len - 1 - p ≡ left → next_from s l left p i ≡ answer a d → left_of s l d < left_from s l left p i
  unfolding next_from left_from
  from zero p i a d n e = absurd (let z : ◌≡◌ {A = ℕ} 0 1 = cc in omega arith)
  from (suc left) p i a d n e = in-page left p i a d (opened_at s l p) n refl e (λ q. from left (p + 1) 0 a d (omega arith) q)

  -- a call that answers leaves fewer
  pub fewer : (c : Cursor) (a : Checked Function) (d : Cursor) → next_of s l c ≡ answer a d → left_of s l d < left_of s l c
  unfolding next_of left_of
  fewer c a d e = from (l.pages_len - 1 - c.page) c.page c.index a d refl e

  -- and there are no more than 65,536 for each page
  module _ (bytes : Bytes s) where
    page-bound : (p i : ℕ) (o : Checked Page) → opened_at s l p ≡ o → left_in o i ≤ 65536
    unfolding opened_at
    page-bound p i (good pg) q =
        omega (arith, few-functions s bytes (offset_of s l p) (first_of s l p) pg (opened-reads s (offset_of s l p) (first_of s l p) pg q).0)
    page-bound p i (refused k) q = omega arith

    from-bound : (left p i : ℕ) → left_from s l left p i ≤ 65536 * left
    unfolding left_from
    from-bound zero p i = zero-le
    from-bound (suc left) p i = omega (arith, page-bound p i (opened_at s l p) refl, from-bound left (p + 1) 0)

    pub bounded : (c : Cursor) → left_of s l c ≤ 65536 * l.pages_len
    unfolding left_of
    bounded c = omega (arith, from-bound (l.pages_len - 1 - c.page) c.page c.index)
