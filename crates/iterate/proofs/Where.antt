-- Where a call's function stands: at the cursor of the call, or first in a later page; and the call at the function's own place answers it again.
-- Its index has 16 bits.
-- Assumes nothing.
use Prim.Native.Nat.{ℕ, zero, suc, ◌+◌, ◌-◌, ◌<◌}
use mathlib.Core.Path.{◌≡◌, refl, ap, sym, subst, ◌∙◌}
use mathlib.Core.Logic.{◌⊎◌, inl, inr}
use mathlib.Core.Bool.{true}
use mathlib.Core.List.{List}
use native.Mathlib.Omega.{arith}
use native.Mathlib.Decide.{dec_lt}
use borrow.Author.Tests.{lt-ltb, le-ltb}
use Rattle.reader.specs.Reader.{Bytes, granted_of, word_at}
use Rattle.raw.specs.declared.Lists.{Lists}
use Rattle.raw.specs.declared.Page.{Page}
use Rattle.raw.specs.Checked.{Checked, good, refused, either}
use Rattle.raw.specs.Raw.{parse_of, grant_of}
use Rattle.raw.proofs.Opens.{opened-reads, few-functions}
use Rattle.entries.specs.declared.Function.{Function}
use Rattle.entries.specs.Section.{first_of, offset_of, opened_at, function_at, opcode_at}
use Rattle.entries.proofs.Origins.{says-where, stands}
use Rattle.iterate.specs.declared.Cursor.{Cursor}
use Rattle.iterate.specs.Iterate.{cursor, answer, in_page, next_from, next_of, next_in, next_on}
use Rattle.iterate.proofs.Iteration.{page-function}

-- at the cursor, or first in a later page
abbrev pub Reached : Cursor → (p i : ℕ) → Type 0
Reached c p i = ((p ≡ c.page) × (i ≡ c.index)) ⊎ ((c.page < p) × (i ≡ 0))

module _ (s : List ℕ) (l : Lists) where
  -- the function is function i of page p, and the cursor for the next call stands after it
  pub record ToldAt (p i : ℕ) (f : Function) (d : Cursor) : Type 0 where
    pub before_last : p + 1 < l.pages_len
    pub page : Page
    pub opens : opened_at s l p ≡ good page
    pub inside : i < page.functions_len
    pub is : function_at s l p page i ≡ good f
    pub next : d ≡ cursor p (i + 1)

  abbrev Told : Cursor → Function → Cursor → Type 0
  Told c f d = (p i : ℕ) × ToldAt p i f d × Reached c p i

  -- what a later page tells is reached from here too
  later : (p i : ℕ) (f : Function) (d : Cursor) → Told (cursor (p + 1) 0) f d → Told (cursor p i) f d
  later p i f d (q, j, t, inl r) = (q, j, t, inr (omega (arith, r.0), r.1))
  later p i f d (q, j, t, inr r) = (q, j, t, inr (omega (arith, r.0), r.1))

  in-page : (left p i : ℕ) (f : Function) (d : Cursor) (o : Checked Page) → l.pages_len - 1 - p ≡ suc left → opened_at s l p ≡ o
      → in_page s l p i o (next_from s l left (p + 1) 0) ≡ answer (good f) d
      → (next_from s l left (p + 1) 0 ≡ answer (good f) d → Told (cursor (p + 1) 0) f d) → Told (cursor p i) f d
  unfolding in_page
  in-page left p i f d (refused k) n q r go = absurd (let z : ◌≡◌ {A = ℕ} 0 1 = cc in omega arith)
  in-page left p i f d (good pg) n q r go = by_index (dec_lt i pg.functions_len)
    where
      by_index : Dec (i < pg.functions_len) → Told (cursor p i) f d
      by_index (yes t) =
          let here : answer (function_at s l p pg i) (cursor p (i + 1)) ≡ answer (good f) d = simp (lt-ltb i pg.functions_len t) at r in
          let same : function_at s l p pg i ≡ good f = cc in
          let after : d ≡ cursor p (i + 1) = cc in
          (p, i, record { before_last = omega arith; page = pg; opens = q; inside = t; is = same; next = after }, inl (refl, refl))
      by_index (no t) = later p i f d (go (simp (le-ltb i pg.functions_len (omega arith)) at r))

  from : (left p i : ℕ) (f : Function) (d : Cursor) → l.pages_len - 1 - p ≡ left → next_from s l left p i ≡ answer (good f) d → Told (cursor p i) f d
  unfolding next_from
  from zero p i f d n e = absurd (let z : ◌≡◌ {A = ℕ} 0 1 = cc in omega arith)
  from (suc left) p i f d n e = in-page left p i f d (opened_at s l p) n refl e (λ q. from left (p + 1) 0 f d (omega arith) q)

  -- what a call answers stands where its record says
  pub told_at : (c : Cursor) (f : Function) (d : Cursor) → next_of s l c ≡ answer (good f) d → ToldAt f.page f.index f d × Reached c f.page f.index
  unfolding next_of
  told_at c f d e =
      let r = from (l.pages_len - 1 - c.page) c.page c.index f d refl e in
      let says = says-where s l r.0 r.2.page r.1 f r.2.is in
      subst (λ (p : ℕ). ToldAt p f.index f d × Reached c p f.index) (sym says.0)
      (subst (λ (i : ℕ). ToldAt r.0 i f d × Reached c r.0 i) (sym says.1) (r.2, r.3))

  -- so a call at that place answers it again
  pub again : (c : Cursor) (f : Function) (d : Cursor) → next_of s l c ≡ answer (good f) d → next_of s l (cursor f.page f.index) ≡ answer (good f) d
  again c f d e =
      let t = (told_at c f d e).0 in
      page-function s l f.page f.index t.page t.before_last t.opens t.inside
      ∙ ap (λ (x : Checked Function). answer x (cursor f.page (f.index + 1))) t.is ∙ ap (answer (good f)) (sym t.next)

  -- and its opcode is the word at the place that its origin and its index name
  pub opcode-stands : grant_of s l ≡ good l → (f : Function) (d : Cursor) → (at : ToldAt f.page f.index f d)
      → let place = opcode_at s l at.page f.page f.index f.origin in (granted_of 4 s place ≡ true) × (f.opcode ≡ word_at 4 s place)
  unfolding opened_at
  opcode-stands grant f d at = stands s l grant f.page at.page (opened-reads s _ _ at.page at.opens).0 f.index at.inside f at.is

-- a page has less than 65,536 functions, so the index has 16 bits
module _ (s : List ℕ) (bytes : Bytes s) (c : Cursor) (f : Function) (d : Cursor) where
  small : (l : Lists) → next_of s l c ≡ answer (good f) d → f.index < 65536
  unfolding opened_at
  small l e =
      let t = (told_at s l c f d e).0 in
      omega (arith, t.inside, few-functions s bytes (offset_of s l f.page) (first_of s l f.page) t.page (opened-reads s _ _ t.page t.opens).0)

  on-lists : (t : Checked Lists) → either (λ k. answer (refused k) c) (λ m. next_of s m c) t ≡ answer (good f) d → f.index < 65536
  on-lists (good l) e = small l e
  on-lists (refused k) e = absurd (let z : ◌≡◌ {A = ℕ} 0 1 = cc in omega arith)

  pub small-in : (l : Lists) → next_in s l c ≡ answer (good f) d → f.index < 65536
  unfolding next_in
  small-in l e = on-lists (grant_of s l) e

  pub small-on : next_on s c ≡ answer (good f) d → f.index < 65536
  unfolding next_on
  small-on e = on-lists (parse_of s) e
