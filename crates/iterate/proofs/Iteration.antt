-- The cursor's rules, as equations with no count of pages left; that an end is told for ever; and that the calls from the first cursor end, with
-- the answers page after page.
-- Assumes nothing.
use Prim.Native.Nat.{ℕ, zero, suc, ◌+◌, ◌-◌, ◌≤◌, ◌<◌}
use mathlib.Core.Path.{◌≡◌, refl, ◌∙◌}
use mathlib.Core.Bool.{Bool, true, false, cond}
use mathlib.Core.List.{List, ◌++◌}
use native.Mathlib.Omega.{arith}
use borrow.Author.Tests.{lt-ltb, le-ltb}
use lib.Dec.{ltb}
use Rattle.raw.specs.declared.Lists.{Lists}
use Rattle.raw.specs.declared.Page.{Page}
use Rattle.entries.specs.declared.Function.{Function}
use Rattle.iterate.specs.declared.Cursor.{Cursor}
use Rattle.raw.specs.Checked.{Checked, good, refused, either}
use Rattle.raw.specs.Raw.{parse_of, grant_of}
use Rattle.entries.specs.Section.{opened_at, function_at}
use Rattle.iterate.specs.Iterate.{cursor, end_cursor, Step, answer, end, in_page, next_from, next_of, next_in, next_on, Iterates, ends, answers, functions_from, in_pages, pages_from, iterated}

never : {x : Step} {d e : Cursor} {a : Checked Function} → x ≡ end d → x ≡ answer a e → ⊥
never p q = let z : ◌≡◌ {A = ℕ} 0 1 = cc in omega arith

module _ (s : List ℕ) (l : Lists) where
  -- at or past the last page: the end, for ever
  pub at-end : (p i : ℕ) → l.pages_len ≤ p + 1 → next_of s l (cursor p i) ≡ end (cursor (l.pages_len - 1) 0)
  unfolding next_of next_from
  at-end p i h =
      let none : l.pages_len - 1 - p ≡ 0 = omega arith in
      rw none refl

  -- every end hands back the same cursor
  hands-back : (left p i : ℕ) (d : Cursor) → next_from s l left p i ≡ end d → d ≡ end_cursor l
  unfolding next_from in_page
  hands-back zero p i d e = cc
  hands-back (suc left) p i d e = by-page (opened_at s l p) (hands-back left (p + 1) 0 d) e
    where
      later : Step
      later = next_from s l left (p + 1) 0

      by-test : (b : Bool) (a : Checked Function) (c : Cursor) → (later ≡ end d → d ≡ end_cursor l) → cond b (answer a c) later ≡ end d → d ≡ end_cursor l
      by-test true a c go q = absurd (never q refl)
      by-test false a c go q = go q

      by-page : (o : Checked Page) → (later ≡ end d → d ≡ end_cursor l) → in_page s l p i o later ≡ end d → d ≡ end_cursor l
      by-page (good pg) go q = by-test (ltb i pg.functions_len) _ _ go q
      by-page (refused k) go q = absurd (never q refl)

  pub end-hands-back : (c d : Cursor) → next_of s l c ≡ end d → d ≡ end_cursor l
  unfolding next_of
  end-hands-back c d e = hands-back (l.pages_len - 1 - c.page) c.page c.index d e

  -- and tells it again
  pub for-ever : (c d : Cursor) → next_of s l c ≡ end d → next_of s l d ≡ end d
  for-ever c d e = rw (end-hands-back c d e) (at-end (l.pages_len - 1) 0 (omega arith))

  -- before it: the page is opened
  pub at-page : (p i : ℕ) → p + 1 < l.pages_len → next_of s l (cursor p i) ≡ in_page s l p i (opened_at s l p) (next_of s l (cursor (p + 1) 0))
  unfolding next_of next_from
  at-page p i h =
      let left : l.pages_len - 1 - p ≡ suc (l.pages_len - 1 - (p + 1)) = omega arith in
      rw left refl

  pub page-refused : (p i k : ℕ) → p + 1 < l.pages_len → opened_at s l p ≡ refused k → next_of s l (cursor p i) ≡ answer (refused k) (cursor (p + 1) 0)
  unfolding in_page
  page-refused p i k h e = at-page p i h ∙ simp e

  pub page-function : (p i : ℕ) (pg : Page) → p + 1 < l.pages_len → opened_at s l p ≡ good pg → i < pg.functions_len → next_of s l (cursor p i) ≡ answer (function_at s l p pg i) (cursor p (i + 1))
  unfolding in_page
  page-function p i pg h e t = at-page p i h ∙ simp (e, lt-ltb _ _ t)

  pub page-past : (p i : ℕ) (pg : Page) → p + 1 < l.pages_len → opened_at s l p ≡ good pg → pg.functions_len ≤ i → next_of s l (cursor p i) ≡ next_of s l (cursor (p + 1) 0)
  unfolding in_page
  page-past p i pg h e t = at-page p i h ∙ simp (e, le-ltb _ _ t)

  same_next : {c d : Cursor} {r : List (Checked Function)} → next_of s l c ≡ next_of s l d → Iterates s l d r → Iterates s l c r
  same_next e (ends q) = ends (e ∙ q)
  same_next e (answers q i) = answers (e ∙ q) i

  -- a page's functions from i on, and then what follows the page
  functions : (p : ℕ) (pg : Page) (r : List (Checked Function)) → p + 1 < l.pages_len → opened_at s l p ≡ good pg → Iterates s l (cursor (p + 1) 0) r
      → (k i : ℕ) → i + k ≡ pg.functions_len → Iterates s l (cursor p i) (functions_from s l p pg k i ++ r)
  unfolding functions_from
  functions p pg r h e after zero i n = same_next (page-past p i pg h e (omega arith)) after
  functions p pg r h e after (suc k) i n = answers (page-function p i pg h e (omega arith)) (functions p pg r h e after k (i + 1) (omega arith))

  pages : (left p : ℕ) → p + left ≡ l.pages_len - 1 → Iterates s l (cursor p 0) (pages_from s l left p)
  unfolding pages_from in_pages
  pages zero p n = ends (at-end p 0 (omega arith))
  pages (suc left) p n = opens (opened_at s l p) refl (pages left (p + 1) (omega arith))
    where
      opens : (o : Checked Page) → opened_at s l p ≡ o → Iterates s l (cursor (p + 1) 0) (pages_from s l left (p + 1)) → Iterates s l (cursor p 0) (in_pages s l p o ++ pages_from s l left (p + 1))
      opens (good pg) e after = functions p pg _ (omega arith) e after pg.functions_len 0 (omega arith)
      opens (refused k) e after = answers (page-refused p 0 k (omega arith) e) after

  -- the calls from the first cursor end, and answer page after page
  pub iterates : Iterates s l (cursor 0 0) (iterated s l)
  unfolding iterated
  iterates = pages (l.pages_len - 1) 0 (omega arith)

  -- a cursor's calls have one list of answers
  pub one_list : {c : Cursor} {a b : List (Checked Function)} → Iterates s l c a → Iterates s l c b → a ≡ b
  one_list (ends p) (ends q) = refl
  one_list (ends p) (answers q j) = absurd (never p q)
  one_list (answers p i) (ends q) = absurd (never q p)
  one_list (answers {d = c} p i) (answers {d = d} q j) =
      let e : c ≡ d = cc in
      let f = one_list i (rw (← e) at j) in
      cc

-- the same of the calls over the bytes with the lists' places, and over the bytes alone
module _ (s : List ℕ) (c d : Cursor) where
  lists-end : (t : Checked Lists) → either (λ k. answer (refused k) c) (λ m. next_of s m c) t ≡ end d → either (λ k. answer (refused k) d) (λ m. next_of s m d) t ≡ end d
  lists-end (good l) e = for-ever s l c d e
  lists-end (refused k) e = absurd (never e refl)

  pub for-ever-in : (l : Lists) → next_in s l c ≡ end d → next_in s l d ≡ end d
  unfolding next_in
  for-ever-in l e = lists-end (grant_of s l) e

  pub for-ever-on : next_on s c ≡ end d → next_on s d ≡ end d
  unfolding next_on
  for-ever-on e = lists-end (parse_of s) e
