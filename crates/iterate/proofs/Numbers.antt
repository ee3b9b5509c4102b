-- A cursor's call and the address range say 15 exactly if the header is there and its version isn't 1, and on lists that anyone names never.
-- Assumes nothing.
use Prim.Native.Nat.{ℕ, zero, suc, ◌+◌, ◌≤◌}
use mathlib.Core.Path.{◌≡◌, refl}
use mathlib.Core.Bool.{Bool, true, false, cond}
use mathlib.Core.Logic.{◌↔◌}
use mathlib.Core.List.{List}
use lib.Dec.{ltb}
use lib.ListN.{length}
use Rattle.raw.specs.declared.Lists.{Lists}
use Rattle.raw.specs.declared.Page.{Page}
use Rattle.raw.specs.Checked.{Checked, good, refused, either}
use Rattle.raw.specs.Raw.{version_of}
use Rattle.raw.proofs.Numbers.{Behind, only-15, exactly-15, never-15-in}
use Rattle.entries.specs.declared.Function.{Function}
use Rattle.entries.specs.Section.{function_at}
use Rattle.entries.proofs.Numbers.{of-function-at, of-opened-at}
use Rattle.iterate.specs.declared.Cursor.{Cursor}
use Rattle.iterate.specs.declared.Range.{Range}
use Rattle.iterate.specs.Iterate.{Step, cursor, answer, end, in_page, next_from, next_of, next_in, next_on}
use Rattle.iterate.specs.Range.{range_of, range_in, range_on}

-- whether something was refused, and with which number
abbrev pub whether : {A : Type 0} → Checked A → Checked (Unit {0})
whether x = either refused (λ z. good tt) x

abbrev pub refusal_of : Step → Checked (Unit {0})
refusal_of (answer x c) = whether x
refusal_of (end c) = good tt

of-answer : (x : Checked Function) (c : Cursor) → Behind x → Behind (refusal_of (answer x c))
of-answer (good f) c h = refl
of-answer (refused k) c h = h

module _ (s : List ℕ) (l : Lists) where
  of-page : (p i : ℕ) (x : Checked Page) (later : Step) → Behind x → Behind (refusal_of later) → Behind (refusal_of (in_page s l p i x later))
  unfolding in_page
  of-page p i (good pg) later h t = by (ltb i pg.functions_len)
    where
      by : (b : Bool) → Behind (refusal_of (cond b (answer (function_at s l p pg i) (cursor p (i + 1))) later))
      by true = of-answer (function_at s l p pg i) (cursor p (i + 1)) (of-function-at s l p pg i)
      by false = t
  of-page p i (refused k) later h t = h

  of-pages : (left p i : ℕ) → Behind (refusal_of (next_from s l left p i))
  unfolding next_from
  of-pages zero p i = refl
  of-pages (suc left) p i = of-page p i _ _ (of-opened-at s l p) (of-pages left (p + 1) 0)

  pub of-next : (c : Cursor) → Behind (refusal_of (next_of s l c))
  unfolding next_of
  of-next c = of-pages _ _ _

module _ (s : List ℕ) where
  pub exactly-version : (c : Cursor) → (refusal_of (next_on s c) ≡ refused 15) ↔ ((28 ≤ length s) × (version_of s ≡ 1 → ⊥))
  unfolding next_on
  exactly-version c = exactly-15 (λ k. answer (refused k) c) (λ m. next_of s m c) refusal_of (λ k. refl) (λ m. of-next s m c) s

  -- the cursor is handed back
  pub other-version : (c : Cursor) → 28 ≤ length s → (version_of s ≡ 1 → ⊥) → next_on s c ≡ answer (refused 15) c
  unfolding next_on
  other-version c = only-15 s (λ k. answer (refused k) c) (λ m. next_of s m c)

  pub never-in : (l : Lists) (c : Cursor) → refusal_of (next_in s l c) ≡ refused 15 → ⊥
  unfolding next_in
  never-in l c = never-15-in (λ k. answer (refused k) c) (λ m. next_of s m c) refusal_of (λ k. refl) (λ m. of-next s m c) s l

  pub range-exactly-version : (whether (range_on s) ≡ refused 15) ↔ ((28 ≤ length s) × (version_of s ≡ 1 → ⊥))
  unfolding range_on
  range-exactly-version = exactly-15 {B = Checked Range} refused (λ m. good (range_of s m)) whether (λ k. refl) (λ m. refl) s

  pub range-never-in : (l : Lists) → whether (range_in s l) ≡ refused 15 → ⊥
  unfolding range_in
  range-never-in l = never-15-in {B = Checked Range} refused (λ m. good (range_of s m)) whether (λ k. refl) (λ m. refl) s l
