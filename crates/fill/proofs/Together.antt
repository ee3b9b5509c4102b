-- Blocks one after the other answer what the cursor's calls answer, refusals in their places.
-- Assumes nothing.
use Prim.Native.Nat.{ℕ, zero, suc, ◌≤◌, ◌<◌, zero-le}
use mathlib.Core.Path.{◌≡◌, refl}
use mathlib.Core.List.{List, [], ◌∷◌, ◌++◌}
use native.Mathlib.Omega.{arith}
use lib.ListN.{length}
use Rattle.raw.specs.declared.Lists.{Lists}
use Rattle.raw.specs.Checked.{Checked, good, refused}
use Rattle.entries.specs.declared.Function.{Function}
use Rattle.iterate.specs.declared.Cursor.{Cursor}
use Rattle.iterate.specs.Iterate.{cursor, Step, answer, end, next_of, Iterates, ends, answers, iterated}
use Rattle.iterate.proofs.Iteration.{iterates, one_list}
use Rattle.iterate.proofs.Left.{left_of, fewer}
use Rattle.fill.specs.Fill.{Why, full, ended, refusal, by_step, taken_of, answers_in}
use Rattle.fill.proofs.Left.{strictly}

-- blocks from a cursor on, each with any room, until one says that it is the end
pub data Blocks (s : List ℕ) (l : Lists) : Cursor → List (Checked Function) → Type 0 where
  last : {c : Cursor} (room : ℕ) → (taken_of s l room c).why ≡ ended → Blocks s l c (answers_in (taken_of s l room c))
  more : {c : Cursor} {r : List (Checked Function)} (room : ℕ) → ((taken_of s l room c).why ≡ ended → ⊥) → Blocks s l (taken_of s l room c).next r
      → Blocks s l c (answers_in (taken_of s l room c) ++ r)

module _ (s : List ℕ) (l : Lists) where
  -- a block that is not the last, and what the calls after it answer
  then-step : (room : ℕ) (c : Cursor) (r : List (Checked Function)) (x : Step) → next_of s l c ≡ x → ((by_step x (taken_of s l room)).why ≡ ended → ⊥)
      → Iterates s l (by_step x (taken_of s l room)).next r
      → ((d : Cursor) → ((taken_of s l room d).why ≡ ended → ⊥) → Iterates s l (taken_of s l room d).next r → Iterates s l d (answers_in (taken_of s l room d) ++ r))
      → Iterates s l c (answers_in (by_step x (taken_of s l room)) ++ r)
  then-step room c r (answer (good f) d) e h i later = answers e (later d h i)
  then-step room c r (answer (refused k) d) e h i later = answers e i
  then-step room c r (end d) e h i later = absurd (h refl)

  pub block-then : (room : ℕ) (c : Cursor) (r : List (Checked Function)) → ((taken_of s l room c).why ≡ ended → ⊥) → Iterates s l (taken_of s l room c).next r
      → Iterates s l c (answers_in (taken_of s l room c) ++ r)
  unfolding taken_of
  block-then zero c r h i = i
  block-then (suc room) c r h i = then-step room c r (next_of s l c) refl h i (λ d. block-then room d r)

  -- the last one
  last_step : (room : ℕ) (c : Cursor) (x : Step) → next_of s l c ≡ x → (by_step x (taken_of s l room)).why ≡ ended
      → ((d : Cursor) → (taken_of s l room d).why ≡ ended → Iterates s l d (answers_in (taken_of s l room d))) → Iterates s l c (answers_in (by_step x (taken_of s l room)))
  last_step room c (answer (good f) d) e h later = answers e (later d h)
  last_step room c (answer (refused k) d) e h later = absurd (let z : ◌≡◌ {A = ℕ} 0 1 = cc in omega arith)
  last_step room c (end d) e h later = ends e

  pub last_block : (room : ℕ) (c : Cursor) → (taken_of s l room c).why ≡ ended → Iterates s l c (answers_in (taken_of s l room c))
  unfolding taken_of
  last_block zero c h = absurd (let z : ◌≡◌ {A = ℕ} 0 1 = cc in omega arith)
  last_block (suc room) c h = last_step room c (next_of s l c) refl h (last_block room)

  -- put together, blocks are what the calls answer
  pub together : {c : Cursor} {r : List (Checked Function)} → Blocks s l c r → Iterates s l c r
  together (last {c = c} room e) = last_block room c e
  together (more {c = c} {r = r} room h b) = block-then room c r h (together b)

  -- and from the first cursor, what is iterated
  pub blocks-iterate : {r : List (Checked Function)} → Blocks s l (cursor 0 0) r → r ≡ iterated s l
  blocks-iterate b = one_list s l (together b) (iterates s l)

  -- and blocks do come to the end, where each has room for a function
  by-why : (room n : ℕ) (c : Cursor) (w : Why) → (taken_of s l room c).why ≡ w → 0 < room → left_of s l c < suc n
      → ((d : Cursor) → left_of s l d < n → (r : List (Checked Function)) × Blocks s l d r) → (r : List (Checked Function)) × Blocks s l c r
  by-why room n c ended e h t later = (_, last room e)
  by-why room n c full e h t later =
      let on : (taken_of s l room c).why ≡ ended → ⊥ = λ q. (let z : ◌≡◌ {A = ℕ} 0 1 = cc in omega arith) in
      let r = later (taken_of s l room c).next (omega (arith, strictly s l room c h on)) in
      (_, more room on r.1)
  by-why room n c (refusal k) e h t later =
      let on : (taken_of s l room c).why ≡ ended → ⊥ = λ q. (let z : ◌≡◌ {A = ℕ} 0 1 = cc in omega arith) in
      let r = later (taken_of s l room c).next (omega (arith, strictly s l room c h on)) in
      (_, more room on r.1)

  in_blocks : (room n : ℕ) (c : Cursor) → 0 < room → left_of s l c < n → (r : List (Checked Function)) × Blocks s l c r
  in_blocks room zero c h t = absurd (omega arith)
  in_blocks room (suc n) c h t = by-why room n c (taken_of s l room c).why refl h t (λ d. in_blocks room n d h)

  pub blocks_end : (room : ℕ) (c : Cursor) → 0 < room → (r : List (Checked Function)) × Blocks s l c r
  blocks_end room c h = in_blocks room (suc (left_of s l c)) c h (omega arith)

  -- what the calls from a cursor on answer: there is such a list, of no more answers than are left
  by_call : (n : ℕ) (c : Cursor) (x : Step) → next_of s l c ≡ x → left_of s l c < suc n
      → ((d : Cursor) → left_of s l d < n → (r : List (Checked Function)) × Iterates s l d r) → (r : List (Checked Function)) × Iterates s l c r
  by_call n c (answer a d) e h later =
      let r = later d (omega (arith, fewer s l c a d e)) in
      (a ∷ r.0, answers e r.1)
  by_call n c (end d) e h later = ([], ends e)

  calls : (n : ℕ) (c : Cursor) → left_of s l c < n → (r : List (Checked Function)) × Iterates s l c r
  calls zero c h = absurd (omega arith)
  calls (suc n) c h = by_call n c (next_of s l c) refl h (calls n)

  till-the-end : (c : Cursor) → (r : List (Checked Function)) × Iterates s l c r
  till-the-end c = calls (suc (left_of s l c)) c (omega arith)

  pub answers_from : Cursor → List (Checked Function)
  answers_from c = (till-the-end c).0

  pub calls-answer : (c : Cursor) → Iterates s l c (answers_from c)
  unfolding answers_from
  calls-answer c = (till-the-end c).1

  pub from-the-first : answers_from (cursor 0 0) ≡ iterated s l
  from-the-first = one_list s l (calls-answer (cursor 0 0)) (iterates s l)

  pub no-more-than-left : {c : Cursor} {r : List (Checked Function)} → Iterates s l c r → length r ≤ left_of s l c
  no-more-than-left (ends e) = zero-le
  no-more-than-left (answers {c = c} {d = d} {a = a} e i) = omega (arith, fewer s l c a d e, no-more-than-left i)

  -- a block's answers, and then those that are left
  pub front-block : (room : ℕ) (c : Cursor) → ((taken_of s l room c).why ≡ ended → ⊥)
      → answers_from c ≡ answers_in (taken_of s l room c) ++ answers_from (taken_of s l room c).next
  front-block room c h = one_list s l (calls-answer c) (block-then room c _ h (calls-answer (taken_of s l room c).next))

  pub whole-block : (room : ℕ) (c : Cursor) → (taken_of s l room c).why ≡ ended → answers_from c ≡ answers_in (taken_of s l room c)
  whole-block room c h = one_list s l (calls-answer c) (last_block room c h)
