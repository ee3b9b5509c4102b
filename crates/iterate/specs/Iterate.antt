-- docs/FORMAT.md, 5.1 to 5.3: iteration, what a call tells at a cursor, and what the calls from the first cursor tell until the end.
-- Assumes nothing.
use Rattle.std.specs.Prelude.{ℕ, zero, suc, ◌+◌, ◌-◌, ◌≡◌, List, [], ◌∷◌, ◌++◌, cond, ltb, Option, Some, None}
use Rattle.raw.specs.declared.Lists.{Lists}
use Rattle.raw.specs.declared.Page.{Page}
use Rattle.raw.specs.Checked.{Checked, good, refused, either, told}
use Rattle.raw.specs.Raw.{parse_of, grant_of}
use Rattle.raw.specs.Section.{Standing}
use Rattle.entries.specs.declared.Function.{Function}
use Rattle.entries.specs.Section.{opened_at, function_at}
use Rattle.iterate.specs.declared.Cursor.{Cursor}
use Rattle.iterate.specs.declared.Next.{Next}

abbrev pub cursor : ℕ → ℕ → Cursor
cursor p i = record { page = p; index = i }

-- a call answers a function or a refusal, or says that it is the end; each with the cursor for the next call
pub data Step : Type 0 where
  answer : Checked Function → Cursor → Step
  end : Cursor → Step

abbrev pub stepped : Cursor → Checked (Option Function) → Step
stepped c (good (Some f)) = answer (good f) c
stepped c (good None) = end c
stepped c (refused k) = answer (refused k) c

abbrev pub next_told : Next → Step
next_told n = stepped n.next (told n.function)

-- 5.3: the last page's number, 0 if there are no pages, and index 0
abbrev pub end_cursor : Lists → Cursor
end_cursor l = cursor (l.pages_len - 1) 0

-- 5.2 and 5.3: index i of page p, which was opened; `later` is what the pages after it tell
unfoldable pub in_page : List ℕ → Lists → ℕ → ℕ → Checked Page → Step → Step
in_page s l p i (good pg) later = cond (ltb i pg.functions_len) (answer (function_at s l p pg i) (cursor p (i + 1))) later
in_page s l p i (refused k) later = answer (refused k) (cursor (p + 1) 0)

-- from index i of page p on, where so many pages are left before the last
unfoldable pub next_from : List ℕ → Lists → ℕ → ℕ → ℕ → Step
next_from s l zero p i = end (end_cursor l)
next_from s l (suc left) p i =
    let later = next_from s l left (p + 1) 0 in
    in_page s l p i (opened_at s l p) later

unfoldable pub next_of : List ℕ → Lists → Cursor → Step
next_of s l c = next_from s l (l.pages_len - 1 - c.page) c.page c.index

-- over the bytes with the lists' places, granted anew, and over the bytes alone; refused lists leave the cursor where it was
unfoldable pub next_in : List ℕ → Lists → Cursor → Step
next_in s l c = either (λ k. answer (refused k) c) (λ m. next_of s m c) (grant_of s l)

unfoldable pub next_on : List ℕ → Cursor → Step
next_on s c = either (λ k. answer (refused k) c) (λ m. next_of s m c) (parse_of s)

-- for the helpers: the call over a section, or what refused it
abbrev pub called_on : Checked Standing → Cursor → Step
called_on x c = either (λ k. answer (refused k) c) (λ z. next_of z.bytes.bytes z.lists c) x

-- the calls from a cursor until the end answer these
pub data Iterates (s : List ℕ) (l : Lists) : Cursor → List (Checked Function) → Type 0 where
  ends : {c d : Cursor} → next_of s l c ≡ end d → Iterates s l c []
  answers : {c d : Cursor} {a : Checked Function} {rest : List (Checked Function)} → next_of s l c ≡ answer a d → Iterates s l d rest → Iterates s l c (a ∷ rest)

-- the answers page after page: a page's functions, so many from i on; or its refusal
unfoldable pub functions_from : List ℕ → Lists → ℕ → Page → ℕ → ℕ → List (Checked Function)
functions_from s l p pg zero i = []
functions_from s l p pg (suc k) i = function_at s l p pg i ∷ functions_from s l p pg k (i + 1)

unfoldable pub in_pages : List ℕ → Lists → ℕ → Checked Page → List (Checked Function)
in_pages s l p (good pg) = functions_from s l p pg pg.functions_len 0
in_pages s l p (refused k) = refused k ∷ []

unfoldable pub pages_from : List ℕ → Lists → ℕ → ℕ → List (Checked Function)
pages_from s l zero p = []
pages_from s l (suc left) p = in_pages s l p (opened_at s l p) ++ pages_from s l left (p + 1)

unfoldable pub iterated : List ℕ → Lists → List (Checked Function)
iterated s l = pages_from s l (l.pages_len - 1) 0
