-- docs/FORMAT.md, 5.4: iteration by blocks, the answers of the calls from a cursor on, one after the other, into a lent list of numbers.
-- Assumes nothing.
use Rattle.std.specs.Prelude.{ℕ, zero, suc, ◌*◌, ◌/◌, List, [], ◌∷◌, ◌++◌, map, length, drop}
use Rattle.raw.specs.declared.Lists.{Lists}
use Rattle.raw.specs.Checked.{Checked, good, refused, either, number_of}
use Rattle.raw.specs.Raw.{parse_of, grant_of}
use Rattle.raw.specs.Section.{Standing}
use Rattle.entries.specs.declared.Function.{Function}
use Rattle.iterate.specs.declared.Cursor.{Cursor}
use Rattle.iterate.specs.Iterate.{Step, answer, end, next_of}
use Rattle.fill.specs.declared.Filled.{Filled}
use Rattle.fill.specs.declared.Stop.{Stop}

-- why no more is written: there is no room for another function, the iteration is at its end, or a call was refused
pub data Why : Type 0 where
  full : Why
  ended : Why
  refusal : ℕ → Why

-- the functions that the calls answer, the cursor for the next call, and why they stop
pub record Taken : Type 0 where
  pub written : List Function
  pub next : Cursor
  pub why : Why

-- first those, then the others
abbrev pub after : List Function → Taken → Taken
after fs t = record { written = fs ++ t.written; next = t.next; why = t.why }

abbrev pub stopping : Cursor → Why → Taken
stopping c w = record { written = []; next = c; why = w }

-- a call's answer, and what those after it give
abbrev pub by_step : Step → (Cursor → Taken) → Taken
by_step (answer (good f) d) later = after (f ∷ []) (later d)
by_step (answer (refused k) d) later = stopping d (refusal k)
by_step (end d) later = stopping d ended

-- room for so many functions, which is tested before the call
unfoldable pub taken_of : List ℕ → Lists → ℕ → Cursor → Taken
taken_of s l zero c = stopping c full
taken_of s l (suc room) c =
    let later = taken_of s l room in
    by_step (next_of s l c) later

-- what a block answers: its functions, and its refusal where it stops at one
abbrev pub refusal_in : Why → List (Checked Function)
refusal_in full = []
refusal_in ended = []
refusal_in (refusal k) = refused k ∷ []

abbrev pub answers_in : Taken → List (Checked Function)
answers_in t = map good t.written ++ refusal_in t.why

-- each function is three numbers
unfoldable pub numbers_of : List Function → List ℕ
numbers_of [] = []
numbers_of (f ∷ fs) = f.start_address ∷ f.end_address ∷ f.opcode ∷ numbers_of fs

-- the list once they are written: what lies after them stays
unfoldable pub written_over : List Function → List ℕ → List ℕ
written_over fs out = numbers_of fs ++ drop (3 * length fs) out

-- the answer with the list's content
pub record Outcome : Type 0 where
  pub functions : ℕ
  pub next : Cursor
  pub why : Why
  pub list : List ℕ

abbrev pub outcome : Taken → List ℕ → Outcome
outcome t out = record { functions = length t.written; next = t.next; why = t.why; list = written_over t.written out }

unfoldable pub fill_of : List ℕ → Lists → Cursor → List ℕ → Outcome
fill_of s l c out = outcome (taken_of s l (length out / 3) c) out

-- over the bytes with the lists' places, granted anew, and over the bytes alone; refused lists leave the cursor and the list as they were
abbrev pub untouched : Cursor → List ℕ → ℕ → Outcome
untouched c out k = record { functions = 0; next = c; why = refusal k; list = out }

unfoldable pub fill_in : List ℕ → Lists → Cursor → List ℕ → Outcome
fill_in s l c out = either (untouched c out) (λ m. fill_of s m c out) (grant_of s l)

unfoldable pub fill_on : List ℕ → Cursor → List ℕ → Outcome
fill_on s c out = either (untouched c out) (λ m. fill_of s m c out) (parse_of s)

-- for the helpers: over a section, or what refused it
abbrev pub filled_on : Checked Standing → Cursor → List ℕ → Outcome
filled_on x c out = either (untouched c out) (λ z. fill_of z.bytes.bytes z.lists c out) x

abbrev pub why_of : Stop → Why
why_of Stop.Full = full
why_of Stop.End = ended
why_of (Stop.Refused e) = refusal (number_of e)

abbrev pub filled : ℕ → ℕ → ℕ → Stop → Filled
filled n page index stop = record { functions = n; next = record { page = page; index = index }; stop = stop }

abbrev pub filled_told : Filled → List ℕ → Outcome
filled_told r list = record { functions = r.functions; next = r.next; why = why_of r.stop; list = list }
