-- The listing (docs/FORMAT.md, 12) block after block: what one call writes into the bytes that it is lent, and the place from which the next one goes on.
-- Assumes nothing.
use Rattle.std.specs.Prelude.{ℕ, ◌+◌, ◌-◌, ◌/◌, min, List, [], ◌++◌, map, Bool, true, false, cond, ◌||◌, ltb, length, drop, Result, Ok, Err}
use Rattle.reader.specs.Reader.{slice_told}
use Rattle.raw.specs.declared.section.Section.{Section}
use Rattle.raw.specs.Checked as checked
use Rattle.raw.specs.Checked.{Checked, good, refused, either}
use Rattle.raw.specs.Section.{Standing}
use Rattle.iterate.specs.declared.Cursor.{Cursor}
use Rattle.iterate.specs.Iterate.{cursor}
use Rattle.listing.specs.Listing.{refused_of, end_of}
use Rattle.fill.specs.Fill.{Why, full, ended, refusal, Taken, taken_of}
use Rattle.lister.specs.Lister.{accepted_of, answers_text}
use Rattle.lister.specs.declared.Place.{Place}
use Rattle.lister.specs.declared.Block.{Block}
use Rattle.lister.specs.declared.Refusal.{Refusal}

abbrev pub place_at : Cursor → ℕ → Bool → Place
place_at c n e = record { cursor = c; functions = n; ended = e }

-- before the first block
abbrev pub start : Place
start = place_at (cursor 0 0) 0 false

-- how many bytes a call wrote, the next place, and the whole lent list afterwards
pub record Outcome : Type 0 where
  pub written : ℕ
  pub next : Place
  pub text : List ℕ

-- a text at the front, what lies after it unchanged
abbrev pub put : List ℕ → Place → List ℕ → Outcome
put text next out = record { written = length text; next = next; text = text ++ drop (length text) out }

-- so many functions fit: 27 bytes each, and 25 are kept for the line after them; a call takes 1,024 at most
abbrev pub room_in : List ℕ → ℕ
room_in out = min 1024 ((length out - 25) / 27)

-- as far as 64 bits count
abbrev pub counted : ℕ → ℕ → ℕ
counted n m = min (n + m) 18446744073709551615

-- what stands after a block's functions
abbrev pub stop_text : ℕ → Why → List ℕ
stop_text n full = []
stop_text n ended = end_of n
stop_text n (refusal k) = refused_of k

abbrev pub is_end : Why → Bool
is_end full = false
is_end ended = true
is_end (refusal k) = false

-- a block of functions, n of them before it
unfoldable pub taken_block : ℕ → Taken → List ℕ → Outcome
taken_block n t out =
    let m = counted n (length t.written) in
    put (answers_text (map good t.written) ++ stop_text m t.why) (place_at t.next m (is_end t.why)) out

-- an input that is not listed: its number, and the end
abbrev pub refused_block : Place → List ℕ → ℕ → Outcome
refused_block at out k = put (refused_of k ++ end_of 0) (place_at at.cursor at.functions true) out

-- Nothing is written after the end, nor where a line and the end have no room: 52 bytes.
unfoldable pub block_of : List ℕ → Place → List ℕ → Outcome
block_of s at out =
    cond (at.ended || ltb (length out) 52) (put [] at out)
    (either (refused_block at out) (λ l. taken_block at.functions (taken_of s l (room_in out) at.cursor) out) (accepted_of s))

abbrev pub block_told : Block → List ℕ → Outcome
block_told b text = record { written = b.written; next = b.next; text = text }

-- an input that is too long has a number of its own
abbrev pub number_of : Refusal → ℕ
number_of Refusal.TooLong = 30
number_of (Refusal.Section e) = checked.number_of e

abbrev pub accepted_told : Result Section Refusal → Checked Standing
accepted_told (Ok x) = good (record { bytes = slice_told x.bytes; lists = x.lists })
accepted_told (Err r) = refused (number_of r)
