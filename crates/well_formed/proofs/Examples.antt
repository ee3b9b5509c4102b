-- Section S of docs/FORMAT.md, 2.8, and a section T whose two pages are a regular and a compressed one: what they tell, by computation.
-- Assumes nothing.
use Prim.Native.Nat.{ℕ, zero, suc, ◌+◌, ◌*◌, ◌/◌, ◌%◌, ◌<◌}
use mathlib.Core.Path.{◌≡◌, refl, ap}
use mathlib.Core.Bool.{Bool, true, false, ◌&&◌}
use mathlib.Core.List.{List, [], ◌∷◌, map}
use native.Mathlib.Omega.{arith}
use borrow.Author.Tests.{ltb-true}
use lib.Dec.{ltb}
use lib.ListN.{get_or}
use Rattle.reader.specs.Reader.{Bytes}
use Rattle.raw.specs.Checked.{Checked, good}
use Rattle.entries.specs.declared.Origin.{Origin}
use Rattle.entries.specs.declared.Function.{Function}
use Rattle.iterate.specs.declared.Range.{Range}
use Rattle.iterate.specs.Iterate.{cursor, answer, end, next_on}
use Rattle.iterate.specs.Range.{range_on}
use Rattle.lookup.specs.Lookup.{found, nothing, lookup_on}
use Rattle.well_formed.specs.WellFormed.{WellFormed}
use Rattle.well_formed.proofs.Checker.{said-yes}
use Rattle.well_formed.proofs.Onward.{goes-on-on}
use Rattle.well_formed.proofs.Tiling.{Tiled, tiled-on}
use Rattle.well_formed.proofs.Questions.{◌⇒◌, Row, row, answered}

abbrev pub S : List ℕ
S =
    1 ∷ 0 ∷ 0 ∷ 0 ∷ 28 ∷ 0 ∷ 0 ∷ 0 ∷ 1 ∷ 0 ∷ 0 ∷ 0 ∷ 32 ∷ 0 ∷ 0 ∷ 0 ∷ 0 ∷ 0 ∷ 0 ∷ 0 ∷ 32 ∷ 0 ∷ 0 ∷ 0 ∷ 2 ∷ 0 ∷ 0 ∷ 0 ∷ 1 ∷ 0 ∷ 1 ∷ 1 ∷ 0 ∷ 16 ∷ 0 ∷ 0 ∷ 56 ∷ 0 ∷ 0 ∷ 0 ∷ 0 ∷ 0 ∷ 0 ∷ 0 ∷ 0 ∷ 17 ∷ 0 ∷ 0 ∷ 0 ∷ 0 ∷ 0 ∷ 0 ∷ 0 ∷ 0 ∷ 0 ∷ 0 ∷ 3 ∷ 0 ∷ 0 ∷ 0 ∷ 12 ∷ 0 ∷ 2 ∷ 0 ∷ 20 ∷ 0 ∷ 1 ∷ 0 ∷ 0 ∷ 0 ∷ 0 ∷ 0 ∷ 64 ∷ 0 ∷ 0 ∷ 1 ∷ 0 ∷ 8 ∷ 3 ∷ 2 ∷ []

-- function i of page p
abbrev pub from : (p i : ℕ) → Origin → (start end opcode : ℕ) → Function
from p i o a b w = record { start_address = a; end_address = b; opcode = w; page = p; index = i; origin = o }

abbrev pub first : Function
first = from 0 0 Origin.Global 0x1000 0x1040 0x01010001

abbrev pub second : Function
second = from 0 1 Origin.Local 0x1040 0x1100 0x02030800

abbrev pub ranging : ℕ → ℕ → Checked Range
ranging a b = good (record { start = a; end = b })

-- numbers as four bytes each, the lowest first; and two halves in one number, the low one first
abbrev words : List ℕ → List ℕ
words [] = []
words (n ∷ ns) = n % 256 ∷ n / 256 % 256 ∷ n / 65536 % 256 ∷ n / 16777216 ∷ words ns

abbrev halves : ℕ → ℕ → ℕ
halves low high = low + 65536 * high

-- No list stands right after what comes before it, the numbers of each header differ, and the last entry names a page that could be read.
-- Header and personality; global opcodes; page entries; the regular page; the compressed page.
abbrev pub T : List ℕ
T =
    words
    (1 ∷ 40 ∷ 2 ∷ 28 ∷ 1 ∷ 52 ∷ 3 ∷ 0xa1 ∷ 0xa2 ∷ 0xa3
    ∷ 0x01010001 ∷ 0x02020800 ∷ 0xb1
    ∷ 0x1000 ∷ 88 ∷ 0xc1 ∷ 0x1100 ∷ 120 ∷ 0xc2 ∷ 0x1200 ∷ 120 ∷ 0xc3
    ∷ 2 ∷ halves 12 2 ∷ 0xd1 ∷ 0x1000 ∷ 0x04000001 ∷ 0x1080 ∷ 0x02001000 ∷ 0xd2
    ∷ 3 ∷ halves 24 3 ∷ halves 16 1 ∷ 0xe1 ∷ 0x02030800 ∷ 0xe2 ∷ 0x01000000 ∷ 0x02000040 ∷ 0x00000080 ∷ [])

-- T's one function with a local opcode
abbrev local : Function
local = from 1 1 Origin.Local 0x1140 0x1180 0x02030800

abbrev pub rows : List Row
rows =
    row S true (ranging 0x1000 0x1100)
    ((cursor 0 0 ⇒ answer (good first) (cursor 0 1))
    ∷ (cursor 0 1 ⇒ answer (good second) (cursor 0 2))
    ∷ (cursor 0 2 ⇒ end (cursor 1 0))
    ∷ [])
    ((0x0fff ⇒ nothing 2)
    ∷ (0x1000 ⇒ found first 4)
    ∷ (0x103f ⇒ found first 4)
    ∷ (0x1040 ⇒ found second 3)
    ∷ (0x1100 ⇒ nothing 1)
    ∷ [])
    ∷ row T true (ranging 0x1000 0x1200)
    ((cursor 0 0 ⇒ answer (good (from 0 0 Origin.Regular 0x1000 0x1080 0x04000001)) (cursor 0 1))
    ∷ (cursor 0 1 ⇒ answer (good (from 0 1 Origin.Regular 0x1080 0x1100 0x02001000)) (cursor 0 2))
    ∷ (cursor 0 2 ⇒ answer (good (from 1 0 Origin.Global 0x1100 0x1140 0x02020800)) (cursor 1 1))
    ∷ (cursor 1 1 ⇒ answer (good local) (cursor 1 2))
    ∷ (cursor 1 2 ⇒ answer (good (from 1 2 Origin.Global 0x1180 0x1200 0x01010001)) (cursor 1 3))
    ∷ (cursor 1 3 ⇒ end (cursor 2 0))
    ∷ (cursor 2 0 ⇒ end (cursor 2 0))
    ∷ (cursor 77 5 ⇒ end (cursor 2 0))
    ∷ [])
    ((0x0fff ⇒ nothing 2)
    ∷ (0x107f ⇒ found (from 0 0 Origin.Regular 0x1000 0x1080 0x04000001) 4)
    ∷ (0x1080 ⇒ found (from 0 1 Origin.Regular 0x1080 0x1100 0x02001000) 3)
    ∷ (0x1100 ⇒ found (from 1 0 Origin.Global 0x1100 0x1140 0x02020800) 4)
    ∷ (0x1140 ⇒ found local 4)
    ∷ (0x11ff ⇒ found (from 1 2 Origin.Global 0x1180 0x1200 0x01010001) 4)
    ∷ (0x1200 ⇒ nothing 2)
    ∷ [])
    ∷ []

pub worked : map answered rows ≡ rows
unfolding answered
worked = refl

formed : ℕ → List Row → Bool
formed n [] = false
formed zero (r ∷ rs) = r.formed
formed (suc n) (r ∷ rs) = formed n rs

pub S-is-well-formed : WellFormed S
unfolding answered formed
S-is-well-formed = said-yes S (ap (formed 0) worked)

pub T-is-well-formed : WellFormed T
unfolding answered formed
T-is-well-formed = said-yes T (ap (formed 1) worked)

-- so what is proved of well-formed sections holds of T
below : List ℕ → Bool
below [] = true
below (b ∷ s) = ltb b 256 && below s

are-bytes : (s : List ℕ) → below s ≡ true → Bytes s
unfolding below
are-bytes [] e i = omega arith
are-bytes (b ∷ s) e i = by (ltb b 256) refl (are-bytes s) e i
  where
    by : (t : Bool) → ltb b 256 ≡ t → (below s ≡ true → Bytes s) → (t && below s) ≡ true → (i : ℕ) → get_or (b ∷ s) i 0 < 256
    by true q go r zero = ltb-true b 256 q
    by true q go r (suc i) = go r i
    by false q go r i = absurd (let z : ◌≡◌ {A = ℕ} 0 1 = cc in omega arith)

pub T-is-tiled : Tiled (range_on T) (next_on T)
unfolding below
T-is-tiled = tiled-on T (are-bytes T refl) T-is-well-formed

-- and one can go on in T from what a lookup found
found-in-T : lookup_on T 0x1140 ≡ found local 4
unfolding answered
found-in-T = refl

pub T-goes-on : next_on T (cursor 1 1) ≡ answer (good local) (cursor 1 2)
T-goes-on = goes-on-on T T-is-well-formed 0x1140 local 4 found-in-T
