-- A small section for each refusal 1 to 15, S with some bytes changed or cut off: what iteration and lookup tell of it, by computation. Where two
-- faults meet, the order of checks of docs/FORMAT.md, 4.2 and 5.2, is seen: 1 before 15 before 2 before 3, 7 before 8, 9 before 10 before 11, 12 before 11, 13 before
-- 11 and 14, 11 before 14.
-- Assumes nothing.
use Prim.Native.Nat.{ℕ, ◌+◌}
use mathlib.Core.Path.{◌≡◌, refl}
use mathlib.Core.Bool.{true, false}
use mathlib.Core.List.{List, [], ◌∷◌, ◌++◌, map}
use lib.ListN.{length, take, drop}
use Rattle.raw.specs.Checked.{Checked, good, refused}
use Rattle.entries.specs.declared.Origin.{Origin}
use Rattle.iterate.specs.declared.Range.{Range}
use Rattle.iterate.specs.Iterate.{Step, cursor, answer, end}
use Rattle.lookup.specs.Lookup.{found, nothing, refusal}
use Rattle.well_formed.proofs.Questions.{◌⇒◌, Row, row, answered}
use Rattle.well_formed.proofs.Examples.{S, from, first, ranging}

-- these bytes at an offset of the section
abbrev put : ℕ → List ℕ → List ℕ → List ℕ
put at bytes s = take at s ++ bytes ++ drop (at + length bytes) s

-- S so high that its second function starts at 2 ^ 32
abbrev high : List ℕ
high = put 32 (0xc0 ∷ 0xff ∷ 0xff ∷ 0xff ∷ []) (put 44 (0xff ∷ 0xff ∷ 0xff ∷ 0xff ∷ []) S)

-- the refusal of a page, or of function i of it, of the first page
abbrev page : ℕ → Step
page k = answer (refused k) (cursor 1 0)

abbrev function : ℕ → ℕ → Step
function k i = answer (refused k) (cursor 0 (i + 1))

abbrev its : Checked Range
its = ranging 0x1000 0x1100

-- what does not parse: whatever is asked, the number is told, without a probe, and the cursor stays where it was
abbrev unparsed : ℕ → List ℕ → Row
unparsed k s = row s false (refused k) ((cursor 5 7 ⇒ answer (refused k) (cursor 5 7)) ∷ []) ((0x1000 ⇒ refusal k 0) ∷ [])

-- versions 0, 2, 2 ^ 32 - 1, and 1 as big-endian; 15 before 2
abbrev rows : List Row
rows =
    unparsed 1 (take 27 S)
    ∷ unparsed 1 (take 27 (put 0 (2 ∷ []) S))
    ∷ unparsed 15 (put 0 (0 ∷ []) S)
    ∷ unparsed 15 (put 0 (2 ∷ []) S)
    ∷ unparsed 15 (put 0 (255 ∷ 255 ∷ 255 ∷ 255 ∷ []) S)
    ∷ unparsed 15 (put 0 (0 ∷ 0 ∷ 0 ∷ 1 ∷ []) S)
    ∷ unparsed 15 (put 0 (2 ∷ []) (put 8 (14 ∷ []) S))
    ∷ unparsed 2 (put 8 (14 ∷ []) (put 24 (5 ∷ []) S))
    ∷ unparsed 3 (put 24 (5 ∷ []) S)
    ∷ row (put 36 (77 ∷ []) S) false its ((cursor 0 0 ⇒ page 4) ∷ []) ((0x1000 ⇒ refusal 4 2) ∷ [])
    ∷ row (put 56 (1 ∷ []) S) false its ((cursor 0 0 ⇒ page 5) ∷ []) ((0x1000 ⇒ refusal 5 2) ∷ [])
    ∷ row (put 56 (4 ∷ []) S) false its ((cursor 0 0 ⇒ page 6) ∷ []) ((0x1000 ⇒ refusal 6 2) ∷ [])
    ∷ row (take 63 (put 56 (2 ∷ []) S)) false its ((cursor 0 0 ⇒ page 7) ∷ []) ((0x1000 ⇒ refusal 7 2) ∷ [])
    ∷ row (put 56 (2 ∷ []) S) false its ((cursor 0 0 ⇒ page 8) ∷ []) ((0x1000 ⇒ refusal 8 2) ∷ [])
    ∷ row (take 67 S) false its ((cursor 0 0 ⇒ page 9) ∷ []) ((0x1000 ⇒ refusal 9 2) ∷ [])
    ∷ row (take 75 S) false its ((cursor 0 0 ⇒ page 10) ∷ []) ((0x1000 ⇒ refusal 10 2) ∷ [])
    ∷ row (take 79 S) false its ((cursor 0 0 ⇒ page 11) ∷ (cursor 0 9 ⇒ page 11) ∷ []) ((0x1000 ⇒ found first 4) ∷ (0x1040 ⇒ refusal 11 3) ∷ [])
    ∷ row (put 68 (0x10 ∷ []) S) false its ((cursor 0 0 ⇒ answer (good (from 0 0 Origin.Global 0x1010 0x1040 0x01010001)) (cursor 0 1)) ∷ []) ((0x100f ⇒ refusal 12 4) ∷ [])
    ∷ row (put 62 (0 ∷ []) S) false its ((cursor 0 0 ⇒ end (cursor 1 0)) ∷ []) ((0x1000 ⇒ refusal 12 2) ∷ [])
    ∷ row (take 79 (put 62 (0 ∷ []) S)) false its ((cursor 0 0 ⇒ page 11) ∷ []) ((0x1000 ⇒ refusal 12 2) ∷ [])
    ∷ row high false (ranging 0xffffffc0 0xffffffff) ((cursor 0 0 ⇒ function 13 0) ∷ (cursor 0 1 ⇒ function 13 1) ∷ []) ((0xffffffc0 ⇒ refusal 13 4) ∷ [])
    ∷ row (put 71 (9 ∷ []) high) false (ranging 0xffffffc0 0xffffffff) ((cursor 0 0 ⇒ function 13 0) ∷ []) ((0xffffffc0 ⇒ refusal 13 4) ∷ [])
    ∷ row (take 79 (put 71 (9 ∷ []) high)) false (ranging 0xffffffc0 0xffffffff) ((cursor 0 0 ⇒ page 11) ∷ []) ((0xffffffc0 ⇒ refusal 13 4) ∷ [])
    ∷ row (put 75 (2 ∷ []) S) false its ((cursor 0 1 ⇒ function 14 1) ∷ []) ((0x1000 ⇒ found first 4) ∷ (0x1040 ⇒ refusal 14 3) ∷ [])
    ∷ row (take 79 (put 75 (2 ∷ []) S)) false its ((cursor 0 1 ⇒ page 11) ∷ []) ((0x1040 ⇒ refusal 11 3) ∷ [])
    ∷ row (put 24 (0 ∷ []) S) true (ranging 0 0) ((cursor 0 0 ⇒ end (cursor 0 0)) ∷ (cursor 3 4 ⇒ end (cursor 0 0)) ∷ []) ((0x1000 ⇒ nothing 0) ∷ [])
    ∷ []

pub refusals : map answered rows ≡ rows
unfolding answered
refusals = refl
