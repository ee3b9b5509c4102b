-- docs/FORMAT.md, 9.1, 9.5 and 9.6: sound words of arm64, their frames and their prologues, from the bits of the word. Nothing here knows how a
-- word is decoded.
-- Assumes nothing.
use Rattle.std.specs.Prelude.{ℕ, zero, suc, ◌+◌, ◌*◌, ◌<◌, ◌≡◌, ◌⊎◌, List, [], ◌∷◌, ◌++◌, cond, eqb}
use Rattle.opcodes.specs.Bits.{bits, kind_of}
use Rattle.frame.specs.Frame.{Frame, lowest}
use Rattle.frame.specs.Calls.{Machine}
use Rattle.frame.specs.Downwards as downwards
use Rattle.rules.specs.Answers.{Number, numbered}

-- bits 12 to 23 times 16
abbrev pub size_of : ℕ → ℕ
size_of w = 16 * bits 12 12 w

-- the registers of n pairs, bit j saying whether the first is listed and its lower register being at place p
abbrev pub pairs : ℕ → ℕ → ℕ → ℕ → List ℕ
pairs w zero j p = []
pairs w (suc n) j p = cond (eqb (bits j 1 w) 1) (p ∷ suc p ∷ []) [] ++ pairs w n (suc j) (p + 2)

-- 9.5. Bits 0 to 4 are x19/x20 to x27/x28, places 0 to 9; bits 8 to 11 are d8/d9 to d14/d15, places 12 to 19. Places 10 and 11 are x29 and x30.
abbrev pub listed : ℕ → List ℕ
listed w = pairs w 5 0 0 ++ pairs w 4 8 12

-- All frame-based and all frameless words are sound.
pub data Sound (w : ℕ) : Type 0 where
  frame_based : kind_of w ≡ 4 → Sound w
  frameless : kind_of w ≡ 2 → Sound w

-- 10.1. The others, with the number that refuses them and what it carries.
pub data Refused (w : ℕ) : Number → Type 0 where
  null : kind_of w ≡ 0 → Refused w (numbered 20 0)
  dwarf : kind_of w ≡ 3 → Refused w (numbered 21 (bits 0 24 w))
  unrecognised : (kind_of w ≡ 1) ⊎ (4 < kind_of w) → Refused w (numbered 22 (kind_of w))

abbrev pub frame_of : (w : ℕ) → Sound w → Frame
frame_of w (frame_based k) = downwards.frame_based 8 10 11 (listed w)
frame_of w (frameless k) = downwards.frameless 11 (size_of w)

-- At entry sp is CFA, and the return address is in x30. Each listed register has its slot by its own number, whatever their order in the list.
abbrev pub prologue : (w : ℕ) → Sound w → ℕ → Machine → Machine
prologue w (frame_based k) base mc = downwards.prologue 8 base 10 11 (listed w) mc
prologue w (frameless k) base mc = downwards.lowered (size_of w) mc

-- How far below CFA the whole frame goes: to the lowest slot, or frameless to the lowered stack pointer.
abbrev pub extent : (w : ℕ) → Sound w → ℕ
extent w (frame_based k) = lowest (frame_of w (frame_based k)).saved
extent w (frameless k) = size_of w
