-- docs/FORMAT.md, 9.1 and 9.7: a call until it is interrupted, what holds at a function's entry, and what a body may not change.
-- Assumes nothing.
use Rattle.std.specs.Prelude.{ℕ, ◌+◌, ◌^◌, ◌<◌, ◌≤◌, ◌≡◌, List, [], ◌∷◌, length, get_or}
use Rattle.frame.specs.Memory.{part}
use Rattle.frame.specs.Frame.{Regs, Slot, Frame, anchored}

-- the registers and the window
pub record Machine : Type 0 where
  pub regs : Regs
  pub mem : List ℕ

abbrev pub All : (Slot → Type 0) → List Slot → Type 0
All P [] = Unit {0}
All P (s ∷ ss) = P s × All P ss

abbrev pub Unlisted : List Slot → ℕ → Type 0
Unlisted ss k = All (λ (s : Slot). s.reg ≡ k → ⊥) ss

-- the slots at these places have the same bytes
abbrev pub Keeps : ℕ → List ℕ → List ℕ → List ℕ → Type 0
Keeps w [] m m' = Unit {0}
Keeps w (p ∷ ps) m m' = (part w p m' ≡ part w p m) × Keeps w ps m m'

-- registers that a frame's step takes for the same: the anchor, and the preserved registers that are not listed
pub record Alike (f : Frame) (r r' : Regs) : Type 0 where
  pub anchor : anchored f.anchor r' ≡ anchored f.anchor r
  pub count : length r'.kept ≡ length r.kept
  pub others : (k : ℕ) → Unlisted f.saved k → get_or r'.kept k 0 ≡ get_or r.kept k 0

-- 9.7. What a body may not change: those registers, and the slots at the places ps, the frame's own or those of all open calls.
pub record Body (w : ℕ) (ps : List ℕ) (f : Frame) (r r' : Regs) (m m' : List ℕ) : Type 0 where
  pub regs : Alike f r r'
  pub window : length m' ≡ length m
  pub slots : Keeps w ps m m'

-- 9.1. A machine of n registers of w bytes at a function's entry, and a window that holds the whole frame, which goes down to `extent` below CFA.
pub record Entered (w n base cfa extent : ℕ) (mc : Machine) : Type 0 where
  pub many : length mc.regs.kept ≡ n
  pub words : (k : ℕ) → get_or mc.regs.kept k 0 < 256 ^ w
  pub low : base + extent ≤ cfa
  pub high : cfa ≤ base + length mc.mem
  pub top : base + length mc.mem < 256 ^ w
