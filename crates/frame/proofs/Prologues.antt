-- What a prologue leaves, said of any frame: in these terms it is shown that a prologue has run and that a step undoes it.
-- Assumes nothing.
use Prim.Native.Nat.{ℕ, ◌+◌, ◌-◌, ◌^◌, ◌<◌, ◌≤◌}
use mathlib.Core.Path.{◌≡◌}
use mathlib.Core.Logic.{◌⊎◌}
use mathlib.Core.List.{List, [], ◌∷◌}
use lib.ListN.{length, get_or}
use Rattle.frame.specs.Memory.{bytes, part, load, store}
use Rattle.frame.specs.Frame.{Regs, Slot, Return, slot, holds, Frame, anchored}
use Rattle.frame.specs.Calls.{All, Unlisted}

-- n bytes at i lie apart from w bytes at j
abbrev pub Apart : ℕ → ℕ → ℕ → ℕ → Type 0
Apart n i w j = (i + n ≤ j) ⊎ (j + w ≤ i)

-- the slots lie apart from one another
abbrev pub Spread : ℕ → List Slot → Type 0
Spread w [] = Unit {0}
Spread w (s ∷ ss) = All (λ (t : Slot). Apart w s.below w t.below) ss × Spread w ss

-- a slot lies below CFA and in the window, and its register is one of n
pub record Held (w base cfa n : ℕ) (s : Slot) : Type 0 where
  pub low : w ≤ s.below
  pub high : base + s.below ≤ cfa
  pub known : s.reg < n

-- each saved register's value stored into its slot
abbrev pub stores : ℕ → ℕ → ℕ → List ℕ → List Slot → List ℕ → List ℕ
stores w base cfa kept [] m = m
stores w base cfa kept (s ∷ ss) m = stores w base cfa kept ss (store w (cfa - s.below - base) (get_or kept s.reg 0) m)

-- where the caller's pc is after the prologue
abbrev pub ReturnIs : ℕ → ℕ → ℕ → List Slot → ℕ → Regs → List ℕ → Return → Type 0
ReturnIs w base cfa ss pc r m (slot d) = (w ≤ d) × (base + d ≤ cfa) × (load w (cfa - d - base) m ≡ pc)
ReturnIs w base cfa ss pc r m (holds k) = Unlisted ss k × (get_or r.kept k 0 ≡ pc)

-- What a prologue leaves in the registers r and the window m, where the window was m₀ at the call and the function was entered with the
-- registers e by a caller at pc.
pub record Ran (w base cfa : ℕ) (f : Frame) (e : Regs) (m₀ : List ℕ) (pc : ℕ) (r : Regs) (m : List ℕ) : Type 0 where
  pub at : anchored f.anchor r + f.distance ≡ cfa
  pub bounded : base + length m < 256 ^ w
  pub whole : cfa ≤ base + length m
  pub held : All (Held w base cfa (length e.kept)) f.saved
  pub slots : All (λ (s : Slot). part w (cfa - s.below - base) m ≡ bytes w (get_or e.kept s.reg 0)) f.saved
  pub return : ReturnIs w base cfa f.saved pc r m f.return
  pub long : length r.kept ≡ length e.kept
  pub others : (k : ℕ) → Unlisted f.saved k → get_or r.kept k 0 ≡ get_or e.kept k 0
  -- the window stays as it was at and above CFA
  pub window : length m ≡ length m₀
  pub above : (p : ℕ) → cfa ≤ base + p → part w p m ≡ part w p m₀
