-- docs/FORMAT.md, 9.1 and 10.2: a frame, what CFA is counted from, where the return address is and where each saved register lies; and one step
-- over it.
-- Assumes nothing.
use Rattle.std.specs.Prelude.{ℕ, zero, suc, ◌+◌, ◌-◌, ◌^◌, max, List, [], ◌∷◌, Bool, true, cond, ◌&&◌, leb, ltb, length, get_or, set, replicate}
use Rattle.frame.specs.Memory.{load}

-- the program counter, the stack pointer and the preserved registers, by their places
pub record Regs : Type 0 where
  pub pc : ℕ
  pub sp : ℕ
  pub kept : List ℕ

-- a saved register: its place among the preserved ones, and how far below CFA its slot starts
pub record Slot : Type 0 where
  pub reg : ℕ
  pub below : ℕ

-- the register that CFA is counted from: the stack pointer, or a preserved one
pub data Anchor : Type 0 where
  stack : Anchor
  register : ℕ → Anchor

-- where the caller's pc is found: in a slot below CFA, or in a preserved register
pub data Return : Type 0 where
  slot : ℕ → Return
  holds : ℕ → Return

pub record Frame : Type 0 where
  pub anchor : Anchor
  pub distance : ℕ
  pub return : Return
  pub saved : List Slot

abbrev pub anchored : Anchor → Regs → ℕ
anchored stack r = r.sp
anchored (register k) r = get_or r.kept k 0

-- where in the window the saved registers' slots start
abbrev pub slot_places : ℕ → ℕ → List Slot → List ℕ
slot_places base cfa [] = []
slot_places base cfa (s ∷ ss) = (cfa - s.below - base) ∷ slot_places base cfa ss

-- and with them the return address's
abbrev pub places_of : ℕ → ℕ → Return → List Slot → List ℕ
places_of base cfa (slot d) ss = (cfa - d - base) ∷ slot_places base cfa ss
places_of base cfa (holds k) ss = slot_places base cfa ss

abbrev pub places : ℕ → ℕ → Frame → List ℕ
places base cfa f = places_of base cfa f.return f.saved

-- how far below CFA the lowest slot starts
abbrev pub lowest : List Slot → ℕ
lowest [] = 0
lowest (s ∷ ss) = max s.below (lowest ss)

-- the distances below CFA by register, 0 for one that is not saved
abbrev pub distances : List ℕ → List Slot → List ℕ
distances ds [] = ds
distances ds (s ∷ ss) = distances (set ds s.reg s.below) ss

-- those of n registers, none saved before
abbrev pub distances_of : ℕ → List Slot → List ℕ
distances_of n ss = distances (replicate n 0) ss

-- 10.2. The slot d below CFA lies wholly in the window; a place below 0 does not.
abbrev pub inside : ℕ → ℕ → ℕ → ℕ → ℕ → Bool
inside w base len cfa d = leb (base + d) cfa && leb (cfa + w) (base + len + d)

abbrev pub all_inside : (ℕ → Bool) → List ℕ → Bool
all_inside f [] = true
all_inside f (zero ∷ ds) = all_inside f ds
all_inside f (suc d ∷ ds) = f (suc d) && all_inside f ds

-- each saved register loaded, the others as they are
abbrev pub restored : (ℕ → ℕ) → List ℕ → List ℕ → List ℕ
restored f [] ks = ks
restored f (d ∷ ds) [] = []
restored f (zero ∷ ds) (k ∷ ks) = k ∷ restored f ds ks
restored f (suc d ∷ ds) (k ∷ ks) = f (suc d) ∷ restored f ds ks

abbrev pub return_inside : (ℕ → Bool) → Return → Bool
return_inside f (slot d) = f d
return_inside f (holds k) = true

abbrev pub returned : (ℕ → ℕ) → List ℕ → Return → ℕ
returned f kept (slot d) = f d
returned f kept (holds k) = get_or kept k 0

-- the answer: 0 and the caller's registers, or the refusal's number and the registers unchanged
pub record Told : Type 0 where
  pub number : ℕ
  pub regs : Regs

-- the caller's registers, all slots being inside
abbrev pub caller_of : (ℕ → ℕ) → ℕ → Return → List ℕ → Regs → Regs
caller_of f cfa ret ds r = record { pc = returned f r.kept ret; sp = cfa; kept = restored f ds r.kept }

-- One step, by CFA, where the return address is and the distances: 26, then 27.
abbrev pub step_at : ℕ → ℕ → List ℕ → ℕ → Return → List ℕ → Regs → Told
step_at w base mem cfa ret ds r =
    cond (ltb (base + length mem) (256 ^ w) && ltb cfa (256 ^ w))
    (cond (return_inside (inside w base (length mem) cfa) ret && all_inside (inside w base (length mem) cfa) ds)
    (record { number = 0; regs = caller_of (λ (d : ℕ). load w (cfa - d - base) mem) cfa ret ds r })
    (record { number = 27; regs = r }))
    (record { number = 26; regs = r })

-- One step by a frame, on a machine of n preserved registers.
abbrev pub step_of : ℕ → ℕ → ℕ → List ℕ → Frame → Regs → Told
step_of w n base mem f r = step_at w base mem (anchored f.anchor r + f.distance) f.return (distances_of n f.saved) r
