-- docs/FORMAT.md, 9.3: a frame without a frame pointer; registers pushed, then the stack pointer lowered. Over the slot's width w.
-- Assumes nothing.
use Rattle.std.specs.Prelude.{ℕ, pred, ◌+◌, ◌-◌, ◌≤◌, ◌<◌, List, [], ◌∷◌, get_or}
use Rattle.frame.specs.Memory.{store}
use Rattle.frame.specs.Frame.{Slot, stack, slot, Frame}
use Rattle.frame.specs.Calls.{Machine}

-- a push of the register at place k: the stack pointer falls by a slot, and the register is stored there
abbrev pub push : ℕ → ℕ → ℕ → Machine → Machine
push w base k mc =
    record {
      regs = record { pc = mc.regs.pc; sp = mc.regs.sp - w; kept = mc.regs.kept };
      mem = store w (mc.regs.sp - w - base) (get_or mc.regs.kept k 0) mc.mem;
    }

-- The listed registers pushed, last first. Their numbers go from 1 on, their places from 0.
abbrev pub push_all : ℕ → ℕ → List ℕ → Machine → Machine
push_all w base [] mc = mc
push_all w base (x ∷ xs) mc = push w base (pred x) (push_all w base xs mc)

abbrev pub lower : ℕ → Machine → Machine
lower to mc = record { regs = record { pc = mc.regs.pc; sp = to; kept = mc.regs.kept }; mem = mc.mem }

-- The prologue: the pushes, and the stack pointer lowered to CFA - size. At entry it is CFA - w.
abbrev pub prologue : ℕ → ℕ → ℕ → List ℕ → Machine → Machine
prologue w base size xs mc = lower (mc.regs.sp + w - size) (push_all w base xs mc)

-- the bytes below CFA that the return address and the pushes take
abbrev pub deep : ℕ → List ℕ → ℕ
deep w [] = w
deep w (x ∷ xs) = deep w xs + w

-- where the pushes lie: the last of the list next to the return address
abbrev pub pushed : ℕ → List ℕ → List Slot
pushed w [] = []
pushed w (x ∷ xs) = record { reg = pred x; below = deep w xs + w } ∷ pushed w xs

abbrev pub frameless : ℕ → ℕ → List ℕ → Frame
frameless w size xs = record { anchor = stack; distance = size; return = slot w; saved = pushed w xs }

-- the numbers name registers among n
abbrev pub Named : ℕ → List ℕ → Type 0
Named n [] = Unit {0}
Named n (x ∷ xs) = (0 < x) × (x ≤ n) × Named n xs
