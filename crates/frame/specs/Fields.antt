-- docs/FORMAT.md, 9.2: a frame with a frame pointer, and fields that name the registers stored below it. Over the slot's width w.
-- Assumes nothing.
use Rattle.std.specs.Prelude.{ℕ, zero, suc, ◌+◌, ◌-◌, List, [], ◌∷◌, get_or, set}
use Rattle.frame.specs.Memory.{store}
use Rattle.frame.specs.Frame.{Slot, register, slot, Frame}
use Rattle.frame.specs.Calls.{Machine}
use Rattle.frame.specs.Pushes.{push}

-- the slots of fields, the first starting `top` below CFA and each next one a slot higher; a field 0 stores nothing
abbrev pub field_slots : ℕ → ℕ → List ℕ → List Slot
field_slots w top [] = []
field_slots w top (zero ∷ fs) = field_slots w (top - w) fs
field_slots w top (suc f ∷ fs) = record { reg = f; below = top } ∷ field_slots w (top - w) fs

-- the frame pointer, at place fp, is saved next to the return address
abbrev pub saved : ℕ → ℕ → ℕ → List ℕ → List Slot
saved w fp offset fs = record { reg = fp; below = w + w } ∷ field_slots w (w + w + offset) fs

abbrev pub frame_based : ℕ → ℕ → ℕ → List ℕ → Frame
frame_based w fp offset fs = record { anchor = register fp; distance = w + w; return = slot w; saved = saved w fp offset fs }

-- the stack pointer copied to the frame pointer
abbrev pub copied : ℕ → Machine → Machine
copied fp mc = record { regs = record { pc = mc.regs.pc; sp = mc.regs.sp; kept = set mc.regs.kept fp mc.regs.sp }; mem = mc.mem }

-- The fields stored: each that is not 0 at CFA - low + up, where up grows by a slot from field to field.
abbrev pub store_fields : ℕ → ℕ → ℕ → ℕ → ℕ → List ℕ → List ℕ → List ℕ → List ℕ
store_fields w base cfa low up kept [] m = m
store_fields w base cfa low up kept (zero ∷ fs) m = store_fields w base cfa low (up + w) kept fs m
store_fields w base cfa low up kept (suc f ∷ fs) m = store_fields w base cfa low (up + w) kept fs (store w (cfa + up - low - base) (get_or kept f 0) m)

-- Push the frame pointer, copy the stack pointer to it, store the fields, the first 2w + offset below CFA. At entry the stack pointer is CFA - w.
abbrev pub prologue : ℕ → ℕ → ℕ → ℕ → List ℕ → Machine → Machine
prologue w base fp offset fs mc =
    let set-up : Machine = copied fp (push w base fp mc) in
    record { regs = set-up.regs; mem = store_fields w base (mc.regs.sp + w) (w + w + offset) 0 set-up.regs.kept fs set-up.mem }
