-- docs/FORMAT.md, 9.5 and 9.6: frames where the return address comes in a register, at place lr. With a frame pointer, and registers stored
-- downwards below it; or with the stack pointer lowered and nothing stored. Over the slot's width w.
-- Assumes nothing.
use Rattle.std.specs.Prelude.{ℕ, ◌+◌, ◌-◌, ◌*◌, List, [], ◌∷◌, cond, ltb, length, get_or, set}
use Rattle.frame.specs.Memory.{store}
use Rattle.frame.specs.Frame.{Slot, stack, register, slot, holds, Frame}
use Rattle.frame.specs.Calls.{Machine}
use Rattle.frame.specs.Pushes.{lower}

-- registers one below the other, the first d below CFA
abbrev pub down : ℕ → ℕ → List ℕ → List Slot
down w d [] = []
down w d (x ∷ xs) = record { reg = x; below = d } ∷ down w (d + w) xs

-- the return address next to CFA, then the frame pointer, then the listed registers
abbrev pub saved : ℕ → ℕ → ℕ → List ℕ → List Slot
saved w fp lr xs = down w w (lr ∷ fp ∷ xs)

abbrev pub frame_based : ℕ → ℕ → ℕ → List ℕ → Frame
frame_based w fp lr xs = record { anchor = register fp; distance = w + w; return = slot w; saved = saved w fp lr xs }

-- how many of the registers xs stand before place x
abbrev pub before : ℕ → List ℕ → ℕ
before x [] = 0
before x (y ∷ ys) = cond (ltb y x) 1 0 + before x ys

-- The registers ys stored, xs being all that are: each in a slot of its own, which its number tells, in whatever order they come. The lowest
-- register's slot starts 3w below CFA, and every other's a slot lower for each register of xs with a lower number.
abbrev pub store_each : ℕ → ℕ → ℕ → List ℕ → List ℕ → List ℕ → List ℕ → List ℕ
store_each w base cfa kept xs [] m = m
store_each w base cfa kept xs (y ∷ ys) m = store_each w base cfa kept xs ys (store w (cfa - (3 * w + w * before y xs) - base) (get_or kept y 0) m)

-- The return address is stored at CFA - w and the frame pointer at CFA - 2w, where it then points; the listed registers are stored below, and
-- the stack pointer is lowered by as much as was stored. At entry it is CFA.
abbrev pub prologue : ℕ → ℕ → ℕ → ℕ → List ℕ → Machine → Machine
prologue w base fp lr xs mc =
    let cfa : ℕ = mc.regs.sp in
    let kept : List ℕ = mc.regs.kept in
    let linked : List ℕ = store w (cfa - w - base) (get_or kept lr 0) mc.mem in
    record {
      regs = record { pc = mc.regs.pc; sp = cfa - w * (2 + length xs); kept = set kept fp (cfa - 2 * w) };
      mem = store_each w base cfa kept xs xs (store w (cfa - 2 * w - base) (get_or kept fp 0) linked);
    }

abbrev pub frameless : ℕ → ℕ → Frame
frameless lr size = record { anchor = stack; distance = size; return = holds lr; saved = [] }

abbrev pub lowered : ℕ → Machine → Machine
lowered size mc = lower (mc.regs.sp - size) mc
