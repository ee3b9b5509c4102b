-- docs/FORMAT.md, 10.1 and 11: what rules answer, on every machine; the refusals' numbers and values.
-- Assumes nothing.
use Rattle.std.specs.Prelude.{ℕ, zero, suc, List, Option, Some, None, Result, Ok, Err, get_or}
use Rattle.frame.specs.Frame.{Anchor, Return, Frame, distances_of}
use Rattle.rules.specs.declared.Refusal.{Refusal}

-- a refusal's number and what it carries; 0 and 0 where nothing is refused
pub record Number : Type 0 where
  pub number : ℕ
  pub value : ℕ

abbrev pub numbered : ℕ → ℕ → Number
numbered k v = record { number = k; value = v }

abbrev pub refusal_of : Refusal → Number
refusal_of Refusal.Null = numbered 20 0
refusal_of (Refusal.Dwarf low24) = numbered 21 low24
refusal_of (Refusal.UnrecognizedKind kind) = numbered 22 kind
refusal_of Refusal.InvalidFrameless = numbered 23 0
refusal_of Refusal.NotSound = numbered 24 0
refusal_of Refusal.FramelessIndirect = numbered 25 0
refusal_of Refusal.AboveAddresses = numbered 26 0
refusal_of Refusal.OutsideWindow = numbered 27 0

abbrev pub outcome_of : {A : Type 0} → Result A Refusal → Number
outcome_of (Ok x) = numbered 0 0
outcome_of (Err r) = refusal_of r

-- What a rule tells: where CFA is counted from and how far, where the return address is, and each preserved register's distance below CFA,
-- 0 for one that is not listed; or a refusal, and nothing else.
pub record Ruling : Type 0 where
  pub refusal : Number
  pub anchor : Anchor
  pub distance : ℕ
  pub return : Return
  pub below : List ℕ

-- The rule of a frame, on a machine of n preserved registers.
abbrev pub ruling : ℕ → Frame → Ruling
ruling n f =
    record { refusal = numbered 0 0; anchor = f.anchor; distance = f.distance; return = f.return; below = distances_of n f.saved }

-- What a rule says of one register: that it is absent, or how far below CFA its slot starts.
pub data Saved : Type 0 where
  absent : Saved
  below : ℕ → Saved

abbrev pub saved_by : ℕ → Saved
saved_by zero = absent
saved_by (suc d) = below (suc d)

-- by the distances, of the register at place r
abbrev pub saved_at : List ℕ → ℕ → Saved
saved_at ds r = saved_by (get_or ds r 0)

abbrev pub slot_told : Option ℕ → Saved
slot_told None = absent
slot_told (Some d) = below d
