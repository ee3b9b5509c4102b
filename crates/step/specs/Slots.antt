-- For the contracts of helpers: what the functions over slots answer (docs/FORMAT.md, 10.2).
-- Assumes nothing.
use Rattle.std.specs.Prelude.{ℕ, zero, suc, ◌+◌, ◌-◌, List, Bool, true, cond, ◌&&◌, leb, Option, Some, None, Result, Ok, Err}
use Rattle.frame.specs.Frame.{inside}
use Rattle.rules.specs.Answers.{numbered, refusal_of}
use Rattle.rules.specs.declared.Refusal.{Refusal}
use Rattle.rules.specs.declared.CfaRegister.{CfaRegister}
use Rattle.step.specs.Steps.{Told, regs_of}
use Rattle.step.specs.declared.window.Landed.{Landed}

abbrev pub anchor_of : CfaRegister → ℕ → ℕ → ℕ
anchor_of CfaRegister.StackPointer sp fp = sp
anchor_of CfaRegister.FramePointer sp fp = fp

abbrev pub address_of : ℕ → ℕ → ℕ → Option ℕ
address_of top a distance = cond (leb (a + distance) top) (Some (a + distance)) None

abbrev pub cfa_of : ℕ → ℕ → ℕ → ℕ → ℕ → Option ℕ
cfa_of top base len anchor distance = cond (leb (base + len) top && leb (anchor + distance) top) (Some (anchor + distance)) None

abbrev pub spot_of : ℕ → ℕ → ℕ → ℕ → ℕ → Option ℕ
spot_of w base len cfa d = cond (inside w base len cfa d) (Some (cfa - d - base)) None

-- a distance 0 has no slot
abbrev pub slot_inside : (ℕ → Bool) → ℕ → Bool
slot_inside f zero = true
slot_inside f (suc d) = f (suc d)

-- the landing, or pc and sp as they were, and the registers loaded in place
abbrev pub landing : Result Landed Refusal → ℕ → ℕ → List ℕ → Told
landing (Ok l) pc sp kept = record { refusal = numbered 0 0; regs = regs_of l.pc l.sp kept }
landing (Err e) pc sp kept = record { refusal = refusal_of e; regs = regs_of pc sp kept }
