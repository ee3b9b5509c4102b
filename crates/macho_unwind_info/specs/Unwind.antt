-- docs/FORMAT.md, 10.3 and 10.4: the combined call, on every machine; an address is looked up, then one frame undone.
-- Assumes nothing.
use Rattle.std.specs.Prelude.{ℕ, Result, Ok, Err}
use Rattle.raw.specs.Checked.{number_of}
use Rattle.lookup.specs.Lookup.{Looked, found, nothing, refusal}
use Rattle.frame.specs.Frame.{Regs}
use Rattle.rules.specs.Answers.{Number, numbered, refusal_of}
use Rattle.step.specs.Steps.{Told}
use Rattle.macho_unwind_info.specs.declared.UnwindError.{UnwindError}
use Rattle.macho_unwind_info.specs.declared.Unwound as declared

-- an error's number and what it carries
abbrev pub error_of : UnwindError → Number
error_of (UnwindError.NotLookedUp e) = numbered (number_of e) 0
error_of (UnwindError.NotStepped r) = refusal_of r

-- 0 and 0 where nothing is refused
abbrev pub outcome_of : Result (Unit {0}) UnwindError → Number
outcome_of (Ok x) = numbered 0 0
outcome_of (Err e) = error_of e

-- What the combined call tells: 0 with the caller's registers, or a refusal with the registers unchanged; and the lookup's probes.
pub record Unwound : Type 0 where
  pub refusal : Number
  pub probes : ℕ
  pub regs : Regs

abbrev pub unwound : Number → ℕ → Regs → Unwound
unwound k n r = record { refusal = k; probes = n; regs = r }

-- what the lookup alone says: where it found nothing, 20
abbrev pub looked_up : Looked → Number
looked_up (found f probes) = numbered 0 0
looked_up (nothing probes) = numbered 20 0
looked_up (refusal number probes) = numbered number 0

-- Looked up, then stepped: `step` is the machine's step by an opcode word. A lookup refusal is passed on unchanged.
unfoldable pub unwind_by : (step : ℕ → Told) → Regs → Looked → Unwound
unwind_by step r (found f probes) = unwound (step f.opcode).refusal probes (step f.opcode).regs
unwind_by step r (nothing probes) = unwound (looked_up (nothing probes)) probes r
unwind_by step r (refusal number probes) = unwound (looked_up (refusal number probes)) probes r

-- the answer, beside the registers after it
abbrev pub unwound_told : declared.Unwound → Regs → Unwound
unwound_told u r = unwound (outcome_of u.outcome) u.probes r
