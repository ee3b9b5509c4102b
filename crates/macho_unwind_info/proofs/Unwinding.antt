-- What the combined call's code knows at each return, on plain values and over the machine.
-- Assumes nothing.
use Prim.Native.Nat.{ℕ}
use mathlib.Core.Path.{◌≡◌, ap, sym, ◌∙◌}
use Rattle.std.specs.Prelude.{Option, Some, None, Result, Ok, Err, IsErrAnd}
use Rattle.raw.specs.declared.Error.{Error}
use Rattle.raw.specs.Checked.{number_of}
use Rattle.lookup.specs.Lookup.{told_with}
use Rattle.entries.specs.declared.Function.{Function}
use Rattle.frame.specs.Frame.{Regs}
use Rattle.rules.specs.Answers.{numbered}
use Rattle.step.specs.Steps.{Told}
use Rattle.macho_unwind_info.specs.declared.UnwindError.{UnwindError}
use Rattle.macho_unwind_info.specs.Unwind.{error_of, outcome_of, unwound, unwind_by}

-- a `?` passes on what the error becomes
pub became : (r : Result (Unit {0}) UnwindError) (e : UnwindError) → IsErrAnd r (λ x. x ≡ e) → outcome_of r ≡ error_of e
became (Ok x) e h = absurd h
became (Err d) e h = ap error_of h

module _ (step : ℕ → Told) (r : Regs) (probes : ℕ) (w : Result (Option Function) Error) where
  pub passed_on : (e : Error) → w ≡ Err e → unwound (numbered (number_of e) 0) probes r ≡ unwind_by step r (told_with probes w)
  unfolding unwind_by
  passed_on e p = ap (λ (x : Result (Option Function) Error). unwind_by step r (told_with probes x)) (sym p)

  pub none_found : w ≡ Ok None → unwound (numbered 20 0) probes r ≡ unwind_by step r (told_with probes w)
  unfolding unwind_by
  none_found p = ap (λ (x : Result (Option Function) Error). unwind_by step r (told_with probes x)) (sym p)

  -- a function, and the step by its word
  pub stepped_by : (f : Function) (u : Told) → w ≡ Ok (Some f) → u ≡ step f.opcode → unwound u.refusal probes u.regs ≡ unwind_by step r (told_with probes w)
  unfolding unwind_by
  stepped_by f u p d =
      ap (λ (v : Told). unwound v.refusal probes v.regs) d ∙ ap (λ (x : Result (Option Function) Error). unwind_by step r (told_with probes x)) (sym p)
