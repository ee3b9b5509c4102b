-- docs/FORMAT.md, 0.3, on arm64: a step undoes the prologue of every sound word, and refuses the others.
-- Assumes nothing.
use Prim.Native.Nat.{ℕ}
use mathlib.Core.Path.{◌≡◌, ap, ◌∙◌}
use mathlib.Core.List.{List}
use native.Mathlib.Omega.{arith}
use lib.ListN.{get_or}
use Rattle.frame.specs.Frame.{Regs, places}
use Rattle.frame.specs.Calls.{Machine, Body, Entered}
use Rattle.frame.proofs.Prologues.{Ran}
use Rattle.frame.proofs.Undo.{undo}
use Rattle.frame.proofs.Lowered as lowered
use Rattle.rules.specs.Answers.{Number, numbered, Ruling}
use Rattle.rules.specs.RulesArm64.{rule_of}
use Rattle.rules.specs.SoundArm64.{size_of, listed, Sound, frame_based, frameless, Refused, frame_of, prologue, extent}
use Rattle.rules.proofs.FramesArm64.{sound-rule, refused-rule, refused-number, listed-rises}
use Rattle.step.specs.Steps.{Told, regs_of, valueless}
use Rattle.step.specs.StepsArm64.{step_of}
use Rattle.step.proofs.Stepping.{refused-by}

-- the prologue leaves the frame
ran : (w : ℕ) (s : Sound w) (base : ℕ) (mc : Machine) → Entered 8 20 base mc.regs.sp (extent w s) mc
    → Ran 8 base mc.regs.sp (frame_of w s) mc.regs mc.mem (get_or mc.regs.kept 11 0) (prologue w s base mc).regs (prologue w s base mc).mem
ran w (frame_based k) base mc en =
    lowered.ran 8 base 10 11 (listed w) mc (rw en.many (listed-rises w)) (omega (arith, en.many)) (omega (arith, en.many)) en.low en.high (en.words 11) en.top
ran w (frameless k) base mc en = lowered.ran-lowered 8 base 11 (size_of w) mc (omega (arith, en.low)) en.high en.top

-- Unwinding undoes the prologue: for every sound word, any entry registers and any window that holds the whole frame, after any body that
-- keeps to its limits, the step answers with the caller's pc, the stack pointer after return and every preserved register as at entry.
pub undoes : (w : ℕ) (s : Sound w) (base : ℕ) (mc : Machine) → Entered 8 20 base mc.regs.sp (extent w s) mc
    → (r : Regs) (m : List ℕ) → Body 8 (places base mc.regs.sp (frame_of w s)) (frame_of w s) (prologue w s base mc).regs r (prologue w s base mc).mem m
    → step_of w base m r ≡ record { refusal = numbered 0 0; regs = regs_of (get_or mc.regs.kept 11 0) mc.regs.sp mc.regs.kept }
unfolding step_of
undoes w s base mc en r m body =
    simp (sound-rule w s)
    (ap valueless
    (undo 8 base mc.regs.sp (frame_of w s) mc.regs (get_or mc.regs.kept 11 0) (prologue w s base mc).regs r (prologue w s base mc).mem m mc.mem
    en.words (omega arith) (ran w s base mc en) body 20 en.many))

-- A refused word's step is refused likewise, whatever the window.
pub refused-step : (w : ℕ) (n : Number) → Refused w n → (base : ℕ) (mem : List ℕ) (r : Regs) → step_of w base mem r ≡ record { refusal = n; regs = r }
unfolding step_of
refused-step w n f base mem r =
    let e : (rule_of w).refusal ≡ n = ap (λ (u : Ruling). u.refusal) (refused-rule w n f) in
    refused-by 8 (rule_of w) base mem r (rw e (refused-number w n f).0) ∙ ap {B = Told} (λ (k : Number). record { refusal = k; regs = r }) e
