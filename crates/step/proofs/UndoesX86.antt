-- docs/FORMAT.md, 0.3, on x86_64: a step undoes the prologue of every sound word, and refuses the others.
-- Assumes nothing.
use Prim.Native.Nat.{ℕ, ◌+◌, ◌-◌}
use mathlib.Core.Path.{◌≡◌, refl, ap, ◌∙◌}
use mathlib.Core.List.{List}
use native.Mathlib.Omega.{arith}
use Rattle.frame.specs.Memory.{load}
use Rattle.frame.specs.Frame.{Regs, places}
use Rattle.frame.specs.Calls.{Machine, Body, Entered}
use Rattle.frame.proofs.Prologues.{Ran}
use Rattle.frame.proofs.Undo.{undo}
use Rattle.frame.proofs.Pushed as pushed
use Rattle.frame.proofs.Fielded as fielded
use Rattle.rules.specs.Answers.{Number, numbered, Ruling}
use Rattle.rules.specs.RulesX86.{rule_of}
use Rattle.rules.specs.SoundX86.{size_of, fields_of, Sound, frame_based, frameless, Refused, frame_of, prologue, extent}
use Rattle.rules.proofs.ListsX86.{list-named}
use Rattle.rules.proofs.FramesX86.{sound-rule, refused-rule, refused-number, room, based-fields}
use Rattle.step.specs.Steps.{Told, regs_of, valueless}
use Rattle.step.specs.StepsX86.{step_of}
use Rattle.step.proofs.Stepping.{refused-by}

-- the prologue leaves the frame
ran : (w : ℕ) (s : Sound w) (base : ℕ) (mc : Machine) → Entered 8 6 base (mc.regs.sp + 8) (extent w s) mc
    → Ran 8 base (mc.regs.sp + 8) (frame_of w s) mc.regs mc.mem (load 8 (mc.regs.sp + 8 - 8 - base) mc.mem) (prologue w s base mc).regs (prologue w s base mc).mem
ran w (frame_based k s) base mc en =
    fielded.ran 8 base (mc.regs.sp + 8) 5 (size_of w) (fields_of w) mc refl en.high (omega arith) (based-fields w s) en.low (omega (arith, en.many)) en.top
ran w (frameless xs k l r) base mc en =
    pushed.ran 8 base (mc.regs.sp + 8) mc refl en.high (size_of w) xs (rw en.many (list-named w xs l)) (room w xs l r) en.low en.top

-- Unwinding undoes the prologue: for every sound word, any entry registers and any window that holds the whole frame, after any body that
-- keeps to its limits, the step answers with the caller's pc, the stack pointer after return and every preserved register as at entry.
pub undoes : (w : ℕ) (s : Sound w) (base : ℕ) (mc : Machine) → Entered 8 6 base (mc.regs.sp + 8) (extent w s) mc
    → (r : Regs) (m : List ℕ) → Body 8 (places base (mc.regs.sp + 8) (frame_of w s)) (frame_of w s) (prologue w s base mc).regs r (prologue w s base mc).mem m
    → step_of w base m r ≡ record { refusal = numbered 0 0; regs = regs_of (load 8 (mc.regs.sp - base) mc.mem) (mc.regs.sp + 8) mc.regs.kept }
unfolding step_of
undoes w s base mc en r m body =
    let cfa : ℕ = mc.regs.sp + 8 in
    let z : cfa - 8 - base ≡ mc.regs.sp - base = omega arith in
    simp (sound-rule w s)
    (ap valueless
    (rw z at
    (undo 8 base cfa (frame_of w s) mc.regs (load 8 (cfa - 8 - base) mc.mem) (prologue w s base mc).regs r (prologue w s base mc).mem m mc.mem
    en.words (omega arith) (ran w s base mc en) body 6 en.many)))

-- A refused word's step is refused likewise, whatever the window.
pub refused-step : (w : ℕ) (n : Number) → Refused w n → (base : ℕ) (mem : List ℕ) (r : Regs) → step_of w base mem r ≡ record { refusal = n; regs = r }
unfolding step_of
refused-step w n f base mem r =
    let e : (rule_of w).refusal ≡ n = ap (λ (u : Ruling). u.refusal) (refused-rule w n f) in
    refused-by 8 (rule_of w) base mem r (rw e (refused-number w n f).0) ∙ ap {B = Told} (λ (k : Number). record { refusal = k; regs = r }) e
