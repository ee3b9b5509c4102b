-- docs/FORMAT.md, 0.2 and 0.3 together: on a well-formed section the combined call undoes the prologue of the one iterated function that covers
-- the address.
-- Assumes nothing.
use Prim.Native.Nat.{ℕ, ◌+◌, ◌-◌}
use mathlib.Core.Path.{◌≡◌, ap, sym, ◌∙◌}
use mathlib.Core.List.{List}
use lib.ListN.{get_or}
use Rattle.reader.specs.Reader.{Bytes}
use Rattle.entries.specs.declared.Function.{Function}
use Rattle.lookup.specs.Lookup.{Looked, found, nothing, probes_of, lookup_on, Covers}
use Rattle.well_formed.specs.WellFormed.{WellFormed}
use Rattle.well_formed.proofs.Answers.{Iterated, answers, otherwise}
use Rattle.frame.specs.Memory.{load}
use Rattle.frame.specs.Frame.{Regs, places}
use Rattle.frame.specs.Calls.{Machine, Body, Entered}
use Rattle.rules.specs.Answers.{Number, numbered}
use Rattle.rules.specs.SoundX86 as sound_x86
use Rattle.rules.specs.SoundArm64 as sound_arm64
use Rattle.step.specs.Steps.{Told, regs_of}
use Rattle.step.specs.StepsX86 as steps_x86
use Rattle.step.specs.StepsArm64 as steps_arm64
use Rattle.step.proofs.UndoesX86 as step_x86
use Rattle.step.proofs.UndoesArm64 as step_arm64
use Rattle.macho_unwind_info.specs.Unwind.{Unwound, unwound}
use Rattle.macho_unwind_info.specs.UnwindX86 as x86
use Rattle.macho_unwind_info.specs.UnwindArm64 as arm64
use Rattle.macho_unwind_info.proofs.Combined.{Combined, combined-x86-64, combined-arm64}

-- over the machine: the step's answer with the lookup's probes, or 20
module _ (step : ℕ → Told) (r : Regs) (looked : Looked) (u : Unwound) (c : Combined step r looked u) where
  covered : (f : Function) (t : Told) → (n : ℕ) × (looked ≡ found f n) → step f.opcode ≡ t → u ≡ unwound t.refusal (probes_of looked) t.regs
  covered f t a d = c.found-steps f a.0 t a.1 d ∙ ap (λ (n : ℕ). unwound t.refusal n t.regs) (sym (ap probes_of a.1))

  uncovered : (n : ℕ) × (looked ≡ nothing n) → u ≡ unwound (numbered 20 0) (probes_of looked) r
  uncovered a = c.none-gives-20 a.0 a.1 ∙ ap (λ (n : ℕ). unwound (numbered 20 0) n r) (sym (ap probes_of a.1))

-- the hypothesis `Bytes` costs nothing: every `&[u8]` meets it
module _ (s : List ℕ) (bytes : Bytes s) (w : WellFormed s) (address : ℕ) where
  module _ (f : Function) (i : Iterated s bytes w f) (c : Covers f address) where
    -- x86_64: the word of f is sound and its prologue has run; after any body that keeps to its limits, the caller's registers come back
    pub undoes-x86-64 : (sound : sound_x86.Sound f.opcode) (base : ℕ) (mc : Machine) → Entered 8 6 base (mc.regs.sp + 8) (sound_x86.extent f.opcode sound) mc
        → (r : Regs) (m : List ℕ)
        → Body 8 (places base (mc.regs.sp + 8) (sound_x86.frame_of f.opcode sound)) (sound_x86.frame_of f.opcode sound) (sound_x86.prologue f.opcode sound base mc).regs r (sound_x86.prologue f.opcode sound base mc).mem m
        → x86.unwind_of s address base m r ≡ unwound (numbered 0 0) (probes_of (lookup_on s address)) (regs_of (load 8 (mc.regs.sp - base) mc.mem) (mc.regs.sp + 8) mc.regs.kept)
    undoes-x86-64 sound base mc entered r m body =
        covered (λ v. steps_x86.step_of v base m r) r (lookup_on s address) _ (combined-x86-64 s address base m r) f _ (answers s bytes w address f i c)
        (step_x86.undoes f.opcode sound base mc entered r m body)

    pub undoes-arm64 : (sound : sound_arm64.Sound f.opcode) (base : ℕ) (mc : Machine) → Entered 8 20 base mc.regs.sp (sound_arm64.extent f.opcode sound) mc
        → (r : Regs) (m : List ℕ)
        → Body 8 (places base mc.regs.sp (sound_arm64.frame_of f.opcode sound)) (sound_arm64.frame_of f.opcode sound) (sound_arm64.prologue f.opcode sound base mc).regs r (sound_arm64.prologue f.opcode sound base mc).mem m
        → arm64.unwind_of s address base m r ≡ unwound (numbered 0 0) (probes_of (lookup_on s address)) (regs_of (get_or mc.regs.kept 11 0) mc.regs.sp mc.regs.kept)
    undoes-arm64 sound base mc entered r m body =
        covered (λ v. steps_arm64.step_of v base m r) r (lookup_on s address) _ (combined-arm64 s address base m r) f _ (answers s bytes w address f i c)
        (step_arm64.undoes f.opcode sound base mc entered r m body)

    -- the word of f is refused: so is the call, whatever the window
    pub refused-x86-64 : (n : Number) → sound_x86.Refused f.opcode n → (base : ℕ) (m : List ℕ) (r : Regs) → x86.unwind_of s address base m r ≡ unwound n (probes_of (lookup_on s address)) r
    refused-x86-64 n refused base m r =
        covered (λ v. steps_x86.step_of v base m r) r (lookup_on s address) _ (combined-x86-64 s address base m r) f _ (answers s bytes w address f i c)
        (step_x86.refused-step f.opcode n refused base m r)

    pub refused-arm64 : (n : Number) → sound_arm64.Refused f.opcode n → (base : ℕ) (m : List ℕ) (r : Regs) → arm64.unwind_of s address base m r ≡ unwound n (probes_of (lookup_on s address)) r
    refused-arm64 n refused base m r =
        covered (λ v. steps_arm64.step_of v base m r) r (lookup_on s address) _ (combined-arm64 s address base m r) f _ (answers s bytes w address f i c)
        (step_arm64.refused-step f.opcode n refused base m r)

  -- no iterated function covers the address: 20
  module _ (none : (f : Function) → Iterated s bytes w f → Covers f address → ⊥) (base : ℕ) (m : List ℕ) (r : Regs) where
    pub uncovered-x86-64 : x86.unwind_of s address base m r ≡ unwound (numbered 20 0) (probes_of (lookup_on s address)) r
    uncovered-x86-64 = uncovered (λ v. steps_x86.step_of v base m r) r (lookup_on s address) _ (combined-x86-64 s address base m r) (otherwise s bytes w address none)

    pub uncovered-arm64 : arm64.unwind_of s address base m r ≡ unwound (numbered 20 0) (probes_of (lookup_on s address)) r
    uncovered-arm64 = uncovered (λ v. steps_arm64.step_of v base m r) r (lookup_on s address) _ (combined-arm64 s address base m r) (otherwise s bytes w address none)
