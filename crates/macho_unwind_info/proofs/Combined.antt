-- What the combined call promises (docs/FORMAT.md, 10.3 and 10.4), said once over the machine: a lookup refusal passed on unchanged, 20 for none,
-- the step's answer where a function was found, the registers unchanged on every refusal, the probes never lost.
-- Assumes nothing.
use Prim.Native.Nat.{ℕ, ◌≤◌}
use mathlib.Core.Path.{◌≡◌, refl, ap}
use mathlib.Core.List.{List}
use lib.ListN.{length}
use Rattle.raw.specs.Raw.{version_of}
use Rattle.entries.specs.declared.Function.{Function}
use Rattle.lookup.specs.Lookup.{Looked, found, nothing, refusal, probes_of, lookup_on}
use Rattle.lookup.proofs.Numbers.{other-version}
use Rattle.frame.specs.Frame.{Regs}
use Rattle.rules.specs.Answers.{numbered}
use Rattle.step.specs.Steps.{Told}
use Rattle.step.specs.StepsX86 as steps_x86
use Rattle.step.specs.StepsArm64 as steps_arm64
use Rattle.step.specs.Refused.{unchanged-x86-64, unchanged-arm64}
use Rattle.macho_unwind_info.specs.Unwind.{Unwound, unwound, unwind_by}
use Rattle.macho_unwind_info.specs.UnwindX86 as x86
use Rattle.macho_unwind_info.specs.UnwindArm64 as arm64

-- `u` is what a call with the registers r tells, whose lookup told `looked` and whose machine steps by `step`
pub record Combined (step : ℕ → Told) (r : Regs) (looked : Looked) (u : Unwound) : Type 0 where
  pub refusal-passed-on : (k n : ℕ) → looked ≡ refusal k n → u ≡ unwound (numbered k 0) n r
  pub none-gives-20 : (n : ℕ) → looked ≡ nothing n → u ≡ unwound (numbered 20 0) n r
  pub found-steps : (f : Function) (n : ℕ) (t : Told) → looked ≡ found f n → step f.opcode ≡ t → u ≡ unwound t.refusal n t.regs
  pub refused-unchanged : (u.refusal.number ≡ 0 → ⊥) → u.regs ≡ r
  pub probes-kept : u.probes ≡ probes_of looked

module _ (step : ℕ → Told) (r : Regs) where
  steps : (looked : Looked) (f : Function) (n : ℕ) (t : Told) → looked ≡ found f n → step f.opcode ≡ t → unwind_by step r looked ≡ unwound t.refusal n t.regs
  unfolding unwind_by
  steps looked f n t e d = rw (e, d)

  keeps : ((w : ℕ) → ((step w).refusal.number ≡ 0 → ⊥) → (step w).regs ≡ r) → (looked : Looked) → ((unwind_by step r looked).refusal.number ≡ 0 → ⊥) → (unwind_by step r looked).regs ≡ r
  unfolding unwind_by
  keeps h (found f n) z = h f.opcode z
  keeps h (nothing n) z = refl
  keeps h (refusal k n) z = refl

  counts : (looked : Looked) → (unwind_by step r looked).probes ≡ probes_of looked
  unfolding unwind_by
  counts (found f n) = refl
  counts (nothing n) = refl
  counts (refusal k n) = refl

  combined : ((w : ℕ) → ((step w).refusal.number ≡ 0 → ⊥) → (step w).regs ≡ r) → (looked : Looked) → Combined step r looked (unwind_by step r looked)
  unfolding unwind_by
  combined h looked =
      record {
        refusal-passed-on = λ k n e. ap (unwind_by step r) e;
        none-gives-20 = λ n e. ap (unwind_by step r) e;
        found-steps = steps looked;
        refused-unchanged = keeps h looked;
        probes-kept = counts looked;
      }

module _ (section : List ℕ) (address base : ℕ) (window : List ℕ) (r : Regs) where
  pub combined-x86-64 : Combined (λ w. steps_x86.step_of w base window r) r (lookup_on section address) (x86.unwind_of section address base window r)
  unfolding x86.unwind_of
  combined-x86-64 = combined _ r (λ w. unchanged-x86-64 w base window r) (lookup_on section address)

  pub combined-arm64 : Combined (λ w. steps_arm64.step_of w base window r) r (lookup_on section address) (arm64.unwind_of section address base window r)
  unfolding arm64.unwind_of
  combined-arm64 = combined _ r (λ w. unchanged-arm64 w base window r) (lookup_on section address)

  -- with another version than 1 the registers come back, and 15
  module _ (header : 28 ≤ length section) (v : version_of section ≡ 1 → ⊥) where
    pub other-version-x86-64 : x86.unwind_of section address base window r ≡ unwound (numbered 15 0) 0 r
    other-version-x86-64 = combined-x86-64.refusal-passed-on 15 0 (other-version section address header v)

    pub other-version-arm64 : arm64.unwind_of section address base window r ≡ unwound (numbered 15 0) 0 r
    other-version-arm64 = combined-arm64.refusal-passed-on 15 0 (other-version section address header v)
