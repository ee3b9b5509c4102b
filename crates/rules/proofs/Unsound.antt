-- The three cases of a field in the soundness test: a frame-based word with an unknown field is refused with 24, and so is one that names rbp.
-- Assumes nothing.
use Prim.Native.Nat.{ℕ, ◌<◌}
use mathlib.Core.Path.{◌≡◌, refl, ap}
use native.Mathlib.Omega.{arith}
use Rattle.opcodes.specs.Bits.{kind_of}
use Rattle.opcodes.specs.Registers.{register, unknown, named_of, value_of}
use Rattle.opcodes.proofs.Fields.{number-told, unknown-above}
use Rattle.rules.specs.Answers.{numbered}
use Rattle.rules.specs.RulesX86.{refusal, rule_of}
use Rattle.rules.specs.SoundX86.{field_of, FrameBased, unsound}
use Rattle.rules.proofs.FramesX86.{refused-rule}

-- a field that is told with a number above 5
above-five : (w k n : ℕ) → kind_of w ≡ 1 → k < 5 → value_of (named_of (field_of k w)) ≡ n → 5 < n → rule_of w ≡ refusal (numbered 24 0)
above-five w k n kind h e above =
    refused-rule w (numbered 24 0) (unsound kind (λ (s : FrameBased w).
    omega (arith, s.named k h, number-told (field_of k w), e, above)))

pub unknown-refused : (w k n : ℕ) → kind_of w ≡ 1 → k < 5 → named_of (field_of k w) ≡ unknown n → rule_of w ≡ refusal (numbered 24 0)
unknown-refused w k n kind h e = above-five w k n kind h (ap value_of e) (omega (arith, unknown-above (field_of k w) n e))

pub rbp-refused : (w k : ℕ) → kind_of w ≡ 1 → k < 5 → named_of (field_of k w) ≡ register 6 → rule_of w ≡ refusal (numbered 24 0)
rbp-refused w k kind h e = above-five w k 6 kind h (ap value_of e) (omega arith)

-- so of the least such words
pub least-unknown : rule_of 0x01000007 ≡ refusal (numbered 24 0)
least-unknown = unknown-refused 0x01000007 0 7 refl (omega arith) refl

pub least-rbp : rule_of 0x01000006 ≡ refusal (numbered 24 0)
least-rbp = rbp-refused 0x01000006 0 refl (omega arith) refl
