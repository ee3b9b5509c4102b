-- `opcodes::words_arm64::WordArm64::parse` meets its contract: what the word says by its kind.
-- Assumes nothing.
use mathlib.Core.Path.{ap, sym, ◌∙◌}
use Rattle.opcodes.specs.Bits.{kind_of}
use Rattle.opcodes.proofs.NumbersArm64.{based, not-based}
use Rattle.opcodes.proofs.words_arm64.WordArm64.parse.Goals as goal

pub returns-then-kind-eq-OPCODE_KIND_ARM64_FRAMEBASED : goal.returns-then-kind-eq-OPCODE_KIND_ARM64_FRAMEBASED
returns-then-kind-eq-OPCODE_KIND_ARM64_FRAMEBASED c =
    based _ ((sym (c.kind-kind.ensures ∙ ap kind_of c.new.ensures)) ∙ c.if-kind-eq-OPCODE_KIND_ARM64_FRAMEBASED.true)

pub returns : goal.returns
returns c =
    not-based _ _ _ _ (sym (c.kind-kind.ensures ∙ ap kind_of c.new.ensures)) c.if-kind-eq-OPCODE_KIND_ARM64_FRAMEBASED.false c.answer_of.ensures c.value_of.ensures
