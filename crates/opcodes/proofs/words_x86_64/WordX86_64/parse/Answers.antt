-- `opcodes::words_x86_64::WordX86_64::parse` meets its contract: what the word says by its kind.
-- Assumes nothing.
use Prim.Native.Nat.{ℕ, ◌*◌, ◌%◌, ◌^◌}
use mathlib.Core.Path.{ap, sym, ◌∙◌}
use mathlib.Core.Bool.{cond}
use native.Mathlib.Nat.{div-one}
use native.Mathlib.Omega.{arith}
use lib.Dec.{eqb}
use Rattle.opcodes.specs.Bits.{bits, kind_of}
use Rattle.opcodes.proofs.NumbersX86.{plain, no_kind}
use Rattle.opcodes.proofs.words_x86_64.WordX86_64.parse.Goals as goal

pub returns-then-kind-gt-OPCODE_KIND_X86_DWARF : goal.returns-then-kind-gt-OPCODE_KIND_X86_DWARF
returns-then-kind-gt-OPCODE_KIND_X86_DWARF c =
    c.alone.ensures ∙ rw c.from.ensures (no_kind _ _ (sym (c.kind-kind.ensures ∙ ap kind_of c.new.ensures)) (omega arith))

pub returns : goal.returns
returns c =
    let w = c.args.opcode in
    let k = c.kind-kind.result in
    c.alone-2.ensures
    ∙ plain k w _ _ (sym (c.kind-kind.ensures ∙ ap kind_of c.new.ensures)) c.if-kind-gt-OPCODE_KIND_X86_DWARF.false c.if-kind-eq1.false
    (c.pick.ensures ∙ ap (λ (x : ℕ). cond (eqb k 1) (8 * bits 16 8 w) x) (c.pick-low.ensures ∙ ap (λ (x : ℕ). cond (eqb k 4) (x % 2 ^ 24) 0) (sym (div-one w))))
    (c.pick-2.ensures ∙ ap (λ (x : ℕ). cond (eqb k 1) (x % 2 ^ 15) 0) (sym (div-one w)))
