-- `opcodes::words_x86_64::frameless` meets its contract: it lists what the decoder told.
-- Assumes nothing.
use Prim.Native.Nat.{ℕ, ◌/◌, ◌%◌}
use mathlib.Core.Path.{◌≡◌, ap, sym, ◌∙◌}
use native.Mathlib.Nat.{div-one}
use Rattle.permutation.specs.Permutation.{Told, decode_of}
use Rattle.opcodes.specs.Bits.{bits}
use Rattle.opcodes.proofs.NumbersX86.{invalid, immediate, indirect}
use Rattle.opcodes.proofs.words_x86_64.frameless.Goals as goal

-- the decoder was given the word's two fields
decoded : (w : ℕ) {t : Told} → t ≡ decode_of (w / 1024 % 8) (w % 1024) → t ≡ decode_of (bits 10 3 w) (bits 0 10 w)
decoded w e = e ∙ ap (λ (x : ℕ). decode_of (w / 1024 % 8) (x % 1024)) (sym (div-one w))

pub returns-in_default : goal.returns-in_default
returns-in_default c = c.alone.ensures ∙ invalid _ c.requires _ _ (decoded _ c.in_default.ensures)

pub returns-then-opcode-eq0 : goal.returns-then-opcode-eq0
returns-then-opcode-eq0 c = immediate _ c.requires _ (decoded _ c.in-Ok.ensures) c.if-opcode-eq0.true

pub returns : goal.returns
returns c = indirect _ c.requires _ (decoded _ c.in-Ok.ensures) c.if-opcode-eq0.false
