-- docs/FORMAT.md, 7.2: what an opcode word of x86_64 says.
-- Assumes nothing.
use Rattle.std.specs.Prelude.{ℕ, ◌*◌, cond, List, eqb, replicate}
use Rattle.permutation.specs.Permutation as permutation
use Rattle.opcodes.specs.Bits.{bits, kind_of, specific_of}
use Rattle.opcodes.specs.declared.x86_64.OpcodeX86_64.{OpcodeX86_64}
use Rattle.opcodes.specs.declared.words_x86_64.WordX86_64.{WordX86_64}

-- The cases with their values. The five fields are one number, as they stand in the word.
pub data Word : Type 0 where
  null : Word
  frame_based : (offset fields : ℕ) → Word
  frameless_immediate : (size : ℕ) → Word
  frameless_indirect : (place adjust : ℕ) → Word
  dwarf : (low24 : ℕ) → Word
  invalid_frameless : Word
  unrecognized : (kind : ℕ) → Word

-- Beside them the numbers of the registers that a frameless word lists, six places, 0 where there is none.
pub record Told : Type 0 where
  pub word : Word
  pub saved : List ℕ

abbrev pub beside : Word → List ℕ → Told
beside x saved = record { word = x; saved = saved }

abbrev pub alone : Word → Told
alone x = beside x (replicate 6 0)

-- Bits 10 to 12 count, bits 0 to 9 permutation: the registers that it lists, from the first place on, or the word is invalid.
abbrev pub listing : Word → permutation.Told → Told
listing x (permutation.accepted rs) = beside x rs
listing x (permutation.Told.refused k rs) = alone invalid_frameless

abbrev pub frameless : Word → ℕ → Told
frameless x w = listing x (permutation.decode_of (bits 10 3 w) (bits 0 10 w))

abbrev pub by_kind : ℕ → ℕ → Told
by_kind k w =
    cond (eqb k 0) (alone null)
    (cond (eqb k 1) (alone (frame_based (8 * bits 16 8 w) (bits 0 15 w)))
    (cond (eqb k 2) (frameless (frameless_immediate (8 * bits 16 8 w)) w)
    (cond (eqb k 3) (frameless (frameless_indirect (bits 16 8 w) (8 * bits 13 3 w)) w)
    (cond (eqb k 4) (alone (dwarf (specific_of w)))
    (alone (unrecognized k))))))

unfoldable pub parse_of : ℕ → Told
parse_of w = by_kind (kind_of w) w

-- The answer as an enum.

abbrev pub told : OpcodeX86_64 → Told
told OpcodeX86_64.Null = alone null
told (OpcodeX86_64.FrameBased offset fields) = alone (frame_based offset fields)
told (OpcodeX86_64.FramelessImmediate size saved) = beside (frameless_immediate size) saved
told (OpcodeX86_64.FramelessIndirect place adjust saved) = beside (frameless_indirect place adjust) saved
told (OpcodeX86_64.Dwarf low24) = alone (dwarf low24)
told OpcodeX86_64.InvalidFrameless = alone invalid_frameless
told (OpcodeX86_64.UnrecognizedKind kind) = alone (unrecognized kind)

-- The answer in numbers: the case's, then its values, 0 where it has none.

abbrev pub numbers : (answer value adjust fields : ℕ) → List ℕ → WordX86_64
numbers answer value adjust fields saved =
    record { value = value; answer = answer; stack_adjust_in_bytes = adjust; fields = fields; saved_regs = saved }

abbrev pub in_numbers : Word → List ℕ → WordX86_64
in_numbers null saved = numbers 0 0 0 0 saved
in_numbers (frame_based offset fields) saved = numbers 1 offset 0 fields saved
in_numbers (frameless_immediate size) saved = numbers 2 size 0 0 saved
in_numbers (frameless_indirect place adjust) saved = numbers 3 place adjust 0 saved
in_numbers (dwarf low24) saved = numbers 4 low24 0 0 saved
in_numbers invalid_frameless saved = numbers 5 0 0 0 saved
in_numbers (unrecognized kind) saved = numbers 6 kind 0 0 saved

abbrev pub numbers_of : Told → WordX86_64
numbers_of t = in_numbers t.word t.saved
