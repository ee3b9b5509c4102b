-- docs/FORMAT.md, 7.4: what an opcode word of arm64 says.
-- Assumes nothing.
use Rattle.std.specs.Prelude.{ℕ, ◌+◌, ◌*◌, Bool, false, cond, List, [], ◌∷◌, ◌++◌, eqb, take, drop}
use Rattle.opcodes.specs.Bits.{bits, bit, kind_of, specific_of}
use Rattle.opcodes.specs.declared.arm64.«OpcodeArm64».{«OpcodeArm64»}
use Rattle.opcodes.specs.declared.words_arm64.«WordArm64».{«WordArm64»}

-- The cases with their values. The nine pairs are x19/x20, x21/x22, x23/x24, x25/x26, x27/x28, d8/d9, d10/d11, d12/d13, d14/d15.
pub data Word : Type 0 where
  null : Word
  frameless : (size : ℕ) → Word
  dwarf : (low24 : ℕ) → Word
  frame_based : (count : ℕ) (pairs : List Bool) → Word
  unrecognized : (kind : ℕ) → Word

-- Bits 0 to 4 are the x pairs, and bits 8 to 11 the d pairs.
abbrev pub pairs : ℕ → List Bool
pairs w = bit 0 w ∷ bit 1 w ∷ bit 2 w ∷ bit 3 w ∷ bit 4 w ∷ bit 8 w ∷ bit 9 w ∷ bit 10 w ∷ bit 11 w ∷ []

-- how many are set
abbrev pub ones : List Bool → ℕ
ones [] = 0
ones (b ∷ bs) = cond b 1 0 + ones bs

abbrev pub by_kind : ℕ → ℕ → Word
by_kind k w =
    cond (eqb k 0) null
    (cond (eqb k 2) (frameless (16 * bits 12 12 w))
    (cond (eqb k 3) (dwarf (specific_of w))
    (cond (eqb k 4) (frame_based (ones (pairs w)) (pairs w))
    (unrecognized k))))

unfoldable pub parse_of : ℕ → Word
parse_of w = by_kind (kind_of w) w

abbrev pub told : «OpcodeArm64» → Word
told «OpcodeArm64».Null = null
told («OpcodeArm64».Frameless size) = frameless size
told («OpcodeArm64».Dwarf low24) = dwarf low24
told («OpcodeArm64».FrameBased count x19 x21 x23 x25 x27 d8 d10 d12 d14) =
    frame_based count (x19 ∷ x21 ∷ x23 ∷ x25 ∷ x27 ∷ d8 ∷ d10 ∷ d12 ∷ d14 ∷ [])
told («OpcodeArm64».UnrecognizedKind kind) = unrecognized kind

-- The answer in numbers: the case's, then its values, 0 where it has none. The pairs are at the word's own bits.

-- a list of bits as a number, the first lowest
abbrev pub number : List Bool → ℕ
number [] = 0
number (b ∷ bs) = cond b 1 0 + 2 * number bs

-- The nine pairs as a word has them: five bits, three that name no pair, four bits.
abbrev pub in_place : List Bool → List Bool
in_place pairs = take 5 pairs ++ false ∷ false ∷ false ∷ drop 5 pairs

abbrev pub numbers : (answer value count pairs : ℕ) → «WordArm64»
numbers answer value count pairs = record { value = value; answer = answer; saved_reg_pair_count = count; saved_pairs = pairs }

abbrev pub in_numbers : Word → «WordArm64»
in_numbers null = numbers 0 0 0 0
in_numbers (frameless size) = numbers 1 size 0 0
in_numbers (dwarf low24) = numbers 2 low24 0 0
in_numbers (frame_based count pairs) = numbers 3 0 count (number (in_place pairs))
in_numbers (unrecognized kind) = numbers 4 kind 0 0
