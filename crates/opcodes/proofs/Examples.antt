-- Words and registers with literal answers: one table, one claim, by computation. A word's fields differ from 0 and from one another, and bits that
-- have no meaning are set in most.
-- Assumes nothing.
use Prim.Native.Nat.{ℕ}
use mathlib.Core.Path.{◌≡◌, refl}
use mathlib.Core.Bool.{true, false}
use mathlib.Core.List.{List, [], ◌∷◌, map}
use Rattle.permutation.specs.Permutation.{rows as weights, bounds, decode_of}
use Rattle.opcodes.specs.Bits.{kind_of, specific_of}
use Rattle.opcodes.specs.Registers as registers
use Rattle.opcodes.specs.Registers.{number_of, dwarf_of, named_of, field_named}
use Rattle.opcodes.specs.WordsX86 as x86
use Rattle.opcodes.specs.WordsArm64 as arm64
use Rattle.opcodes.specs.declared.x86_64.RegisterNameX86_64.{RegisterNameX86_64}
use Rattle.opcodes.specs.declared.x86_64.RegisterNameX86_64.TheVariants.{Rbx, R12, R13, R14, R15, Rbp}
use Rattle.opcodes.specs.declared.x86_64.OpcodeX86_64.{OpcodeX86_64}
use Rattle.opcodes.specs.declared.arm64.«OpcodeArm64».{«OpcodeArm64»}

pub data Asked : Type 0 where
  bitfield : (word : ℕ) → Asked
  x86-64 : (word : ℕ) → Asked
  on-arm64 : (word : ℕ) → Asked
  numbers : RegisterNameX86_64 → Asked
  named : (number : ℕ) → Asked
  field : (fields k : ℕ) → Asked
  case-x86-64 : OpcodeX86_64 → Asked
  case-arm64 : «OpcodeArm64» → Asked

pub data Answered : Type 0 where
  has : (kind specific : ℕ) → Answered
  says : x86.Word → (saved : List ℕ) → Answered
  says-arm64 : arm64.Word → Answered
  own-and-dwarf : ℕ → ℕ → Answered
  names : registers.Told → Answered

abbrev pub answer : Asked → Answered
answer (bitfield w) = has (kind_of w) (specific_of w)
answer (x86-64 w) = says (x86.parse_of w).word (x86.parse_of w).saved
answer (on-arm64 w) = says-arm64 (arm64.parse_of w)
answer (numbers r) = own-and-dwarf (number_of r) (dwarf_of r)
answer (named n) = names (named_of n)
answer (field fs k) = names (field_named fs k)
answer (case-x86-64 o) = says (x86.told o).word (x86.told o).saved
answer (case-arm64 o) = says-arm64 (arm64.told o)

-- the pairs of the arm64 word are x19/x20, x23/x24, x25/x26, d10/d11 and d12/d13
abbrev pub rows : List (Asked × Answered)
rows =
    (bitfield 0x9C345678, has 12 0x345678)
    ∷ (x86-64 0xF0123456, says x86.null (0 ∷ 0 ∷ 0 ∷ 0 ∷ 0 ∷ 0 ∷ []))
    ∷ (x86-64 0x912AC54B, says (x86.frame_based 336 0o42513) (0 ∷ 0 ∷ 0 ∷ 0 ∷ 0 ∷ 0 ∷ []))
    ∷ (x86-64 0x41FF7FFF, says (x86.frame_based 2040 0o77777) (0 ∷ 0 ∷ 0 ∷ 0 ∷ 0 ∷ 0 ∷ []))
    ∷ (x86-64 0xE235AC2F, says (x86.frameless_immediate 424) (3 ∷ 2 ∷ 6 ∷ 0 ∷ 0 ∷ 0 ∷ []))
    ∷ (x86-64 0x734DD559, says (x86.frameless_indirect 77 48) (3 ∷ 6 ∷ 2 ∷ 4 ∷ 5 ∷ 0 ∷ []))
    ∷ (x86-64 0x82350C78, says x86.invalid_frameless (0 ∷ 0 ∷ 0 ∷ 0 ∷ 0 ∷ 0 ∷ []))
    ∷ (x86-64 0x534D1C00, says x86.invalid_frameless (0 ∷ 0 ∷ 0 ∷ 0 ∷ 0 ∷ 0 ∷ []))
    ∷ (x86-64 0xA4ABCDEF, says (x86.dwarf 0xABCDEF) (0 ∷ 0 ∷ 0 ∷ 0 ∷ 0 ∷ 0 ∷ []))
    ∷ (x86-64 0x15FEDCBA, says (x86.unrecognized 5) (0 ∷ 0 ∷ 0 ∷ 0 ∷ 0 ∷ 0 ∷ []))
    ∷ (x86-64 0xBF000001, says (x86.unrecognized 15) (0 ∷ 0 ∷ 0 ∷ 0 ∷ 0 ∷ 0 ∷ []))
    ∷ (on-arm64 0x80FEDCBA, says-arm64 arm64.null)
    ∷ (on-arm64 0x92ABCDEF, says-arm64 (arm64.frameless 43968))
    ∷ (on-arm64 0x63ABCDEF, says-arm64 (arm64.dwarf 0xABCDEF))
    ∷ (on-arm64 0xD4ABC6ED, says-arm64 (arm64.frame_based 5 (true ∷ false ∷ true ∷ true ∷ false ∷ false ∷ true ∷ true ∷ false ∷ [])))
    ∷ (on-arm64 0x31000007, says-arm64 (arm64.unrecognized 1))
    ∷ (on-arm64 0x45000007, says-arm64 (arm64.unrecognized 5))
    ∷ (on-arm64 0xBF000001, says-arm64 (arm64.unrecognized 15))
    ∷ (numbers Rbx, own-and-dwarf 1 3)
    ∷ (numbers R12, own-and-dwarf 2 12)
    ∷ (numbers R13, own-and-dwarf 3 13)
    ∷ (numbers R14, own-and-dwarf 4 14)
    ∷ (numbers R15, own-and-dwarf 5 15)
    ∷ (numbers Rbp, own-and-dwarf 6 6)
    ∷ (named 0, names registers.absent)
    ∷ (named 1, names (registers.register 1))
    ∷ (named 6, names (registers.register 6))
    ∷ (named 7, names (registers.unknown 7))
    ∷ (named 255, names (registers.unknown 255))
    -- fields 0 to 4, and what comes after them
    ∷ (field 0o73016 0, names (registers.register 6))
    ∷ (field 0o73016 1, names (registers.register 1))
    ∷ (field 0o73016 2, names registers.absent)
    ∷ (field 0o73016 3, names (registers.register 3))
    ∷ (field 0o73016 4, names (registers.unknown 7))
    ∷ (field 0o173016 5, names registers.absent)
    -- the code's cases that have several values, which the definitions tell in this order
    ∷ (case-x86-64 (OpcodeX86_64.FrameBased 336 0o42513), says (x86.frame_based 336 0o42513) (0 ∷ 0 ∷ 0 ∷ 0 ∷ 0 ∷ 0 ∷ []))
    ∷ (case-x86-64 (OpcodeX86_64.FramelessImmediate 424 (3 ∷ 2 ∷ 6 ∷ 0 ∷ 0 ∷ 0 ∷ [])), says (x86.frameless_immediate 424) (3 ∷ 2 ∷ 6 ∷ 0 ∷ 0 ∷ 0 ∷ []))
    ∷ (case-x86-64 (OpcodeX86_64.FramelessIndirect 77 48 (3 ∷ 6 ∷ 2 ∷ 4 ∷ 5 ∷ 0 ∷ [])), says (x86.frameless_indirect 77 48) (3 ∷ 6 ∷ 2 ∷ 4 ∷ 5 ∷ 0 ∷ []))
    ∷ (
      case-arm64 («OpcodeArm64».FrameBased 5 true false true true false false true true false),
      says-arm64 (arm64.frame_based 5 (true ∷ false ∷ true ∷ true ∷ false ∷ false ∷ true ∷ true ∷ false ∷ [])),
    )
    ∷ []

pub words-say : map (λ (r : Asked × Answered). answer r.0) rows ≡ map (λ (r : Asked × Answered). r.1) rows
unfolding weights bounds decode_of x86.parse_of arm64.parse_of
words-say = refl
