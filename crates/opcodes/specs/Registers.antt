-- docs/FORMAT.md, 7.3: the registers of x86_64 that a word can list.
-- Assumes nothing.
use Rattle.std.specs.Prelude.{ℕ, pred, ◌*◌, cond, List, [], ◌∷◌, eqb, leb, ltb, get_or}
use Rattle.opcodes.specs.Bits.{bits}
use Rattle.opcodes.specs.declared.x86_64.RegisterNameX86_64.{RegisterNameX86_64}
use Rattle.opcodes.specs.declared.x86_64.RegisterNameX86_64.TheVariants.{Rbx, R12, R13, R14, R15, Rbp}
use Rattle.opcodes.specs.declared.x86_64.Named.{Named}

-- The registers' own numbering, from 1 on.
abbrev pub number_of : RegisterNameX86_64 → ℕ
number_of Rbx = 1
number_of R12 = 2
number_of R13 = 3
number_of R14 = 4
number_of R15 = 5
number_of Rbp = 6

-- DWARF's numbers of the registers 1 to 6.
abbrev pub dwarfs : List ℕ
dwarfs = 3 ∷ 12 ∷ 13 ∷ 14 ∷ 15 ∷ 6 ∷ []

abbrev pub dwarf_of : RegisterNameX86_64 → ℕ
dwarf_of r = get_or dwarfs (pred (number_of r)) 0

-- What a number in a word says: that no register is listed, which one is, by its number, or a number that no register has.
pub data Told : Type 0 where
  absent : Told
  register : ℕ → Told
  unknown : ℕ → Told

-- 0 lists none, and the numbers from 1 to 6 a register. No other is known.
abbrev pub named_of : ℕ → Told
named_of n = cond (eqb n 0) absent (cond (leb n 6) (register n) (unknown n))

-- The three cases by their numbers,
abbrev pub state_of : Told → ℕ
state_of absent = 0
state_of (register n) = 1
state_of (unknown n) = 2

-- and the number that was there.
abbrev pub value_of : Told → ℕ
value_of absent = 0
value_of (register n) = n
value_of (unknown n) = n

-- Five 3-bit fields, field k at bits 3k to 3k + 2.
abbrev pub field_of : ℕ → ℕ → ℕ
field_of k fields = bits (3 * k) 3 fields

abbrev pub fields_in : ℕ → List ℕ
fields_in f = field_of 0 f ∷ field_of 1 f ∷ field_of 2 f ∷ field_of 3 f ∷ field_of 4 f ∷ []

-- there are five, and none after them
abbrev pub number_at : ℕ → ℕ → ℕ
number_at fields k = cond (ltb k 5) (field_of k fields) 0

abbrev pub field_named : ℕ → ℕ → Told
field_named fields k = named_of (number_at fields k)

abbrev pub told : Named → Told
told Named.Absent = absent
told (Named.Register r) = register (number_of r)
told (Named.Unknown n) = unknown n
