-- docs/FORMAT.md, 7.1: bits of an opcode word, by division and remainder.
-- Assumes nothing.
use Rattle.std.specs.Prelude.{ℕ, ◌/◌, ◌%◌, ◌^◌, Bool, eqb}

-- the bits from `low` on, `width` of them
abbrev pub bits : ℕ → ℕ → ℕ → ℕ
bits low width word = word / 2 ^ low % 2 ^ width

abbrev pub bit : ℕ → ℕ → Bool
bit low word = eqb (bits low 1 word) 1

-- Kind is bits 24 to 27.
abbrev pub kind_of : ℕ → ℕ
kind_of word = bits 24 4 word

-- The low 24 bits.
abbrev pub specific_of : ℕ → ℕ
specific_of word = bits 0 24 word
