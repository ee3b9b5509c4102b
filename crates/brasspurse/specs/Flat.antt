-- What the definitions of docs/FORMAT.md, 1.2, 7 and 8, tell, as the flat structs of include/brasspurse.h: the case as a number, then the case's
-- values, 0 where it has none. (Words are told in numbers by `opcodes`.)
-- Assumes nothing.
use Rattle.std.specs.Prelude.{ℕ, zero, suc, pred, ◌+◌, ◌*◌, ◌/◌, ◌%◌, get_or, Option, Some, None}
use Rattle.permutation.specs.Permutation as permutation
use Rattle.opcodes.specs.Registers as registers
use Rattle.opcodes.specs.declared.words_x86_64.WordX86_64.{WordX86_64}
use Rattle.brasspurse.specs.declared.reads.ReadAnswer.{ReadAnswer}
use Rattle.brasspurse.specs.declared.permutations.PermutationAnswer.{PermutationAnswer}
use Rattle.brasspurse.specs.declared.permutations.EncodingAnswer.{EncodingAnswer}
use Rattle.brasspurse.specs.declared.words.RegisterAnswer.{RegisterAnswer}
use Rattle.brasspurse.specs.declared.words.OpcodeX86_64Answer.{OpcodeX86_64Answer}

abbrev pub read_answer : Option ℕ → ReadAnswer
read_answer (Some x) = record { granted = 1; value = x }
read_answer None = record { granted = 0; value = 0 }

unfoldable pub permutation_answer : permutation.Told → PermutationAnswer
permutation_answer (permutation.accepted rs) = record { refusal = 0; registers = rs }
permutation_answer (permutation.Told.refused k rs) = record { refusal = k; registers = rs }

unfoldable pub encoding_answer : permutation.Written → EncodingAnswer
encoding_answer (permutation.encoding e) = record { refusal = 0; encoding = e }
encoding_answer (permutation.Written.refused k) = record { refusal = k; encoding = 0 }

-- DWARF's number of a register; what is none has none
abbrev pub dwarf_told : registers.Told → ℕ
dwarf_told registers.absent = 0
dwarf_told (registers.register n) = get_or registers.dwarfs (pred n) 0
dwarf_told (registers.unknown n) = 0

abbrev pub register_answer : registers.Told → RegisterAnswer
register_answer t = record { state = registers.state_of t; number = registers.value_of t; dwarf_number = dwarf_told t }

-- The states of n fields, each at the field's own three bits.
abbrev pub states_from : ℕ → ℕ → ℕ
states_from zero f = 0
states_from (suc n) f = states_from n (f / 8) * 8 + registers.state_of (registers.named_of (f % 8))

-- A word in numbers, with the states of its five fields.
abbrev pub x86_answer : WordX86_64 → OpcodeX86_64Answer
x86_answer n =
    record { value = n.value; answer = n.answer; stack_adjust_in_bytes = n.stack_adjust_in_bytes; fields = n.fields; field_states = states_from 5 n.fields; popped_regs = n.saved_regs }
