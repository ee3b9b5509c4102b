-- Every flat answer of the C interface in numbers, each case with values that differ: one table, one claim, by computation. So no case's number
-- and no field's meaning can change in definition and code alike without being seen here.
-- Assumes nothing.
use Prim.Native.Nat.{ℕ}
use mathlib.Core.Path.{◌≡◌, refl}
use mathlib.Core.Bool.{true, false}
use mathlib.Core.List.{List, [], ◌∷◌, map}
use Rattle.std.specs.Prelude.{Some, None}
use Rattle.raw.specs.Checked.{good, refused}
use Rattle.entries.specs.declared.Origin.{Origin}
use Rattle.entries.specs.declared.Function.{Function}
use Rattle.iterate.specs.Iterate.{cursor, answer, end}
use Rattle.lookup.specs.Lookup.{found, nothing, refusal}
use Rattle.fill.specs.Fill as filling
use Rattle.batch.specs.Batch.{numbers_of, listed}
use Rattle.permutation.specs.Permutation as permuted
use Rattle.opcodes.specs.Registers as registers
use Rattle.opcodes.specs.WordsX86 as x86
use Rattle.opcodes.specs.WordsArm64 as arm64
use Rattle.frame.specs.Frame.{Anchor, stack, register, slot}
use Rattle.rules.specs.Answers.{numbered, Ruling}
use Rattle.rules.specs.declared.CfaRegister.{CfaRegister}
use Rattle.step.specs.Steps.{Told, regs_of}
use Rattle.macho_unwind_info.specs.Unwind.{unwound}
use Rattle.brasspurse.specs.declared.reads.ReadAnswer.{ReadAnswer}
use Rattle.brasspurse.specs.declared.permutations.PermutationAnswer.{PermutationAnswer}
use Rattle.brasspurse.specs.declared.permutations.EncodingAnswer.{EncodingAnswer}
use Rattle.brasspurse.specs.declared.words.RegisterAnswer.{RegisterAnswer}
use Rattle.brasspurse.specs.declared.words.OpcodeX86_64Answer.{OpcodeX86_64Answer}
use Rattle.opcodes.specs.declared.words_arm64.«WordArm64».{«WordArm64»}
use Rattle.brasspurse.specs.declared.sections.ParseAnswer.{ParseAnswer}
use Rattle.brasspurse.specs.declared.sections.RangeAnswer.{RangeAnswer}
use Rattle.brasspurse.specs.declared.sections.LookupAnswer.{LookupAnswer}
use Rattle.brasspurse.specs.declared.sections.NextAnswer.{NextAnswer}
use Rattle.brasspurse.specs.declared.frames.RuleX86_64Answer.{RuleX86_64Answer}
use Rattle.brasspurse.specs.declared.frames.«RuleArm64Answer».{«RuleArm64Answer»}
use Rattle.brasspurse.specs.declared.frames.StepX86_64Answer.{StepX86_64Answer}
use Rattle.brasspurse.specs.declared.frames.«StepArm64Answer».{«StepArm64Answer»}
use Rattle.brasspurse.specs.declared.unwind.UnwindX86_64Answer.{UnwindX86_64Answer}
use Rattle.brasspurse.specs.declared.unwind.«UnwindArm64Answer».{«UnwindArm64Answer»}
use Rattle.brasspurse.specs.Flat.{read_answer, permutation_answer, encoding_answer, register_answer, x86_answer}
use Rattle.brasspurse.specs.Sections.{parse_answer, range_answer, lookup_answer, next_answer, FillOutcome, filled_outcome, fill_answer}
use Rattle.brasspurse.specs.Frames.{register_number, rule_x86_answer, rule_arm64_answer, step_x86_answer, step_arm64_answer}
use Rattle.brasspurse.specs.Unwinds.{unwind_x86_answer, unwind_arm64_answer}

pub data Flat : Type 0 where
  read : ReadAnswer → Flat
  permutation : PermutationAnswer → Flat
  encoding : EncodingAnswer → Flat
  named : RegisterAnswer → Flat
  word-x86-64 : OpcodeX86_64Answer → Flat
  word-arm64 : «WordArm64» → Flat
  lists : ParseAnswer → Flat
  range : RangeAnswer → Flat
  lookup : LookupAnswer → Flat
  next : NextAnswer → Flat
  fill : FillOutcome → Flat
  batched : List ℕ → Flat
  anchor : (number : ℕ) → Flat
  rule-x86-64 : RuleX86_64Answer → Flat
  rule-arm64 : «RuleArm64Answer» → Flat
  step-x86-64 : StepX86_64Answer → Flat
  step-arm64 : «StepArm64Answer» → Flat
  unwind-x86-64 : UnwindX86_64Answer → Flat
  unwind-arm64 : «UnwindArm64Answer» → Flat

abbrev function : Origin → Function
function o = record { start_address = 0x11; end_address = 0x12; opcode = 0x13; page = 0x16; index = 0x17; origin = o }

-- with a function of that origin, and without one
abbrev looked : (origin : ℕ) → Flat
looked o = lookup (record { start = 0x11; end = 0x12; opcode = 0x13; page = 0x16; index = 0x17; origin = o; probes = 0x14; outcome = 1; refusal = 0 })

abbrev not-looked : (outcome refusal : ℕ) → Flat
not-looked a k = lookup (record { start = 0; end = 0; opcode = 0; page = 0; index = 0; origin = 0; probes = 0x14; outcome = a; refusal = k })

abbrev called : (origin : ℕ) → Flat
called o = next (record { start = 0x11; end = 0x12; opcode = 0x13; page = 0x14; index = 0x15; function_page = 0x16; function_index = 0x17; origin = o; outcome = 1; refusal = 0 })

abbrev not-called : (outcome refusal : ℕ) → Flat
not-called a k = next (record { start = 0; end = 0; opcode = 0; page = 0x14; index = 0x15; function_page = 0; function_index = 0; origin = 0; outcome = a; refusal = k })

abbrev ruling : Anchor → Ruling
ruling a = record { refusal = numbered 21 0x14; anchor = a; distance = 0x15; return = slot 8; below = 0x16 ∷ 0x17 ∷ [] }

abbrev stepped : Told
stepped = record { refusal = numbered 22 0x14; regs = regs_of 0x15 0x16 (0x17 ∷ 0x18 ∷ []) }

abbrev saved : List ℕ
saved = 0x21 ∷ 0x22 ∷ []

abbrev filled : filling.Why → filling.Outcome
filled w = record { functions = 0x11; next = cursor 0x12 0x13; why = w; list = 0x14 ∷ [] }

abbrev says : x86.Word → Flat
says w = word-x86-64 (x86_answer (x86.numbers_of (record { word = w; saved = saved })))

abbrev x86-64 : (answer value adjust fields states : ℕ) → Flat
x86-64 a v d fs ss =
    word-x86-64 (record { value = v; answer = a; stack_adjust_in_bytes = d; fields = fs; field_states = ss; popped_regs = saved })

abbrev says-arm64 : arm64.Word → Flat
says-arm64 w = word-arm64 (arm64.in_numbers w)

abbrev on-arm64 : (answer value count pairs : ℕ) → Flat
on-arm64 a v n ps = word-arm64 (record { value = v; answer = a; saved_reg_pair_count = n; saved_pairs = ps })

abbrev pub rows : List (Flat × Flat)
rows =
    (read (read_answer (Some 0x11)), read (record { granted = 1; value = 0x11 }))
    ∷ (read (read_answer None), read (record { granted = 0; value = 0 }))
    ∷ (permutation (permutation_answer (permuted.accepted saved)), permutation (record { refusal = 0; registers = saved }))
    ∷ (permutation (permutation_answer (permuted.Told.refused 23 saved)), permutation (record { refusal = 23; registers = saved }))
    ∷ (encoding (encoding_answer (permuted.encoding 0x11)), encoding (record { refusal = 0; encoding = 0x11 }))
    ∷ (encoding (encoding_answer (permuted.Written.refused 28)), encoding (record { refusal = 28; encoding = 0 }))
    ∷ (named (register_answer registers.absent), named (record { state = 0; number = 0; dwarf_number = 0 }))
    ∷ (named (register_answer (registers.register 2)), named (record { state = 1; number = 2; dwarf_number = 12 }))
    ∷ (named (register_answer (registers.unknown 7)), named (record { state = 2; number = 7; dwarf_number = 0 }))
    ∷ (says x86.null, x86-64 0 0 0 0 0)
    -- fields 4 to 0 are 7, 1, 6, 0 and 7; all of them 0; each of the eight numbers
    ∷ (says (x86.frame_based 0x11 0o71607), x86-64 1 0x11 0 0o71607 0o21102)
    ∷ (says (x86.frame_based 0x11 0), x86-64 1 0x11 0 0 0)
    ∷ (says (x86.frame_based 0x11 0o32107), x86-64 1 0x11 0 0o32107 0o11102)
    ∷ (says (x86.frame_based 0x11 0o76540), x86-64 1 0x11 0 0o76540 0o21110)
    ∷ (says (x86.frameless_immediate 0x11), x86-64 2 0x11 0 0 0)
    ∷ (says (x86.frameless_indirect 0x11 0x12), x86-64 3 0x11 0x12 0 0)
    ∷ (says (x86.dwarf 0x11), x86-64 4 0x11 0 0 0)
    ∷ (says x86.invalid_frameless, x86-64 5 0 0 0 0)
    ∷ (says (x86.unrecognized 0x11), x86-64 6 0x11 0 0 0)
    ∷ (says-arm64 arm64.null, on-arm64 0 0 0 0)
    ∷ (says-arm64 (arm64.frameless 0x11), on-arm64 1 0x11 0 0)
    ∷ (says-arm64 (arm64.dwarf 0x11), on-arm64 2 0x11 0 0)
    -- x19/x20, x21/x22, x25/x26, d8/d9 and d14/d15 are bits 0, 1, 3, 8 and 11
    ∷ (says-arm64 (arm64.frame_based 5 (true ∷ true ∷ false ∷ true ∷ false ∷ true ∷ false ∷ false ∷ true ∷ [])), on-arm64 3 0 5 0x90b)
    ∷ (says-arm64 (arm64.unrecognized 0x11), on-arm64 4 0x11 0 0)
    ∷ (
      lists (parse_answer (good (record { global_opcodes_offset = 0x11; global_opcodes_len = 0x12; pages_offset = 0x13; pages_len = 0x14 }))),
      lists (record { refusal = 0; global_opcodes_offset = 0x11; global_opcodes_len = 0x12; pages_offset = 0x13; pages_len = 0x14 }),
    )
    ∷ (lists (parse_answer (refused 2)), lists (record { refusal = 2; global_opcodes_offset = 0; global_opcodes_len = 0; pages_offset = 0; pages_len = 0 }))
    ∷ (range (range_answer (good (record { start = 0x11; end = 0x12 }))), range (record { refusal = 0; start = 0x11; end = 0x12 }))
    ∷ (range (range_answer (refused 3)), range (record { refusal = 3; start = 0; end = 0 }))
    ∷ (lookup (lookup_answer (nothing 0x14)), not-looked 0 0)
    ∷ (lookup (lookup_answer (found (function Origin.Regular) 0x14)), looked 1)
    ∷ (lookup (lookup_answer (found (function Origin.Global) 0x14)), looked 2)
    ∷ (lookup (lookup_answer (found (function Origin.Local) 0x14)), looked 3)
    ∷ (lookup (lookup_answer (refusal 12 0x14)), not-looked 2 12)
    ∷ (next (next_answer (end (cursor 0x14 0x15))), not-called 0 0)
    ∷ (next (next_answer (answer (good (function Origin.Regular)) (cursor 0x14 0x15))), called 1)
    ∷ (next (next_answer (answer (good (function Origin.Global)) (cursor 0x14 0x15))), called 2)
    ∷ (next (next_answer (answer (good (function Origin.Local)) (cursor 0x14 0x15))), called 3)
    ∷ (next (next_answer (answer (refused 14) (cursor 0x14 0x15))), not-called 2 14)
    -- an answer of a batch: origin, probes, outcome and refusal, a byte each, from the lowest on
    ∷ (batched (listed (numbers_of (nothing 0x14))), batched (0 ∷ 0 ∷ 0 ∷ 0 ∷ 0 ∷ 0x00001400 ∷ []))
    ∷ (batched (listed (numbers_of (found (function Origin.Local) 0x14))), batched (0x11 ∷ 0x12 ∷ 0x13 ∷ 0x16 ∷ 0x17 ∷ 0x00011403 ∷ []))
    ∷ (batched (listed (numbers_of (refusal 12 0x14))), batched (0 ∷ 0 ∷ 0 ∷ 0 ∷ 0 ∷ 0x0c021400 ∷ []))
    ∷ (fill (fill_answer (filled filling.ended)), fill (filled_outcome (record { functions = 0x11; page = 0x12; index = 0x13; outcome = 0; refusal = 0 }) (0x14 ∷ [])))
    ∷ (fill (fill_answer (filled filling.full)), fill (filled_outcome (record { functions = 0x11; page = 0x12; index = 0x13; outcome = 1; refusal = 0 }) (0x14 ∷ [])))
    ∷ (fill (fill_answer (filled (filling.refusal 13))), fill (filled_outcome (record { functions = 0x11; page = 0x12; index = 0x13; outcome = 2; refusal = 13 }) (0x14 ∷ [])))
    ∷ (anchor (register_number CfaRegister.StackPointer), anchor 0)
    ∷ (anchor (register_number CfaRegister.FramePointer), anchor 1)
    ∷ (rule-x86-64 (rule_x86_answer (ruling stack)), rule-x86-64 (record { refusal = 21; value = 0x14; cfa_distance = 0x15; cfa_register = 0; below = 0x16 ∷ 0x17 ∷ [] }))
    ∷ (rule-x86-64 (rule_x86_answer (ruling (register 5))), rule-x86-64 (record { refusal = 21; value = 0x14; cfa_distance = 0x15; cfa_register = 1; below = 0x16 ∷ 0x17 ∷ [] }))
    ∷ (rule-arm64 (rule_arm64_answer (ruling stack)), rule-arm64 (record { refusal = 21; value = 0x14; cfa_distance = 0x15; cfa_register = 0; below = 0x16 ∷ 0x17 ∷ [] }))
    ∷ (rule-arm64 (rule_arm64_answer (ruling (register 10))), rule-arm64 (record { refusal = 21; value = 0x14; cfa_distance = 0x15; cfa_register = 1; below = 0x16 ∷ 0x17 ∷ [] }))
    ∷ (step-x86-64 (step_x86_answer stepped), step-x86-64 (record { refusal = 22; value = 0x14; registers = record { rip = 0x15; rsp = 0x16; saved = 0x17 ∷ 0x18 ∷ [] } }))
    ∷ (step-arm64 (step_arm64_answer stepped), step-arm64 (record { refusal = 22; value = 0x14; registers = record { pc = 0x15; sp = 0x16; saved = 0x17 ∷ 0x18 ∷ [] } }))
    ∷ (
      unwind-x86-64 (unwind_x86_answer (unwound (numbered 22 0x11) 0x12 (regs_of 0x13 0x14 saved))),
      unwind-x86-64 (record { refusal = 22; value = 0x11; probes = 0x12; registers = record { rip = 0x13; rsp = 0x14; saved = saved } }),
    )
    ∷ (
      unwind-arm64 (unwind_arm64_answer (unwound (numbered 22 0x11) 0x12 (regs_of 0x13 0x14 saved))),
      unwind-arm64 (record { refusal = 22; value = 0x11; probes = 0x12; registers = record { pc = 0x13; sp = 0x14; saved = saved } }),
    )
    ∷ []

pub told-in-numbers : map (λ (r : Flat × Flat). r.0) rows ≡ map (λ (r : Flat × Flat). r.1) rows
unfolding permutation_answer encoding_answer
told-in-numbers = refl
