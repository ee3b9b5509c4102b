-- docs/FORMAT.md, 10.1: the rule of an opcode word of x86_64.
-- Assumes nothing.
use Rattle.std.specs.Prelude.{ℕ, suc, ◌+◌, ◌*◌, List, [], ◌∷◌, Bool, true, false, cond, not, ◌&&◌, leb, ltb, length, take, replicate, Result, Ok, Err}
use Rattle.opcodes.specs.Bits.{bits}
use Rattle.opcodes.specs.Registers.{Told, absent, register as named, unknown, named_of, fields_in}
use Rattle.opcodes.specs.WordsX86 as words
use Rattle.opcodes.specs.WordsX86.{parse_of}
use Rattle.frame.specs.Frame.{Anchor, stack, register, slot}
use Rattle.permutation.specs.Permutation.{member}
use Rattle.frame.specs.Pushes as pushes
use Rattle.frame.specs.Fields as fields
use Rattle.rules.specs.Answers.{Number, numbered, refusal_of, Ruling, ruling}
use Rattle.rules.specs.declared.CfaRegister.{CfaRegister}
use Rattle.rules.specs.declared.Refusal.{Refusal}
use Rattle.rules.specs.declared.Rule.{Rule}

-- Preserved, by their places: rbx, r12, r13, r14, r15, rbp. The return address lies at CFA - 8.
abbrev pub refusal : Number → Ruling
refusal k = record { refusal = k; anchor = stack; distance = 0; return = slot 8; below = replicate 6 0 }

-- 9.2. What field k says is sound: it is absent, or a register, but not rbp, 8k < offset, and no later field names it too. An unknown is not.
abbrev pub field_sound : ℕ → ℕ → Told → List ℕ → Bool
field_sound offset k absent later = true
field_sound offset k (named n) later = leb n 5 && ltb (8 * k) offset && not (member n later)
field_sound offset k (unknown n) later = false

-- so of all fields from field k on
abbrev pub fields_sound : ℕ → ℕ → List ℕ → Bool
fields_sound offset k [] = true
fields_sound offset k (f ∷ fs) = field_sound offset k (named_of f) fs && fields_sound offset (suc k) fs

-- 9.2. Frame-based: rbp at CFA - 16; field k, if not 0, at CFA - 16 - offset + 8k.
abbrev pub based : ℕ → List ℕ → Ruling
based offset fs = cond (fields_sound offset 0 fs) (ruling 6 (fields.frame_based 8 5 offset fs)) (refusal (numbered 24 0))

-- 9.3. Frameless immediate: the registers pushed, the last at CFA - 16; the size has room for them and the return address.
abbrev pub frameless : ℕ → List ℕ → Ruling
frameless size xs = cond (leb (8 + 8 * length xs) size) (ruling 6 (pushes.frameless 8 size xs)) (refusal (numbered 24 0))

-- By what the word says, and bits 10 to 12, its count.
abbrev pub by_word : ℕ → words.Word → List ℕ → Ruling
by_word n words.null saved = refusal (numbered 20 0)
by_word n (words.frame_based offset fields) saved = based offset (fields_in fields)
by_word n (words.frameless_immediate size) saved = frameless size (take n saved)
by_word n (words.frameless_indirect place adjust) saved = refusal (numbered 25 0)
by_word n (words.dwarf low24) saved = refusal (numbered 21 low24)
by_word n words.invalid_frameless saved = refusal (numbered 23 0)
by_word n (words.unrecognized kind) saved = refusal (numbered 22 kind)

unfoldable pub rule_of : ℕ → Ruling
rule_of w = by_word (bits 10 3 w) (parse_of w).word (parse_of w).saved

-- The answer.

abbrev pub anchor_told : CfaRegister → Anchor
anchor_told CfaRegister.StackPointer = stack
anchor_told CfaRegister.FramePointer = register 5

abbrev pub rule_told : Result (Rule 6) Refusal → Ruling
rule_told (Ok u) = record { refusal = numbered 0 0; anchor = anchor_told u.cfa_register; distance = u.cfa_distance; return = slot 8; below = u.below }
rule_told (Err e) = refusal (refusal_of e)
