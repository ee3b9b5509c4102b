-- docs/FORMAT.md, 10.1: the rule of an opcode word of arm64.
-- Assumes nothing.
use Rattle.std.specs.Prelude.{ℕ, suc, ◌+◌, ◌*◌, List, [], ◌∷◌, ◌++◌, Bool, cond, ltb, replicate, Result, Ok, Err}
use Rattle.opcodes.specs.WordsArm64 as words
use Rattle.opcodes.specs.WordsArm64.{parse_of}
use Rattle.frame.specs.Frame.{Anchor, stack, register, Return, slot, holds}
use Rattle.frame.specs.Downwards as downwards
use Rattle.rules.specs.Answers.{Number, numbered, refusal_of, Ruling, ruling}
use Rattle.rules.specs.declared.CfaRegister.{CfaRegister}
use Rattle.rules.specs.declared.Refusal.{Refusal}
use Rattle.rules.specs.declared.Rule.{Rule}

-- Preserved, by their places: x19 to x30 at 0 to 11, d8 to d15 at 12 to 19.

abbrev pub refusal : Number → Ruling
refusal k = record { refusal = k; anchor = stack; distance = 0; return = holds 11; below = replicate 20 0 }

-- where the lower register of the p-th pair stands: x19/x20 to x27/x28, then d8/d9 to d14/d15
abbrev pub pair_place : ℕ → ℕ
pair_place p = cond (ltb p 5) (2 * p) (2 * p + 2)

-- the registers of the pairs that are saved, from the p-th on, lower register first
abbrev pub listed_from : ℕ → List Bool → List ℕ
listed_from p [] = []
listed_from p (b ∷ bs) = cond b (pair_place p ∷ suc (pair_place p) ∷ []) [] ++ listed_from (suc p) bs

-- 9.5. Frame-based: x29 at CFA - 16, x30 at CFA - 8, the listed registers downwards from CFA - 24. 9.6. Frameless: sp is lowered by size.
abbrev pub by_word : words.Word → Ruling
by_word words.null = refusal (numbered 20 0)
by_word (words.frameless size) = ruling 20 (downwards.frameless 11 size)
by_word (words.dwarf low24) = refusal (numbered 21 low24)
by_word (words.frame_based count pairs) = ruling 20 (downwards.frame_based 8 10 11 (listed_from 0 pairs))
by_word (words.unrecognized kind) = refusal (numbered 22 kind)

unfoldable pub rule_of : ℕ → Ruling
rule_of w = by_word (parse_of w)

-- The answer.

abbrev pub anchor_told : CfaRegister → Anchor
anchor_told CfaRegister.StackPointer = stack
anchor_told CfaRegister.FramePointer = register 10

-- the return address lies at CFA - 8, except in a frameless frame, where it is x30
abbrev pub return_told : CfaRegister → Return
return_told CfaRegister.StackPointer = holds 11
return_told CfaRegister.FramePointer = slot 8

abbrev pub ruled : Rule 20 → Ruling
ruled u =
    record { refusal = numbered 0 0; anchor = anchor_told u.cfa_register; distance = u.cfa_distance; return = return_told u.cfa_register; below = u.below }

abbrev pub rule_told : Result (Rule 20) Refusal → Ruling
rule_told (Ok u) = ruled u
rule_told (Err e) = refusal (refusal_of e)
