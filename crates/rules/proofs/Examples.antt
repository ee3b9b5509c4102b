-- Words and their rules with literal numbers, a table for each machine and one claim on it, by computation; the numbers of the answers' cases;
-- and that sound words there are.
-- Assumes nothing.
use Prim.Native.Nat.{ℕ}
use mathlib.Core.Path.{◌≡◌, refl}
use mathlib.Core.List.{List, [], ◌∷◌, map}
use native.Mathlib.Omega.{arith}
use lib.ListN.{replicate}
use Rattle.permutation.specs.Permutation.{bounds, decode_of, rows as weights}
use Rattle.opcodes.specs.WordsX86 as words-x86
use Rattle.opcodes.specs.WordsArm64 as words-arm64
use Rattle.frame.specs.Frame.{Anchor, stack, register, Return, slot, holds}
use Rattle.rules.specs.Answers.{numbered, refusal_of, Ruling, absent, below, saved_at}
use Rattle.rules.specs.RulesX86 as rules-x86
use Rattle.rules.specs.RulesArm64 as rules-arm64
use Rattle.rules.specs.SoundX86 as x86
use Rattle.rules.specs.SoundArm64 as arm64
use Rattle.rules.specs.declared.Refusal.{Refusal}
use Rattle.rules.specs.declared.CfaRegister.{CfaRegister}
use Rattle.rules.proofs.FieldsX86.{tested-sound}
use Rattle.rules.proofs.ListsX86.{list_of, accepted-lists}

-- a rule of x86_64: the distances of rbx, r12, r13, r14, r15 and rbp; the return address is 8 below CFA
abbrev rule : Anchor → ℕ → List ℕ → Ruling
rule a d ds = record { refusal = numbered 0 0; anchor = a; distance = d; return = slot 8; below = ds }

abbrev refused : ℕ → ℕ → Ruling
refused k v = record { refusal = numbered k v; anchor = stack; distance = 0; return = slot 8; below = 0 ∷ 0 ∷ 0 ∷ 0 ∷ 0 ∷ 0 ∷ [] }

abbrev pub rows-x86 : List (ℕ × Ruling)
rows-x86 =
    -- frame-based: all five fields, in no order; one field, at the least offset for it
    (0x912AC54B, rule (register 5) 16 (344 ∷ 328 ∷ 352 ∷ 320 ∷ 336 ∷ 16 ∷ []))
    ∷ (0x01054000, rule (register 5) 16 (0 ∷ 0 ∷ 0 ∷ 24 ∷ 0 ∷ 16 ∷ []))
    -- not sound: that field a slot too high, a field twice, a field 6, a field 7
    ∷ (0x01044000, refused 24 0)
    ∷ (0x01050041, refused 24 0)
    ∷ (0x01050006, refused 24 0)
    ∷ (0x01050007, refused 24 0)
    -- frameless: r13, r12 and rbp pushed, with room to spare, with just room, and with none for the last
    ∷ (0xE235AC2F, rule stack 424 (0 ∷ 24 ∷ 32 ∷ 0 ∷ 0 ∷ 16 ∷ []))
    ∷ (0x02040C2F, rule stack 32 (0 ∷ 24 ∷ 32 ∷ 0 ∷ 0 ∷ 16 ∷ []))
    ∷ (0x02030C2F, refused 24 0)
    -- a refused permutation, also where there would be no room, and a count of 7
    ∷ (0x82350C78, refused 23 0)
    ∷ (0x02000C78, refused 23 0)
    ∷ (0x02FF1C00, refused 23 0)
    -- indirect, the permutation accepted and refused
    ∷ (0x734DD559, refused 25 0)
    ∷ (0x734D0C78, refused 23 0)
    ∷ (0xF0123456, refused 20 0)
    ∷ (0xA4ABCDEF, refused 21 0xABCDEF)
    ∷ (0x15FEDCBA, refused 22 5)
    ∷ (0xBF000001, refused 22 15)
    ∷ []

pub rules-of-x86-64 : map (λ (r : ℕ × Ruling). rules-x86.rule_of r.0) rows-x86 ≡ map (λ (r : ℕ × Ruling). r.1) rows-x86
unfolding weights bounds decode_of words-x86.parse_of rules-x86.rule_of
rules-of-x86-64 = refl

-- a rule of arm64: the distances of x19 to x30, then of d8 to d15
abbrev rule-arm64 : Anchor → ℕ → Return → List ℕ → Ruling
rule-arm64 a d r ds = record { refusal = numbered 0 0; anchor = a; distance = d; return = r; below = ds }

abbrev refused-arm64 : ℕ → ℕ → Ruling
refused-arm64 k v = record { refusal = numbered k v; anchor = stack; distance = 0; return = holds 11; below = replicate 20 0 }

-- a frame-based word's
abbrev based-arm64 : List ℕ → Ruling
based-arm64 ds = rule-arm64 (register 10) 16 (slot 8) ds

abbrev pub rows-arm64 : List (ℕ × Ruling)
rows-arm64 =
    -- frame-based: all nine pairs; x19/x20, x23/x24, x25/x26, d10/d11 and d12/d13; none
    (0x04000F1F, based-arm64 (24 ∷ 32 ∷ 40 ∷ 48 ∷ 56 ∷ 64 ∷ 72 ∷ 80 ∷ 88 ∷ 96 ∷ 16 ∷ 8 ∷ 104 ∷ 112 ∷ 120 ∷ 128 ∷ 136 ∷ 144 ∷ 152 ∷ 160 ∷ []))
    ∷ (0xD4ABC6ED, based-arm64 (24 ∷ 32 ∷ 0 ∷ 0 ∷ 40 ∷ 48 ∷ 56 ∷ 64 ∷ 0 ∷ 0 ∷ 16 ∷ 8 ∷ 0 ∷ 0 ∷ 72 ∷ 80 ∷ 88 ∷ 96 ∷ 0 ∷ 0 ∷ []))
    ∷ (0x04000000, based-arm64 (0 ∷ 0 ∷ 0 ∷ 0 ∷ 0 ∷ 0 ∷ 0 ∷ 0 ∷ 0 ∷ 0 ∷ 16 ∷ 8 ∷ 0 ∷ 0 ∷ 0 ∷ 0 ∷ 0 ∷ 0 ∷ 0 ∷ 0 ∷ []))
    -- each pair alone; bits 5 to 7, and 12 to 23, name none
    ∷ (0x04000001, based-arm64 (24 ∷ 32 ∷ 0 ∷ 0 ∷ 0 ∷ 0 ∷ 0 ∷ 0 ∷ 0 ∷ 0 ∷ 16 ∷ 8 ∷ 0 ∷ 0 ∷ 0 ∷ 0 ∷ 0 ∷ 0 ∷ 0 ∷ 0 ∷ []))
    ∷ (0x04000002, based-arm64 (0 ∷ 0 ∷ 24 ∷ 32 ∷ 0 ∷ 0 ∷ 0 ∷ 0 ∷ 0 ∷ 0 ∷ 16 ∷ 8 ∷ 0 ∷ 0 ∷ 0 ∷ 0 ∷ 0 ∷ 0 ∷ 0 ∷ 0 ∷ []))
    ∷ (0x04000004, based-arm64 (0 ∷ 0 ∷ 0 ∷ 0 ∷ 24 ∷ 32 ∷ 0 ∷ 0 ∷ 0 ∷ 0 ∷ 16 ∷ 8 ∷ 0 ∷ 0 ∷ 0 ∷ 0 ∷ 0 ∷ 0 ∷ 0 ∷ 0 ∷ []))
    ∷ (0x04000008, based-arm64 (0 ∷ 0 ∷ 0 ∷ 0 ∷ 0 ∷ 0 ∷ 24 ∷ 32 ∷ 0 ∷ 0 ∷ 16 ∷ 8 ∷ 0 ∷ 0 ∷ 0 ∷ 0 ∷ 0 ∷ 0 ∷ 0 ∷ 0 ∷ []))
    ∷ (0x04000010, based-arm64 (0 ∷ 0 ∷ 0 ∷ 0 ∷ 0 ∷ 0 ∷ 0 ∷ 0 ∷ 24 ∷ 32 ∷ 16 ∷ 8 ∷ 0 ∷ 0 ∷ 0 ∷ 0 ∷ 0 ∷ 0 ∷ 0 ∷ 0 ∷ []))
    ∷ (0x04000100, based-arm64 (0 ∷ 0 ∷ 0 ∷ 0 ∷ 0 ∷ 0 ∷ 0 ∷ 0 ∷ 0 ∷ 0 ∷ 16 ∷ 8 ∷ 24 ∷ 32 ∷ 0 ∷ 0 ∷ 0 ∷ 0 ∷ 0 ∷ 0 ∷ []))
    ∷ (0x04000200, based-arm64 (0 ∷ 0 ∷ 0 ∷ 0 ∷ 0 ∷ 0 ∷ 0 ∷ 0 ∷ 0 ∷ 0 ∷ 16 ∷ 8 ∷ 0 ∷ 0 ∷ 24 ∷ 32 ∷ 0 ∷ 0 ∷ 0 ∷ 0 ∷ []))
    ∷ (0x04000400, based-arm64 (0 ∷ 0 ∷ 0 ∷ 0 ∷ 0 ∷ 0 ∷ 0 ∷ 0 ∷ 0 ∷ 0 ∷ 16 ∷ 8 ∷ 0 ∷ 0 ∷ 0 ∷ 0 ∷ 24 ∷ 32 ∷ 0 ∷ 0 ∷ []))
    ∷ (0x04000800, based-arm64 (0 ∷ 0 ∷ 0 ∷ 0 ∷ 0 ∷ 0 ∷ 0 ∷ 0 ∷ 0 ∷ 0 ∷ 16 ∷ 8 ∷ 0 ∷ 0 ∷ 0 ∷ 0 ∷ 0 ∷ 0 ∷ 24 ∷ 32 ∷ []))
    ∷ (0x04FFF0E0, based-arm64 (0 ∷ 0 ∷ 0 ∷ 0 ∷ 0 ∷ 0 ∷ 0 ∷ 0 ∷ 0 ∷ 0 ∷ 16 ∷ 8 ∷ 0 ∷ 0 ∷ 0 ∷ 0 ∷ 0 ∷ 0 ∷ 0 ∷ 0 ∷ []))
    ∷ (0x92ABCDEF, rule-arm64 stack 43968 (holds 11) (replicate 20 0))
    ∷ (0x80FEDCBA, refused-arm64 20 0)
    ∷ (0x63ABCDEF, refused-arm64 21 0xABCDEF)
    ∷ (0x31000007, refused-arm64 22 1)
    ∷ (0x45000007, refused-arm64 22 5)
    ∷ (0xBF000001, refused-arm64 22 15)
    ∷ []

pub rules-of-arm64 : map (λ (r : ℕ × Ruling). rules-arm64.rule_of r.0) rows-arm64 ≡ map (λ (r : ℕ × Ruling). r.1) rows-arm64
unfolding words-arm64.parse_of rules-arm64.rule_of
rules-of-arm64 = refl

-- The cases of the answers: every refusal's number and value, and on each machine the register that CFA is counted from.
pub refusals-told : map refusal_of
    (Refusal.Null ∷ Refusal.Dwarf 0xABCDEF ∷ Refusal.UnrecognizedKind 15 ∷ Refusal.InvalidFrameless
    ∷ Refusal.NotSound ∷ Refusal.FramelessIndirect ∷ Refusal.AboveAddresses ∷ Refusal.OutsideWindow ∷ [])
    ≡ (numbered 20 0 ∷ numbered 21 0xABCDEF ∷ numbered 22 15 ∷ numbered 23 0 ∷ numbered 24 0 ∷ numbered 25 0 ∷ numbered 26 0 ∷ numbered 27 0 ∷ [])
refusals-told = refl

-- What is said of each register, r12's and rbp's slots being there; and of a place past them.
pub slots-told : map (saved_at (0 ∷ 24 ∷ 0 ∷ 0 ∷ 0 ∷ 16 ∷ [])) (0 ∷ 1 ∷ 2 ∷ 5 ∷ 6 ∷ []) ≡ absent ∷ below 24 ∷ absent ∷ below 16 ∷ absent ∷ []
slots-told = refl

pub registers-told : map {B = Anchor × Anchor} (λ (c : CfaRegister). (rules-x86.anchor_told c, rules-arm64.anchor_told c)) (CfaRegister.StackPointer ∷ CfaRegister.FramePointer ∷ [])
    ≡ ((stack, stack) ∷ (register 5, register 10) ∷ [])
registers-told = refl

-- Sound: the two words of section S (docs/FORMAT.md, 2.8), and one of each kind on arm64.

-- rbx stored 8 below rbp
pub frame-based-x86-64 : x86.Sound 0x01010001
frame-based-x86-64 = x86.frame_based refl (tested-sound 0x01010001 refl)

-- rbx and r12 pushed, 24 bytes
pub frameless-x86-64 : x86.Sound 0x02030800
unfolding bounds
frameless-x86-64 = x86.frameless (list_of 0x02030800) refl (accepted-lists 0x02030800 refl) (omega arith)

-- x19 and x20
pub frame-based-arm64 : arm64.Sound 0x04000001
frame-based-arm64 = arm64.frame_based refl

-- 16 bytes
pub frameless-arm64 : arm64.Sound 0x02001000
frameless-arm64 = arm64.frameless refl
