-- Promise 0.3 of docs/FORMAT.md has an instance of every kind: a machine at entry whose registers and bytes all differ, the prologue of a word that
-- lists several registers, a body that changes all that it may, and the step's answer in numbers, by `undoes`. So its hypotheses can be met, up to
-- their bounds.
-- Assumes nothing.
use Prim.Native.Nat.{ℕ}
use mathlib.Core.Path.{◌≡◌, refl}
use mathlib.Core.List.{List, [], ◌∷◌, ◌++◌}
use native.Mathlib.Omega.{arith}
use Rattle.reader.specs.Reader.{number_at}
use Rattle.permutation.specs.Permutation.{rows}
use Rattle.frame.specs.Calls.{Machine}
use Rattle.frame.proofs.Bodies.{entered, body}
use Rattle.rules.specs.Answers.{numbered}
use Rattle.rules.specs.SoundX86 as sound-x86
use Rattle.rules.specs.SoundArm64 as sound-arm64
use Rattle.rules.proofs.FieldsX86.{tested-sound}
use Rattle.step.specs.Steps.{Told, regs_of}
use Rattle.step.specs.StepsX86 as steps-x86
use Rattle.step.specs.StepsArm64 as steps-arm64
use Rattle.step.proofs.Examples.{rising}
use Rattle.step.proofs.UndoesX86 as x86
use Rattle.step.proofs.UndoesArm64 as arm64

abbrev machine : (sp : ℕ) → (kept mem : List ℕ) → Machine
machine sp kept mem = record { regs = regs_of 0x1000 sp kept; mem = mem }

abbrev answered : (pc sp : ℕ) → (kept : List ℕ) → Told
answered pc sp kept = record { refusal = numbered 0 0; regs = regs_of pc sp kept }

-- x86_64. The registers' bytes are 0x10 to 0x3F but for r14's, the window's from 0x80 on, and a body writes from 0xD0 on.
abbrev pub kept-x86 : List ℕ
kept-x86 =
    0x1716151413121110 ∷ 0x1F1E1D1C1B1A1918 ∷ 0x2726252423222120 ∷ 0xFFFFFFFFFFFFFFFF ∷ 0x3736353433323130 ∷ 0x3F3E3D3C3B3A3938 ∷ []

-- frame-based: r13, rbx and r15 lie 56, 40 and 32 below CFA; the window is the whole frame
abbrev based-x86 : sound-x86.Sound 0x81050A43
based-x86 = sound-x86.frame_based refl (tested-sound 0x81050A43 refl)

abbrev based-mem-x86 : List ℕ
based-mem-x86 =
    rising 8 0x20 ++ rising 8 0xD0 ++ rising 8 0x10 ++ rising 8 0x30 ++ rising 8 0xD8 ++ rising 8 0x38 ++ rising 8 0xB0

pub frame-based-x86-64 : steps-x86.step_of 0x81050A43 0x7000 based-mem-x86 (regs_of 0x1234 0x6FF8 (1 ∷ 0x1F1E1D1C1B1A1918 ∷ 3 ∷ 0xFFFFFFFFFFFFFFFF ∷ 5 ∷ 0x7028 ∷ []))
    ≡ answered 0xB7B6B5B4B3B2B1B0 0x7038 kept-x86
unfolding number_at
frame-based-x86-64 =
    let mc : Machine = machine 0x7030 kept-x86 (rising 56 0x80) in
    x86.undoes 0x81050A43 based-x86 0x7000 mc (entered 8 6 0x7000 0x7038 _ mc (omega arith)) _ _ (body 8 _ _ _ _ _ _ refl)

-- frameless: 48 bytes; r13, r12 and rbp lie 32, 24 and 16 below CFA; the window is the whole frame and ends with the last address
listed-x86 : sound-x86.Listed 0x82060C2F (3 ∷ 2 ∷ 6 ∷ [])
unfolding rows
listed-x86 = record { few = omega arith; many = refl; registers = refl; once = refl; spelled = λ p. refl }

abbrev pushed-x86 : sound-x86.Sound 0x82060C2F
pushed-x86 = sound-x86.frameless (3 ∷ 2 ∷ 6 ∷ []) refl listed-x86 (omega arith)

abbrev pushed-mem-x86 : List ℕ
pushed-mem-x86 = rising 16 0xD0 ++ rising 8 0x20 ++ rising 8 0x18 ++ rising 8 0x38 ++ rising 8 0xA8

pub frameless-x86-64 : steps-x86.step_of 0x82060C2F 0xFFFFFFFFFFFFFFCF pushed-mem-x86
    (regs_of 0x1234 0xFFFFFFFFFFFFFFCF (0x1716151413121110 ∷ 2 ∷ 3 ∷ 0xFFFFFFFFFFFFFFFF ∷ 0x3736353433323130 ∷ 6 ∷ []))
    ≡ answered 0xAFAEADACABAAA9A8 0xFFFFFFFFFFFFFFFF kept-x86
unfolding number_at
frameless-x86-64 =
    let mc : Machine = machine 0xFFFFFFFFFFFFFFF7 kept-x86 (rising 48 0x80) in
    x86.undoes 0x82060C2F pushed-x86 0xFFFFFFFFFFFFFFCF mc
    (entered 8 6 0xFFFFFFFFFFFFFFCF 0xFFFFFFFFFFFFFFFF _ mc (omega arith)) _ _ (body 8 _ _ _ _ _ _ refl)

-- arm64. The registers' bytes are 0 to 0x97 but for d15's, the window's from 0xA0 on, and a body writes from 0xF8 on, or from 0x20 on.
abbrev pub kept-arm64 : List ℕ
kept-arm64 =
    0x0706050403020100 ∷ 0x0F0E0D0C0B0A0908 ∷ 0x1716151413121110 ∷ 0x1F1E1D1C1B1A1918 ∷ 0x2726252423222120
    ∷ 0x2F2E2D2C2B2A2928 ∷ 0x3736353433323130 ∷ 0x3F3E3D3C3B3A3938 ∷ 0x4746454443424140 ∷ 0x4F4E4D4C4B4A4948
    ∷ 0x5756555453525150 ∷ 0x5F5E5D5C5B5A5958 ∷ 0x6766656463626160 ∷ 0x6F6E6D6C6B6A6968 ∷ 0x7776757473727170
    ∷ 0x7F7E7D7C7B7A7978 ∷ 0x8786858483828180 ∷ 0x8F8E8D8C8B8A8988 ∷ 0x9796959493929190 ∷ 0xFFFFFFFFFFFFFFFF ∷ []

-- frame-based: x30, x29, x21, x22, x27, x28, d12 and d13 lie 8, 16 and so on to 64 below CFA; the window has 8 bytes above the whole frame
abbrev based-arm64 : sound-arm64.Sound 0x840004F2
based-arm64 = sound-arm64.frame_based refl

abbrev based-mem-arm64 : List ℕ
based-mem-arm64 =
    rising 8 0x88 ++ rising 8 0x80 ++ rising 8 0x48 ++ rising 8 0x40 ++ rising 8 0x18 ++ rising 8 0x10 ++ rising 8 0x50 ++ rising 8 0x58 ++ rising 8 0xF8

-- each listed register is changed but x29, which holds the frame
abbrev based-kept-arm64 : List ℕ
based-kept-arm64 =
    0x0706050403020100 ∷ 0x0F0E0D0C0B0A0908 ∷ 21 ∷ 22 ∷ 0x2726252423222120
    ∷ 0x2F2E2D2C2B2A2928 ∷ 0x3736353433323130 ∷ 0x3F3E3D3C3B3A3938 ∷ 27 ∷ 28
    ∷ 0x7030 ∷ 30 ∷ 0x6766656463626160 ∷ 0x6F6E6D6C6B6A6968 ∷ 0x7776757473727170
    ∷ 0x7F7E7D7C7B7A7978 ∷ 12 ∷ 13 ∷ 0x9796959493929190 ∷ 0xFFFFFFFFFFFFFFFF ∷ []

pub frame-based-arm64 : steps-arm64.step_of 0x840004F2 0x7000 based-mem-arm64 (regs_of 0x1234 0x6FF0 based-kept-arm64) ≡ answered 0x5F5E5D5C5B5A5958 0x7040 kept-arm64
frame-based-arm64 =
    let mc : Machine = machine 0x7040 kept-arm64 (rising 72 0xA0) in
    arm64.undoes 0x840004F2 based-arm64 0x7000 mc (entered 8 20 0x7000 0x7040 _ mc (omega arith)) _ _ (body 8 _ _ _ _ _ _ refl)

-- frameless: 48 bytes, and no register may change; the window is the whole frame and ends with the last address
abbrev lowered-arm64 : sound-arm64.Sound 0x820034F2
lowered-arm64 = sound-arm64.frameless refl

pub frameless-arm64 : steps-arm64.step_of 0x820034F2 0xFFFFFFFFFFFFFFCF (rising 48 0x20) (regs_of 0x1234 0xFFFFFFFFFFFFFFCF kept-arm64)
    ≡ answered 0x5F5E5D5C5B5A5958 0xFFFFFFFFFFFFFFFF kept-arm64
frameless-arm64 =
    let mc : Machine = machine 0xFFFFFFFFFFFFFFFF kept-arm64 (rising 48 0xA0) in
    arm64.undoes 0x820034F2 lowered-arm64 0xFFFFFFFFFFFFFFCF mc
    (entered 8 20 0xFFFFFFFFFFFFFFCF 0xFFFFFFFFFFFFFFFF _ mc (omega arith)) _ _ (body 8 _ _ _ _ _ _ refl)
