-- Steps with literal registers, and which refusal comes first: a table for each machine and one claim on it, by computation; and the structs'
-- fields in the definitions' terms.
-- Assumes nothing.
use Prim.Native.Nat.{ℕ, zero, suc}
use mathlib.Core.Path.{◌≡◌, refl}
use mathlib.Core.List.{List, [], ◌∷◌, ◌++◌, map}
use Rattle.reader.specs.Reader.{number_at}
use Rattle.permutation.specs.Permutation.{bounds, decode_of, rows as weights}
use Rattle.opcodes.specs.WordsX86 as words-x86
use Rattle.opcodes.specs.WordsArm64 as words-arm64
use Rattle.frame.specs.Frame.{Regs}
use Rattle.rules.specs.Answers.{numbered}
use Rattle.rules.specs.RulesX86 as rules-x86
use Rattle.rules.specs.RulesArm64 as rules-arm64
use Rattle.step.specs.Steps.{Told, regs_of}
use Rattle.step.specs.StepsX86 as x86
use Rattle.step.specs.StepsArm64 as arm64

-- n numbers, each one more than the last
abbrev pub rising : ℕ → ℕ → List ℕ
rising zero b = []
rising (suc n) b = b ∷ rising n (suc b)

pub record Asked : Type 0 where
  pub word : ℕ
  pub base : ℕ
  pub window : List ℕ
  pub regs : Regs

abbrev ask : ℕ → ℕ → List ℕ → Regs → Asked
ask w b m r = record { word = w; base = b; window = m; regs = r }

abbrev pub Row : Type 0
Row = Asked × Told

abbrev gives : Asked → Regs → Row
gives q r = (q, record { refusal = numbered 0 0; regs = r })

abbrev refuses : Asked → ℕ → ℕ → Row
refuses q k v = (q, record { refusal = numbered k v; regs = q.regs })

-- x86_64: all registers differ
abbrev regs-x86 : (rsp rbp : ℕ) → Regs
regs-x86 rsp rbp = regs_of 0x1010 rsp (0xB1 ∷ 0xC2 ∷ 0xD3 ∷ 0xE4 ∷ 0xF5 ∷ rbp ∷ [])

-- 0x01010001 reads rbx at rbp - 8, rbp and the return address
abbrev based : ℕ → List ℕ → ℕ → Asked
based base window rbp = ask 0x01010001 base window (regs-x86 0x6FF0 rbp)

-- a window whose end is 2^64
abbrev at-the-end : ℕ → Asked
at-the-end w = ask w 0xFFFFFFFFFFFFFFE8 (rising 24 1) (regs-x86 0x6FF0 0x7008)

abbrev pub rows-x86 : List Row
rows-x86 =
    gives (based 0x7000 (rising 24 1) 0x7008) (regs_of 0x1817161514131211 0x7018 (0x0807060504030201 ∷ 0xC2 ∷ 0xD3 ∷ 0xE4 ∷ 0xF5 ∷ 0x100F0E0D0C0B0A09 ∷ []))
    -- one byte fewer above, and below
    ∷ refuses (based 0x7000 (rising 23 1) 0x7008) 27 0
    ∷ refuses (based 0x7001 (rising 23 2) 0x7008) 27 0
    -- a slot at 0, and one at -1
    ∷ gives (based 0 (rising 24 1) 8) (regs_of 0x1817161514131211 24 (0x0807060504030201 ∷ 0xC2 ∷ 0xD3 ∷ 0xE4 ∷ 0xF5 ∷ 0x100F0E0D0C0B0A09 ∷ []))
    ∷ refuses (based 0 (rising 24 1) 7) 27 0
    -- the window's end at 2^64, and one lower; CFA so; no slot is inside
    ∷ refuses (at-the-end 0x01010001) 26 0
    ∷ refuses (based 0xFFFFFFFFFFFFFFE7 (rising 24 1) 0x7008) 27 0
    ∷ refuses (based 0x7000 (rising 24 1) 0xFFFFFFFFFFFFFFF0) 26 0
    ∷ refuses (based 0x7000 (rising 24 1) 0xFFFFFFFFFFFFFFEF) 27 0
    -- r13, r12 and rbp pushed, 32 bytes
    ∷ gives (ask 0x02040C2F 0x7000 (rising 32 1) (regs-x86 0x7000 0x6666))
    (regs_of 0x201F1E1D1C1B1A19 0x7020 (0xB1 ∷ 0x100F0E0D0C0B0A09 ∷ 0x0807060504030201 ∷ 0xE4 ∷ 0xF5 ∷ 0x1817161514131211 ∷ []))
    -- a word without a rule is refused before the window is looked at
    ∷ refuses (at-the-end 0xF0123456) 20 0
    ∷ refuses (at-the-end 0xA4ABCDEF) 21 0xABCDEF
    ∷ refuses (at-the-end 0x15FEDCBA) 22 5
    ∷ refuses (at-the-end 0x02000C78) 23 0
    ∷ refuses (at-the-end 0x01044000) 24 0
    ∷ refuses (at-the-end 0x734DD559) 25 0
    ∷ []

pub steps-of-x86-64 : map (λ (r : Row). x86.step_of r.0.word r.0.base r.0.window r.0.regs) rows-x86 ≡ map (λ (r : Row). r.1) rows-x86
unfolding number_at weights bounds decode_of words-x86.parse_of rules-x86.rule_of x86.step_of
steps-of-x86-64 = refl

-- arm64: x19 to x28 are 0xA0 to 0xA9, d8 to d15 are 0xD0 to 0xD7
abbrev regs-arm64 : (sp x29 : ℕ) → Regs
regs-arm64 sp x29 = regs_of 0x1010 sp (rising 10 0xA0 ++ x29 ∷ 0xB1 ∷ rising 8 0xD0)

-- 0x04000101 lists x19/x20 and d8/d9, and x29 and x30
abbrev paired : ℕ → List ℕ → ℕ → Asked
paired base window x29 = ask 0x04000101 base window (regs-arm64 0x6FF0 x29)

-- sp lowered by 16
abbrev lowered : ℕ → List ℕ → ℕ → Asked
lowered base window sp = ask 0x02001000 base window (regs-arm64 sp 0x6666)

abbrev pub rows-arm64 : List Row
rows-arm64 =
    gives (paired 0x7000 (rising 48 1) 0x7020)
    (regs_of 0x302F2E2D2C2B2A29 0x7030
    (0x201F1E1D1C1B1A19 ∷ 0x1817161514131211 ∷ rising 8 0xA2 ++ 0x2827262524232221 ∷ 0x302F2E2D2C2B2A29 ∷ 0x100F0E0D0C0B0A09 ∷ 0x0807060504030201 ∷ rising 6 0xD2))
    ∷ refuses (paired 0x7000 (rising 47 1) 0x7020) 27 0
    ∷ refuses (paired 0x7001 (rising 47 2) 0x7020) 27 0
    ∷ refuses (paired 0x7000 (rising 48 1) 0xFFFFFFFFFFFFFFF0) 26 0
    ∷ refuses (paired 0x7000 (rising 48 1) 0xFFFFFFFFFFFFFFEF) 27 0
    -- the return address is in x30, and no slot is read
    ∷ gives (lowered 0 [] 0x7000) (regs_of 0xB1 0x7010 (rising 10 0xA0 ++ 0x6666 ∷ 0xB1 ∷ rising 8 0xD0))
    ∷ gives (lowered 0 [] 0xFFFFFFFFFFFFFFEF) (regs_of 0xB1 0xFFFFFFFFFFFFFFFF (rising 10 0xA0 ++ 0x6666 ∷ 0xB1 ∷ rising 8 0xD0))
    ∷ refuses (lowered 0 [] 0xFFFFFFFFFFFFFFF0) 26 0
    ∷ refuses (lowered 0xFFFFFFFFFFFFFFFF (1 ∷ []) 0x7000) 26 0
    ∷ refuses (ask 0x80FEDCBA 0xFFFFFFFFFFFFFFFF (1 ∷ []) (regs-arm64 0x7000 0x7020)) 20 0
    ∷ refuses (ask 0x63ABCDEF 0xFFFFFFFFFFFFFFFF (1 ∷ []) (regs-arm64 0x7000 0x7020)) 21 0xABCDEF
    ∷ refuses (ask 0x31000007 0xFFFFFFFFFFFFFFFF (1 ∷ []) (regs-arm64 0x7000 0x7020)) 22 1
    ∷ []

pub steps-of-arm64 : map (λ (r : Row). arm64.step_of r.0.word r.0.base r.0.window r.0.regs) rows-arm64 ≡ map (λ (r : Row). r.1) rows-arm64
unfolding number_at words-arm64.parse_of rules-arm64.rule_of arm64.step_of
steps-of-arm64 = refl

-- What a struct's fields are called in the definitions.
pub told-x86-64 : x86.regs_told (record { rip = 0x11; rsp = 0x22; saved = rising 6 0x33 }) ≡ regs_of 0x11 0x22 (0x33 ∷ 0x34 ∷ 0x35 ∷ 0x36 ∷ 0x37 ∷ 0x38 ∷ [])
told-x86-64 = refl

pub told-arm64 : arm64.regs_told (record { pc = 0x11; sp = 0x22; saved = rising 20 0x33 }) ≡ regs_of 0x11 0x22 (rising 20 0x33)
told-arm64 = refl
