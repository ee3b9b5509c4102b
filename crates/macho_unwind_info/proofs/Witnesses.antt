-- Promises 0.2 and 0.3 of docs/FORMAT.md together have an instance on each machine, in section S: an address that an iterated function covers,
-- whose word is sound; a machine at entry, a body that changes all that it may, and the combined call's answer in numbers.
-- Assumes nothing.
use Prim.Native.Nat.{ℕ}
use mathlib.Core.Path.{◌≡◌, refl, ap, ◌∙◌}
use mathlib.Core.List.{List, [], ◌∷◌, ◌++◌}
use native.Mathlib.Omega.{arith}
use lib.ListN.{get_or, replicate}
use Rattle.reader.specs.Reader.{Bytes, number_at}
use Rattle.lookup.specs.Lookup.{found, nothing, probes_of, lookup_on}
use Rattle.well_formed.proofs.Answers.{answered}
use Rattle.well_formed.proofs.Examples.{S, first, second, S-is-well-formed}
use Rattle.frame.specs.Frame.{Regs}
use Rattle.frame.specs.Calls.{Machine}
use Rattle.frame.proofs.Bodies.{at_most, entered, body}
use Rattle.rules.specs.Answers.{numbered}
use Rattle.rules.specs.SoundX86 as sound-x86
use Rattle.rules.specs.SoundArm64 as sound-arm64
use Rattle.rules.proofs.FieldsX86.{tested-sound}
use Rattle.step.specs.Steps.{regs_of}
use Rattle.step.proofs.Examples.{rising}
use Rattle.step.proofs.Witnesses.{kept-x86, kept-arm64}
use Rattle.macho_unwind_info.specs.Unwind.{unwound}
use Rattle.macho_unwind_info.specs.UnwindX86 as x86
use Rattle.macho_unwind_info.specs.UnwindArm64 as arm64
use Rattle.macho_unwind_info.proofs.Undoes.{undoes-x86-64, undoes-arm64}
use Rattle.macho_unwind_info.proofs.Worked.{Answered, looked, P1-to-P12}

bytes : Bytes S
bytes i = omega (arith, at_most S i)

-- P3 and P4
in-first : lookup_on S 0x103F ≡ found first 4
in-first = let e : looked (lookup_on S 0x103F) ≡ looked (found first 4) = ap (λ (l : List Answered). get_or l 2 (looked (nothing 0))) P1-to-P12 in cc

in-second : lookup_on S 0x1040 ≡ found second 3
in-second = let e : looked (lookup_on S 0x1040) ≡ looked (found second 3) = ap (λ (l : List Answered). get_or l 3 (looked (nothing 0))) P1-to-P12 in cc

-- the first function's word, 0x01010001: rbx lies 24 below CFA, and the window is the whole frame
abbrev interrupted-x86 : Regs
interrupted-x86 =
    regs_of 0x103F 0x6FF0 (1 ∷ 0x1F1E1D1C1B1A1918 ∷ 0x2726252423222120 ∷ 0xFFFFFFFFFFFFFFFF ∷ 0x3736353433323130 ∷ 0x7008 ∷ [])

pub unwinds-x86-64 : x86.unwind_of S 0x103F 0x7000 (rising 8 0x10 ++ rising 8 0x38 ++ rising 8 0x90) interrupted-x86
    ≡ unwound (numbered 0 0) 4 (regs_of 0x9796959493929190 0x7018 kept-x86)
unfolding number_at
unwinds-x86-64 =
    let mc : Machine = record { regs = regs_of 0x1000 0x7010 kept-x86; mem = rising 24 0x80 } in
    let covered = answered S bytes S-is-well-formed 0x103F first 4 in-first in
    undoes-x86-64 S bytes S-is-well-formed 0x103F first covered.0 covered.1 (sound-x86.frame_based refl (tested-sound 0x01010001 refl)) 0x7000 mc
    (entered 8 6 0x7000 0x7018 _ mc (omega arith)) _ _ (body 8 _ _ _ _ _ _ refl)
    ∙ ap (λ (n : ℕ). unwound (numbered 0 0) n (regs_of 0x9796959493929190 0x7018 kept-x86)) (ap probes_of in-first)

-- the second's, 0x02030800, is sound on arm64 too: frameless, 768 bytes
pub unwinds-arm64 : arm64.unwind_of S 0x1040 0x7000 (replicate 768 7) (regs_of 0x1040 0x7000 kept-arm64) ≡ unwound (numbered 0 0) 3 (regs_of 0x5F5E5D5C5B5A5958 0x7300 kept-arm64)
unwinds-arm64 =
    let mc : Machine = record { regs = regs_of 0x1000 0x7300 kept-arm64; mem = replicate 768 0 } in
    let covered = answered S bytes S-is-well-formed 0x1040 second 3 in-second in
    undoes-arm64 S bytes S-is-well-formed 0x1040 second covered.0 covered.1 (sound-arm64.frameless refl) 0x7000 mc
    (entered 8 20 0x7000 0x7300 _ mc (omega arith)) _ _ (body 8 _ _ _ _ _ _ refl)
    ∙ ap (λ (n : ℕ). unwound (numbered 0 0) n (regs_of 0x5F5E5D5C5B5A5958 0x7300 kept-arm64)) (ap probes_of in-second)
