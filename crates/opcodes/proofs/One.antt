-- Two answers that conform to a contract are one answer, since what was told gives the answer back. (The contracts of
-- `new`, `kind`, `specific_bits`, `number`, `dwarf_number`, `WordX86_64::parse` and `WordArm64::parse` give the answer itself.)
-- Assumes nothing.
use Prim.Native.Nat.{ℕ, zero, suc}
use mathlib.Core.Path.{◌≡◌, refl, ap, sym, ◌∙◌}
use mathlib.Core.Bool.{Bool, false}
use mathlib.Core.List.{List}
use lib.ListN.{get_or}
use mathlib.Mathlib.Logic.Function.Defs.{LeftInverse, LeftInverse-Injective}
use Rattle.opcodes.specs.Registers as registers
use Rattle.opcodes.specs.WordsX86 as x86
use Rattle.opcodes.specs.WordsArm64 as arm
use Rattle.opcodes.specs.declared.bitfield.OpcodeBitfield.{OpcodeBitfield}
use Rattle.opcodes.specs.declared.x86_64.RegisterNameX86_64.TheVariants.{Rbx, R12, R13, R14, R15, Rbp}
use Rattle.opcodes.specs.declared.x86_64.Named.{Named}
use Rattle.opcodes.specs.declared.x86_64.OpcodeX86_64.{OpcodeX86_64}
use Rattle.opcodes.specs.declared.arm64.«OpcodeArm64».{«OpcodeArm64»}

abbrev back_named : registers.Told → Named
back_named registers.absent = Named.Absent
back_named (registers.unknown n) = Named.Unknown n
back_named (registers.register zero) = Named.Absent
back_named (registers.register (suc zero)) = Named.Register Rbx
back_named (registers.register (suc (suc zero))) = Named.Register R12
back_named (registers.register (suc (suc (suc zero)))) = Named.Register R13
back_named (registers.register (suc (suc (suc (suc zero))))) = Named.Register R14
back_named (registers.register (suc (suc (suc (suc (suc zero)))))) = Named.Register R15
back_named (registers.register (suc (suc (suc (suc (suc (suc n))))))) = Named.Register Rbp

way_named : LeftInverse back_named registers.told
way_named (Named.Register Rbx) = refl
way_named (Named.Register R12) = refl
way_named (Named.Register R13) = refl
way_named (Named.Register R14) = refl
way_named (Named.Register R15) = refl
way_named (Named.Register Rbp) = refl
way_named Named.Absent = refl
way_named (Named.Unknown n) = refl

pub one-named : (t : registers.Told) (x y : Named) → registers.told x ≡ t → registers.told y ≡ t → x ≡ y
one-named t x y p q = LeftInverse-Injective back_named registers.told way_named x y (p ∙ sym q)

abbrev back_x86 : x86.Word → List ℕ → OpcodeX86_64
back_x86 x86.null saved = OpcodeX86_64.Null
back_x86 (x86.frame_based offset fields) saved = OpcodeX86_64.FrameBased offset fields
back_x86 (x86.frameless_immediate size) saved = OpcodeX86_64.FramelessImmediate size saved
back_x86 (x86.frameless_indirect place adjust) saved = OpcodeX86_64.FramelessIndirect place adjust saved
back_x86 (x86.dwarf low24) saved = OpcodeX86_64.Dwarf low24
back_x86 x86.invalid_frameless saved = OpcodeX86_64.InvalidFrameless
back_x86 (x86.unrecognized kind) saved = OpcodeX86_64.UnrecognizedKind kind

abbrev back_told : x86.Told → OpcodeX86_64
back_told t = back_x86 t.word t.saved

way_x86 : LeftInverse back_told x86.told
way_x86 OpcodeX86_64.Null = refl
way_x86 (OpcodeX86_64.FrameBased offset fields) = refl
way_x86 (OpcodeX86_64.FramelessImmediate size saved) = refl
way_x86 (OpcodeX86_64.FramelessIndirect place adjust saved) = refl
way_x86 (OpcodeX86_64.Dwarf low24) = refl
way_x86 OpcodeX86_64.InvalidFrameless = refl
way_x86 (OpcodeX86_64.UnrecognizedKind kind) = refl

pub one-x86-64 : (t : x86.Told) (x y : OpcodeX86_64) → x86.told x ≡ t → x86.told y ≡ t → x ≡ y
one-x86-64 t x y p q = LeftInverse-Injective back_told x86.told way_x86 x y (p ∙ sym q)

abbrev back_pairs : ℕ → List Bool → «OpcodeArm64»
back_pairs n bs =
    let at : ℕ → Bool = λ i. get_or bs i false in
    «OpcodeArm64».FrameBased n (at 0) (at 1) (at 2) (at 3) (at 4) (at 5) (at 6) (at 7) (at 8)

abbrev back_arm64 : arm.Word → «OpcodeArm64»
back_arm64 arm.null = «OpcodeArm64».Null
back_arm64 (arm.frameless size) = «OpcodeArm64».Frameless size
back_arm64 (arm.dwarf low24) = «OpcodeArm64».Dwarf low24
back_arm64 (arm.frame_based n bs) = back_pairs n bs
back_arm64 (arm.unrecognized kind) = «OpcodeArm64».UnrecognizedKind kind

way_arm64 : LeftInverse back_arm64 arm.told
way_arm64 «OpcodeArm64».Null = refl
way_arm64 («OpcodeArm64».Frameless size) = refl
way_arm64 («OpcodeArm64».Dwarf low24) = refl
way_arm64 («OpcodeArm64».FrameBased n x19 x21 x23 x25 x27 d8 d10 d12 d14) = refl
way_arm64 («OpcodeArm64».UnrecognizedKind kind) = refl

pub one-arm64 : (t : arm.Word) (x y : «OpcodeArm64») → arm.told x ≡ t → arm.told y ≡ t → x ≡ y
one-arm64 t x y p q = LeftInverse-Injective back_arm64 arm.told way_arm64 x y (p ∙ sym q)

-- a bitfield holds its one number
pub one-bitfield : (v : ℕ) (x y : OpcodeBitfield) → x.0 ≡ v → y.0 ≡ v → x ≡ y
one-bitfield v x y p q = ap {B = OpcodeBitfield} (λ (n : ℕ). record { 0 = n }) (p ∙ sym q)
