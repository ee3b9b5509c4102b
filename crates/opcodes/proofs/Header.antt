-- Words read by the header's constants alone (`compact_unwind_encoding.h`): for every word the definitions say the same.
-- Assumes nothing.
use Prim.Native.Nat.{ℕ, ◌+◌, ◌-◌, ◌*◌, ◌/◌, ◌%◌, ◌^◌}
use mathlib.Core.Path.{◌≡◌, refl, ap, sym, ◌∙◌}
use mathlib.Core.Bool.{Bool, true, false, cond}
use mathlib.Core.List.{List, [], ◌∷◌, map}
use native.Mathlib.Nat.{div-one}
use lib.Dec.{eqb}
use lib.Bits.{bit_and, and_mask, and_high}
use lib.Pow.{shl-shr}
use borrow.Author.Tests.{eqb-true, eqb-false, eq-eqb, ne_eqb}
use Rattle.permutation.specs.Permutation.{decode_of}
use Rattle.opcodes.specs.Bits.{bits}
use Rattle.opcodes.specs.Registers.{field_of}
use Rattle.opcodes.specs.WordsX86 as x86
use Rattle.opcodes.specs.WordsArm64 as arm64
use Rattle.opcodes.proofs.Fields.{within}

-- the bits from `low` on, `width` of them
abbrev pub mask_of : ℕ → ℕ → ℕ
mask_of low width = 2 ^ (width + low) - 2 ^ low

-- what a word has under a mask, shifted down to bit 0
abbrev pub under : ℕ → ℕ → ℕ → ℕ
under mask low word = bit_and word mask / 2 ^ low

-- Reading a field is masking the word and shifting it down.
pub masked : (low width word : ℕ) → under (mask_of low width) low word ≡ bits low width word
masked low width word = ap (λ (x : ℕ). x / 2 ^ low) (and_high word width low) ∙ shl-shr (bits low width word) low

scaled : (k x y : ℕ) → eqb (x * 2 ^ k) (y * 2 ^ k) ≡ eqb x y
scaled k x y = go (eqb x y) refl
  where
    go : (b : Bool) → eqb x y ≡ b → eqb (x * 2 ^ k) (y * 2 ^ k) ≡ b
    go true e = eq-eqb (x * 2 ^ k) (y * 2 ^ k) (ap (λ (n : ℕ). n * 2 ^ k) (eqb-true x y e))
    go false e = ne_eqb (x * 2 ^ k) (y * 2 ^ k) (λ p. eqb-false x y e (sym (shl-shr x k) ∙ ap (λ (n : ℕ). n / 2 ^ k) p ∙ shl-shr y k))

-- a field compared where it stands, with y at its place
compared : (low width y word : ℕ) → eqb (bit_and word (mask_of low width)) (y * 2 ^ low) ≡ eqb (bits low width word) y
compared low width y word = ap (λ (x : ℕ). eqb x (y * 2 ^ low)) (and_high word width low) ∙ scaled low (bits low width word) y

-- an entry of 3 bits under a mask of m + 3 + k
entry : (m k word : ℕ) → bit_and word (2 ^ (m + 3 + k) - 1) / 2 ^ k % 8 ≡ bits k 3 word
entry m k word = ap (λ (x : ℕ). x / 2 ^ k % 8) (and_mask word (m + 3 + k)) ∙ within m k word

-- x86_64.

abbrev pub mode_x86 : ℕ → ℕ
mode_x86 w = bit_and w 0x0F000000  -- UNWIND_X86_64_MODE_MASK

abbrev pub registers_x86 : ℕ → ℕ
registers_x86 w = bit_and w 0x00007FFF  -- UNWIND_X86_64_RBP_FRAME_REGISTERS

-- five entries of 3 bits
abbrev pub entries_x86 : ℕ → List ℕ
entries_x86 w =
    let r : ℕ = registers_x86 w in
    r / 8 ^ 0 % 8 ∷ r / 8 ^ 1 % 8 ∷ r / 8 ^ 2 % 8 ∷ r / 8 ^ 3 % 8 ∷ r / 8 ^ 4 % 8 ∷ []

abbrev pub frameless_x86 : x86.Word → ℕ → x86.Told
frameless_x86 x w =
    x86.listing x (decode_of
    (under 0x00001C00 10 w)  -- UNWIND_X86_64_FRAMELESS_STACK_REG_COUNT
    (under 0x000003FF 0 w))  -- UNWIND_X86_64_FRAMELESS_STACK_REG_PERMUTATION

abbrev pub header_x86 : ℕ → x86.Told
header_x86 w =
    cond (eqb (mode_x86 w) 0) (x86.alone x86.null)
    -- UNWIND_X86_64_MODE_RBP_FRAME, UNWIND_X86_64_RBP_FRAME_OFFSET
    (cond (eqb (mode_x86 w) 0x01000000) (x86.alone (x86.frame_based (8 * under 0x00FF0000 16 w) (registers_x86 w)))
    -- UNWIND_X86_64_MODE_STACK_IMMD, UNWIND_X86_64_FRAMELESS_STACK_SIZE
    (cond (eqb (mode_x86 w) 0x02000000) (frameless_x86 (x86.frameless_immediate (8 * under 0x00FF0000 16 w)) w)
    -- UNWIND_X86_64_MODE_STACK_IND, UNWIND_X86_64_FRAMELESS_STACK_SIZE, UNWIND_X86_64_FRAMELESS_STACK_ADJUST
    (cond (eqb (mode_x86 w) 0x03000000) (frameless_x86 (x86.frameless_indirect (under 0x00FF0000 16 w) (8 * under 0x0000E000 13 w)) w)
    -- UNWIND_X86_64_MODE_DWARF, UNWIND_X86_64_DWARF_SECTION_OFFSET
    (cond (eqb (mode_x86 w) 0x04000000) (x86.alone (x86.dwarf (under 0x00FFFFFF 0 w)))
    (x86.alone (x86.unrecognized (under 0x0F000000 24 w)))))))

low-fifteen : (w : ℕ) → registers_x86 w ≡ bits 0 15 w
low-fifteen w = and_mask w 15 ∙ ap (λ (x : ℕ). x % 2 ^ 15) (sym (div-one w))

pub x86-by-header : (w : ℕ) → header_x86 w ≡ x86.parse_of w
unfolding x86.parse_of
x86-by-header w =
    simp (
      compared 24 4 0 w,
      compared 24 4 1 w,
      compared 24 4 2 w,
      compared 24 4 3 w,
      compared 24 4 4 w,
      masked 24 4 w,
      masked 16 8 w,
      masked 13 3 w,
      masked 10 3 w,
      masked 0 10 w,
      masked 0 24 w,
      low-fifteen w,
    )

-- and the entries are the word's fields
pub x86-entries : (w : ℕ) → entries_x86 w ≡ field_of 0 w ∷ field_of 1 w ∷ field_of 2 w ∷ field_of 3 w ∷ field_of 4 w ∷ []
x86-entries w = simp (entry 12 0 w, entry 9 3 w, entry 6 6 w, entry 3 9 w, entry 0 12 w)

-- arm64.

abbrev pub mode_arm64 : ℕ → ℕ
mode_arm64 w = bit_and w 0x0F000000  -- UNWIND_ARM64_MODE_MASK

abbrev pub pair_masks : List ℕ
pair_masks =
    0x00000001  -- UNWIND_ARM64_FRAME_X19_X20_PAIR
    ∷ 0x00000002  -- UNWIND_ARM64_FRAME_X21_X22_PAIR
    ∷ 0x00000004  -- UNWIND_ARM64_FRAME_X23_X24_PAIR
    ∷ 0x00000008  -- UNWIND_ARM64_FRAME_X25_X26_PAIR
    ∷ 0x00000010  -- UNWIND_ARM64_FRAME_X27_X28_PAIR
    ∷ 0x00000100  -- UNWIND_ARM64_FRAME_D8_D9_PAIR
    ∷ 0x00000200  -- UNWIND_ARM64_FRAME_D10_D11_PAIR
    ∷ 0x00000400  -- UNWIND_ARM64_FRAME_D12_D13_PAIR
    ∷ 0x00000800  -- UNWIND_ARM64_FRAME_D14_D15_PAIR
    ∷ []

abbrev pub pairs_arm64 : ℕ → List Bool
pairs_arm64 w = map (λ (mask : ℕ). eqb (bit_and w mask) mask) pair_masks

-- given the pairs
abbrev pub by_mode_arm64 : List Bool → ℕ → arm64.Word
by_mode_arm64 pairs w =
    cond (eqb (mode_arm64 w) 0) arm64.null
    -- UNWIND_ARM64_MODE_FRAMELESS, UNWIND_ARM64_FRAMELESS_STACK_SIZE_MASK
    (cond (eqb (mode_arm64 w) 0x02000000) (arm64.frameless (16 * under 0x00FFF000 12 w))
    -- UNWIND_ARM64_MODE_DWARF, UNWIND_ARM64_DWARF_SECTION_OFFSET
    (cond (eqb (mode_arm64 w) 0x03000000) (arm64.dwarf (under 0x00FFFFFF 0 w))
    -- UNWIND_ARM64_MODE_FRAME
    (cond (eqb (mode_arm64 w) 0x04000000) (arm64.frame_based (arm64.ones pairs) pairs)
    (arm64.unrecognized (under 0x0F000000 24 w)))))

abbrev pub header_arm64 : ℕ → arm64.Word
header_arm64 w = by_mode_arm64 (pairs_arm64 w) w

-- The pairs are those under the header's masks,
pub arm64-masks : (w : ℕ) → pairs_arm64 w ≡ arm64.pairs w
arm64-masks w =
    simp (
      compared 0 1 1 w,
      compared 1 1 1 w,
      compared 2 1 1 w,
      compared 3 1 1 w,
      compared 4 1 1 w,
      compared 8 1 1 w,
      compared 9 1 1 w,
      compared 10 1 1 w,
      compared 11 1 1 w,
    )

-- and so is all that a word says.
pub arm64-by-header : (w : ℕ) → header_arm64 w ≡ arm64.parse_of w
unfolding arm64.parse_of
arm64-by-header w =
    ap (λ (ps : List Bool). by_mode_arm64 ps w) (arm64-masks w)
    ∙ simp (compared 24 4 0 w, compared 24 4 2 w, compared 24 4 3 w, compared 24 4 4 w, masked 24 4 w, masked 12 12 w, masked 0 24 w)
