-- What an arm64 word says, once its kind is known, and how many of its pairs are set.
-- Assumes nothing.
use Prim.Native.Nat.{ℕ, ◌+◌, ◌*◌, ◌/◌, ◌%◌, ◌^◌, ◌<◌}
use mathlib.Core.Path.{◌≡◌, refl, ap, sym, ◌∙◌}
use native.Mathlib.Nat.{div-one, mod-lt, div-add-mod'}
use lib.Bits.{bit_and, and_block, and_mask}
use lib.Pow.{mod-mod-pow}
use native.Mathlib.Omega.{arith}
use lib.Count.{ones_cat}
use lib.Count as count
use borrow.Author.Tests.{ne_eqb}
use Rattle.opcodes.specs.Bits.{bits, kind_of}
use Rattle.opcodes.specs.WordsArm64.{unrecognized, pairs, ones, by_kind, parse_of}
use Rattle.opcodes.proofs.FieldBits.{counted}

pub of-kind : (k w : ℕ) → kind_of w ≡ k → parse_of w ≡ by_kind k w
unfolding parse_of
of-kind k w e = ap (λ (j : ℕ). by_kind j w) e

pub of-no-kind : (k w : ℕ) → kind_of w ≡ k → (k ≡ 0 → ⊥) → (k ≡ 2 → ⊥) → (k ≡ 3 → ⊥) → (k ≡ 4 → ⊥) → parse_of w ≡ unrecognized k
of-no-kind k w e n0 n2 n3 n4 = of-kind k w e ∙ simp (ne_eqb k 0 n0, ne_eqb k 2 n2, ne_eqb k 3 n3, ne_eqb k 4 n4)

-- under its mask a word has bits 0 to 4 and 8 to 11
pub under-mask : (w : ℕ) → bit_and w 0xF1F ≡ bits 8 4 w * 2 ^ 8 + bits 0 5 w
under-mask w =
    ap (λ (x : ℕ). bit_and x 0xF1F) (sym (div-add-mod' w (2 ^ 8)))
    ∙ and_block 8 (w / 2 ^ 8) 0xF (w % 2 ^ 8) 0x1F (mod-lt w (omega arith)) (omega arith)
    ∙ rw (and_mask (w / 2 ^ 8) 4, and_mask (w % 2 ^ 8) 5, mod-mod-pow w 3 5, div-one w) refl

-- the pair count is the ones under that mask
pub pairs-counted : (w : ℕ) → count.ones (bit_and w 0xF1F) ≡ ones (pairs w)
pairs-counted w =
    let below-32 : bits 0 5 w < 2 ^ 5 = mod-lt (w / 2 ^ 0) (omega arith) in
    ap count.ones (under-mask w) ∙ ones_cat 8 (bits 8 4 w) (bits 0 5 w) (omega (arith, below-32))
    ∙ rw (counted 4 8 w, counted 5 0 w) (omega arith)
