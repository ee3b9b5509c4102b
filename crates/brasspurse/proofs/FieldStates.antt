-- The states of all fields at once: at a field's lowest bit, whether any of its three bits is set, and whether all are. And that a frame-based
-- word's answer has each field's number and state at the field's own bits.
-- Assumes nothing.
use Prim.Native.Nat.{ℕ, zero, suc, ◌+◌, ◌*◌, ◌/◌, ◌%◌, ◌^◌, ◌<◌}
use mathlib.Core.Path.{◌≡◌, refl, ap, sym, ◌∙◌}
use native.Mathlib.Nat.{div-one, mod-lt, div-add-mod'}
use native.Mathlib.Omega.{arith}
use lib.Bits.{bit_and, bit_or, and_block, and_mask, and_shr, or_shr, and_mod, or_mod, and_zero_r}
use lib.Pow.{shr-shr}
use lib.Dec.{eqb}
use borrow.Author.Tests.{eqb-true}
use Rattle.permutation.proofs.Tests.{below_at}
use Rattle.opcodes.specs.Registers.{Told as Named, absent, register, unknown, state_of, named_of, field_of}
use Rattle.opcodes.specs.Bits.{bits, kind_of}
use Rattle.opcodes.specs.WordsX86.{Told, parse_of, numbers_of}
use Rattle.opcodes.proofs.Fields.{field_in}
use Rattle.opcodes.proofs.KindsX86.{of-kind}
use Rattle.brasspurse.specs.Flat.{states_from, x86_answer}

abbrev pub any_of : ℕ → ℕ
any_of f = bit_or (bit_or f (f / 2)) (f / 4)

abbrev pub all_of : ℕ → ℕ
all_of f = bit_and (bit_and f (f / 2)) (f / 4)

-- the lowest bit of n fields
abbrev pub lowest : ℕ → ℕ
lowest zero = 0
lowest (suc n) = lowest n * 8 + 1

-- under it a number has its own lowest bit, and the rest above
under : (x n : ℕ) → bit_and x (lowest (suc n)) ≡ bit_and (x / 8) (lowest n) * 8 + x % 2
under x n =
    ap (λ (y : ℕ). bit_and y (lowest n * 2 ^ 3 + 1)) (sym (div-add-mod' x 8)) ∙ and_block 3 (x / 8) (lowest n) (x % 8) 1 (mod-lt x (omega arith)) (omega arith)
    ∙ ap (λ (y : ℕ). bit_and (x / 8) (lowest n) * 8 + y) (and_mask (x % 8) 1 ∙ omega arith)

module _ (f : ℕ) where
  halves : f / 2 / 8 ≡ f / 8 / 2
  halves = omega arith

  quarters : f / 4 / 8 ≡ f / 8 / 4
  quarters = omega arith

  any-above : any_of f / 8 ≡ any_of (f / 8)
  any-above = or_shr (bit_or f (f / 2)) (f / 4) 3 ∙ rw (or_shr f (f / 2) 3, halves, quarters) refl

  all_above : all_of f / 8 ≡ all_of (f / 8)
  all_above = and_shr (bit_and f (f / 2)) (f / 4) 3 ∙ rw (and_shr f (f / 2) 3, halves, quarters) refl

  -- the three bits of a field
  any-lowest : any_of f % 2 ≡ bit_or (bit_or (f % 2) (f / 2 % 2)) (f / 4 % 2)
  any-lowest = or_mod (bit_or f (f / 2)) (f / 4) 1 ∙ rw (or_mod f (f / 2) 1) refl

  all-lowest : all_of f % 2 ≡ bit_and (bit_and (f % 2) (f / 2 % 2)) (f / 4 % 2)
  all-lowest = and_mod (bit_and f (f / 2)) (f / 4) 1 ∙ rw (and_mod f (f / 2) 1) refl

-- a field's lowest bit goes by its own three bits, and eight numbers are tested
module _ (f : ℕ) where
  first : f % 8 % 2 ≡ f % 2
  first = omega arith

  second : f % 8 / 2 % 2 ≡ f / 2 % 2
  second = omega arith

  third : f % 8 / 4 % 2 ≡ f / 4 % 2
  third = omega arith

  any-alone : any_of f % 2 ≡ any_of (f % 8) % 2
  any-alone = any-lowest f ∙ sym (any-lowest (f % 8) ∙ rw (first, second, third) refl)

  all-alone : all_of f % 2 ≡ all_of (f % 8) % 2
  all-alone = all-lowest f ∙ sym (all-lowest (f % 8) ∙ rw (first, second, third) refl)

  one_field : any_of f % 2 + all_of f % 2 ≡ state_of (named_of (f % 8))
  one_field =
      rw (any-alone, all-alone)
      (eqb-true _ _ (below_at (λ (d : ℕ). eqb (any_of d % 2 + all_of d % 2) (state_of (named_of d))) 8 refl (f % 8) (mod-lt f (omega arith))))

pub states-at-once : (n f : ℕ) → bit_and (any_of f) (lowest n) + bit_and (all_of f) (lowest n) ≡ states_from n f
states-at-once zero f = rw (and_zero_r (any_of f), and_zero_r (all_of f)) refl
states-at-once (suc n) f =
    let rest : bit_and (any_of (f / 8)) (lowest n) + bit_and (all_of (f / 8)) (lowest n) ≡ states_from n (f / 8) = states-at-once n (f / 8) in
    let any : bit_and (any_of f) (lowest (suc n)) ≡ bit_and (any_of (f / 8)) (lowest n) * 8 + any_of f % 2 = under (any_of f) n ∙ rw (any-above f) refl in
    let all : bit_and (all_of f) (lowest (suc n)) ≡ bit_and (all_of (f / 8)) (lowest n) * 8 + all_of f % 2 = under (all_of f) n ∙ rw (all_above f) refl in
    omega (arith, any, all, rest, one_field f)

-- Field k's state stands where field k stands.

next : (k f : ℕ) → field_of (suc k) f ≡ field_of k (f / 8)
next k f =
    let e : 3 * suc k ≡ 3 + 3 * k = omega arith in
    ap (λ (x : ℕ). x % 8) (ap (λ (x : ℕ). f / 2 ^ x) e ∙ sym (shr-shr f 3 (3 * k)))

three : (t : Named) → state_of t < 8
three absent = omega arith
three (register n) = omega arith
three (unknown n) = omega arith

-- a number with one octal digit more
module _ (s d : ℕ) (h : d < 8) where
  last : (s * 8 + d) % 8 ≡ d
  last = omega arith

  rest : (s * 8 + d) / 8 ≡ s
  rest = omega arith

state-at : (n k f : ℕ) → k < n → field_of k (states_from n f) ≡ state_of (named_of (field_of k f))
state-at zero k f h = absurd (omega arith)
state-at (suc n) zero f h =
    ap (λ (x : ℕ). x % 8) (div-one (states_from (suc n) f)) ∙ last (states_from n (f / 8)) (state_of (named_of (f % 8))) (three (named_of (f % 8)))
    ∙ ap (λ (x : ℕ). state_of (named_of (x % 8))) (sym (div-one f))
state-at (suc n) (suc k) f h =
    next k (states_from (suc n) f) ∙ ap (field_of k) (rest (states_from n (f / 8)) (state_of (named_of (f % 8))) (three (named_of (f % 8))))
    ∙ state-at n k (f / 8) (omega arith) ∙ ap (λ (x : ℕ). state_of (named_of x)) (sym (next k f))

-- So a frame-based word's answer has each field's number and its state.
pub fields_told : (w k : ℕ) → kind_of w ≡ 1 → k < 5
    → (field_of k (x86_answer (numbers_of (parse_of w))).fields ≡ field_of k w)
    × (field_of k (x86_answer (numbers_of (parse_of w))).field_states ≡ state_of (named_of (field_of k w)))
fields_told w k e h = (
  ap (λ (t : Told). field_of k (x86_answer (numbers_of t)).fields) (of-kind 1 w e) ∙ field_in w k h,
  ap (λ (t : Told). field_of k (x86_answer (numbers_of t)).field_states) (of-kind 1 w e) ∙ state-at 5 k (bits 0 15 w) h
      ∙ ap (λ (x : ℕ). state_of (named_of x)) (field_in w k h),
)

-- so of the least word with an unknown field
pub least-told : field_of 0 (x86_answer (numbers_of (parse_of 0x01000007))).field_states ≡ 2
least-told = (fields_told 0x01000007 0 refl (omega arith)).1
