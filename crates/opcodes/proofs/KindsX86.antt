-- What an x86_64 word says, once its kind is known.
-- Assumes nothing.
use Prim.Native.Nat.{ℕ}
use mathlib.Core.Path.{◌≡◌, ap, ◌∙◌}
use borrow.Author.Tests.{ne_eqb}
use Rattle.opcodes.specs.Bits.{kind_of}
use Rattle.opcodes.specs.WordsX86.{unrecognized, alone, by_kind, parse_of}

pub of-kind : (k w : ℕ) → kind_of w ≡ k → parse_of w ≡ by_kind k w
unfolding parse_of
of-kind k w e = ap (λ (j : ℕ). by_kind j w) e

pub of-no-kind : (k w : ℕ) → kind_of w ≡ k → (k ≡ 0 → ⊥) → (k ≡ 1 → ⊥) → (k ≡ 2 → ⊥) → (k ≡ 3 → ⊥) → (k ≡ 4 → ⊥)
    → parse_of w ≡ alone (unrecognized k)
of-no-kind k w e n0 n1 n2 n3 n4 = of-kind k w e ∙ simp (ne_eqb k 0 n0, ne_eqb k 1 n1, ne_eqb k 2 n2, ne_eqb k 3 n3, ne_eqb k 4 n4)
