-- What frameless words list: registers, as many as counted, and then absent ones, never an unknown.
-- Assumes nothing.
use Prim.Native.Nat.{ℕ, zero, suc, ◌-◌, ◌<◌, ◌≤◌}
use mathlib.Core.Path.{◌≡◌, refl, ap, sym, ◌∙◌}
use mathlib.Core.Logic.{◌⊎◌, inl, inr}
use mathlib.Core.Bool.{Bool, true, cond}
use mathlib.Core.List.{List, [], ◌∷◌, ◌++◌}
use native.Mathlib.Omega.{arith}
use native.Mathlib.Decide.{dec_lt}
use borrow.Author.Tests.{le-leb, ne_eqb, lt-ltb, le-ltb}
use lib.Dec.{ltb}
use lib.ListN.{length, get_or, replicate}
use Rattle.opcodes.specs.Bits.{bits, kind_of}
use Rattle.opcodes.specs.Registers.{named_of, state_of}
use Rattle.opcodes.specs.WordsX86 as words
use Rattle.opcodes.specs.WordsX86.{parse_of}
use Rattle.opcodes.proofs.KindsX86.{of-kind}
use Rattle.permutation.specs.Permutation.{accepts, bounds}
use Rattle.frame.specs.Pushes.{Named}
use Rattle.frame.proofs.Distances.{get_or-zeroes}
use Rattle.rules.specs.SoundX86.{count_of}
use Rattle.rules.proofs.ListsX86.{list_of, accepted-lists, list-named}
use Rattle.rules.proofs.SaysX86.{lists}

register-state : (x : ℕ) → 0 < x → x ≤ 6 → state_of (named_of x) ≡ 1
register-state x l h = simp (ne_eqb x 0 (λ z. omega arith), le-leb x 6 h)

later : (k n : ℕ) → ltb k n ≡ ltb (suc k) (suc n)
later k n = go (dec_lt k n)
  where
    go : Dec (k < n) → ltb k n ≡ ltb (suc k) (suc n)
    go (yes h) = lt-ltb k n h ∙ sym (lt-ltb (suc k) (suc n) (omega arith))
    go (no h) = le-ltb k n (omega arith) ∙ sym (le-ltb (suc k) (suc n) (omega arith))

named-states : (xs : List ℕ) → Named 6 xs → (m k : ℕ) → state_of (named_of (get_or (xs ++ replicate m 0) k 0)) ≡ cond (ltb k (length xs)) 1 0
named-states [] g m k = rw (get_or-zeroes m k, le-ltb k 0 (omega arith)) refl
named-states (x ∷ xs) g m zero = register-state x g.0 g.1 ∙ sym (simp (lt-ltb 0 (suc (length xs)) (omega arith)))
named-states (x ∷ xs) g m (suc k) = named-states xs g.2 m k ∙ ap (λ (b : Bool). cond b 1 0) (later k (length xs))

-- as many registers as the count says, and then none
pub registers-listed : (w : ℕ) → (kind_of w ≡ 2) ⊎ (kind_of w ≡ 3) → accepts (count_of w) (bits 0 10 w) ≡ true → (k : ℕ)
    → state_of (named_of (get_or (parse_of w).saved k 0)) ≡ cond (ltb k (count_of w)) 1 0
registers-listed w kind a k =
    ap (λ (rs : List ℕ). state_of (named_of (get_or rs k 0))) (saved kind) ∙ named-states (list_of w) (list-named w (list_of w) (accepted-lists w a)) (6 - count_of w) k
    ∙ ap (λ (n : ℕ). cond (ltb k n) 1 0) (accepted-lists w a).many
  where
    saved : (kind_of w ≡ 2) ⊎ (kind_of w ≡ 3) → (parse_of w).saved ≡ list_of w ++ replicate (6 - count_of w) 0
    saved (inl e) = ap (λ (t : words.Told). t.saved) (lists w _ (of-kind 2 w e) a)
    saved (inr e) = ap (λ (t : words.Told). t.saved) (lists w _ (of-kind 3 w e) a)

-- three of them, of a word that is frameless immediate
pub three-listed : (k : ℕ) → state_of (named_of (get_or (parse_of 0xE235AC2F).saved k 0)) ≡ cond (ltb k 3) 1 0
unfolding bounds
three-listed k = registers-listed 0xE235AC2F (inl refl) refl k
