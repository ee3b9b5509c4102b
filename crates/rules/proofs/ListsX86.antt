-- The registers that a frameless word lists are those that the decoder gives, and there are such exactly if the permutation is accepted.
-- Assumes nothing.
use Prim.Native.Nat.{ℕ, zero, suc, ◌-◌, ◌<◌, ◌≤◌}
use mathlib.Core.Path.{◌≡◌, refl, ap, sym, ◌∙◌, subst}
use mathlib.Core.Bool.{true, ◌&&◌}
use mathlib.Core.List.{List, [], ◌∷◌}
use native.Mathlib.Omega.{arith}
use borrow.Author.Tests.{lt-ltb, le-leb, ne_eqb}
use lib.ListN.{length, get_or, take, replicate}
use lib.Seq.{take_at}
use Rattle.opcodes.specs.Bits.{bits}
use Rattle.permutation.specs.Permutation.{bounds, weights, digits, weighted, named, chosen, ranks, member, every, distinct, accepts, registers_of}
use Rattle.permutation.proofs.Digits.{Small, digits-small, sum-of-digits, length_digits, weighed, row-radix, weights-long}
use Rattle.permutation.proofs.Choosing.{drawn, ranks-chosen, ranked, drawn-chosen, drawn-is, length-chosen, length-ranks}
use Rattle.permutation.proofs.Laws.{Below, below-accepted}
use Rattle.permutation.proofs.Lists.{names-only}
use Rattle.permutation.proofs.Tests.{both_left, both_right}
use Rattle.frame.specs.Pushes.{Named}
use Rattle.rules.specs.SoundX86.{count_of, Listed}

-- the list that the decoder gives
abbrev pub list_of : ℕ → List ℕ
list_of w = chosen named (digits (weights (count_of w)) (bits 0 10 w))

every-named : (xs : List ℕ) → every (λ (x : ℕ). member x named) xs ≡ true → Named 6 xs
every-named [] e = tt
every-named (x ∷ xs) e =
    let n = names-only x (both_left (member x named) (every (λ (y : ℕ). member y named) xs) e) in
    (n.0, n.1, every-named xs (both_right (member x named) (every (λ (y : ℕ). member y named) xs) e))

pub list-named : (w : ℕ) (xs : List ℕ) → Listed w xs → Named 6 xs
list-named w xs l = every-named xs l.registers

list-small : (n e : ℕ) → Below n e → Small 6 (digits (weights n) e)
list-small zero e b = tt
list-small (suc n) e b =
    digits-small (weights (suc n)) 6 (get_or bounds (suc n) 0) e (row-radix (suc n) (omega arith) b.count) (b.small (omega arith))

-- an accepted word lists what the decoder gives
pub accepted-lists : (w : ℕ) → accepts (count_of w) (bits 0 10 w) ≡ true → Listed w (list_of w)
accepted-lists w a =
    let n : ℕ = count_of w in
    let e : ℕ = bits 0 10 w in
    let b = below-accepted n e a in
    let s = list-small n e b in
    let d : (every (λ (x : ℕ). member x named) (list_of w) && distinct (list_of w)) ≡ true =
    sym (drawn-is named refl (list_of w)) ∙ drawn-chosen named (digits (weights n) e) refl s in
    record {
      few = b.count;
      many = length-chosen named (digits (weights n) e) ∙ length_digits (weights n) e ∙ weights-long n b.count;
      registers = both_left (every (λ (x : ℕ). member x named) (list_of w)) (distinct (list_of w)) d;
      once = both_right (every (λ (x : ℕ). member x named) (list_of w)) (distinct (list_of w)) d;
      spelled = λ p.
          ap (weighted (weights n)) (ranks-chosen named (digits (weights n) e) refl s)
          ∙ sum-of-digits (weights n) 6 (get_or bounds n 0) e (row-radix n p b.count) (b.small p);
    }

-- digits that give the number are its digits, and the number is accepted
spells : (n e : ℕ) (xs : List ℕ) → n ≤ 6 → length xs ≡ n → Small 6 (ranks named xs) → (0 < n → weighted (weights n) (ranks named xs) ≡ e)
    → (accepts n e ≡ true) × (digits (weights n) e ≡ ranks named xs)
spells zero e [] h l s q = (refl, refl)
spells zero e (x ∷ xs) h l s q = absurd (omega arith)
spells (suc n) e xs h l s q =
    let o : 0 < suc n = omega arith in
    let v = weighed (weights (suc n)) (ranks named xs) 6 (get_or bounds (suc n) 0) (row-radix (suc n) o h) (length-ranks named xs ∙ l ∙ sym (weights-long (suc n) h)) s in
    let p : e < get_or bounds (suc n) 0 = subst (λ (k : ℕ). k < get_or bounds (suc n) 0) (q o) v.below in (
      simp (le-leb (suc n) 6 h, ne_eqb (suc n) 0 (omega arith), lt-ltb e (get_or bounds (suc n) 0) p),
      subst (λ (k : ℕ). digits (weights (suc n)) k ≡ ranks named xs) (q o) v.again,
    )

-- a list that a word lists is the decoder's, and the word is accepted
pub lists-accepted : (w : ℕ) (xs : List ℕ) → Listed w xs → (accepts (count_of w) (bits 0 10 w) ≡ true) × (list_of w ≡ xs)
lists-accepted w xs l =
    let d : drawn named xs ≡ true = drawn-is named refl xs ∙ simp (l.registers, l.once) in
    let r = ranked named xs d in
    let p = spells (count_of w) (bits 0 10 w) xs l.few l.many r.small l.spelled in
    (p.0, ap (chosen named) p.1 ∙ r.again)

-- the places up to the count have the list
pub taken : (w : ℕ) → accepts (count_of w) (bits 0 10 w) ≡ true → take (count_of w) (registers_of (count_of w) (bits 0 10 w)) ≡ list_of w
taken w a = take_at (list_of w) (replicate (6 - count_of w) 0) (count_of w) (accepted-lists w a).many
