-- What stands in the list as functions are written one after the other.
-- Assumes nothing.
use Prim.Native.Nat.{ℕ, suc, ◌+◌, ◌*◌, ◌≤◌}
use mathlib.Core.Path.{◌≡◌, refl, ap, sym, ◌∙◌}
use mathlib.Core.List.{List, [], ◌∷◌, ◌++◌, append_assoc}
use native.Mathlib.Nat.{suc-add, zero-add}
use native.Mathlib.Omega.{arith}
use lib.ListN.{length, get_or, drop, set, length-append, length-drop}
use lib.Seq.{drop-cons}
use Rattle.entries.specs.declared.Function.{Function}
use Rattle.fill.specs.Fill.{numbers_of, written_over}
use Rattle.fill.specs.Block.{put_of}

pub numbers-length : (fs : List Function) → length (numbers_of fs) ≡ 3 * length fs
unfolding numbers_of
numbers-length [] = refl
numbers-length (f ∷ fs) = omega (arith, numbers-length fs)

pub numbers-append : (fs gs : List Function) → numbers_of (fs ++ gs) ≡ numbers_of fs ++ numbers_of gs
unfolding numbers_of
numbers-append [] gs = refl
numbers-append (f ∷ fs) gs = ap (λ (r : List ℕ). f.start_address ∷ f.end_address ∷ f.opcode ∷ r) (numbers-append fs gs)

pub length-written : (fs : List Function) (out : List ℕ) → 3 * length fs ≤ length out → length (written_over fs out) ≡ length out
unfolding written_over
length-written fs out h = length-append (numbers_of fs) (drop (3 * length fs) out) ∙ omega (arith, numbers-length fs, length-drop (3 * length fs) out)

-- past the numbers that stand before
set-right : (xs ys : List ℕ) (i a : ℕ) → set (xs ++ ys) (length xs + i) a ≡ xs ++ set ys i a
set-right [] ys i a = ap (λ (k : ℕ). set ys k a) (zero-add i)
set-right (x ∷ xs) ys i a = ap (λ (k : ℕ). set (x ∷ (xs ++ ys)) k a) (suc-add (length xs) i) ∙ ap (λ (r : List ℕ). x ∷ r) (set-right xs ys i a)

three : (xs : List ℕ) (x y z : ℕ) (ys : List ℕ) (n a b c : ℕ) → length xs ≡ n → set (set (set (xs ++ (x ∷ y ∷ z ∷ ys)) n a) (n + 1) b) (n + 2) c ≡ xs ++ (a ∷ b ∷ c ∷ ys)
three xs x y z ys n a b c e =
    let p : n ≡ length xs + 0 = omega arith in
    let q : n + 1 ≡ length xs + 1 = omega arith in
    let r : n + 2 ≡ length xs + 2 = omega arith in
    ap (λ (l : List ℕ). set (set l (n + 1) b) (n + 2) c) (ap (λ (m : ℕ). set (xs ++ (x ∷ y ∷ z ∷ ys)) m a) p ∙ set-right xs (x ∷ y ∷ z ∷ ys) 0 a)
    ∙ ap (λ (l : List ℕ). set l (n + 2) c) (ap (λ (m : ℕ). set (xs ++ (a ∷ y ∷ z ∷ ys)) m b) q ∙ set-right xs (a ∷ y ∷ z ∷ ys) 1 b)
    ∙ (ap (λ (m : ℕ). set (xs ++ (a ∷ b ∷ z ∷ ys)) m c) r ∙ set-right xs (a ∷ b ∷ z ∷ ys) 2 c)

-- one function more
module _ (fs : List Function) (out : List ℕ) (k : ℕ) (e : length fs ≡ k) (h : 3 * k + 3 ≤ length out) where
  abbrev at : ℕ → ℕ
  at i = get_or out i 0

  opened_up : drop (3 * length fs) out ≡ at (3 * k) ∷ at (3 * k + 1) ∷ at (3 * k + 2) ∷ drop (3 * k + 3) out
  opened_up =
      let p : suc (3 * k) ≡ 3 * k + 1 = omega arith in
      let q : suc (3 * k + 1) ≡ 3 * k + 2 = omega arith in
      let r : suc (3 * k + 2) ≡ 3 * k + 3 = omega arith in
      ap (λ (m : ℕ). drop (3 * m) out) e ∙ drop-cons out (3 * k) 0 (omega arith)
      ∙ ap (λ (l : List ℕ). at (3 * k) ∷ l)
      (ap (λ (m : ℕ). drop m out) p ∙ drop-cons out (3 * k + 1) 0 (omega arith)
      ∙ ap (λ (l : List ℕ). at (3 * k + 1) ∷ l) (ap (λ (m : ℕ). drop m out) q ∙ drop-cons out (3 * k + 2) 0 (omega arith)
      ∙ ap (λ (l : List ℕ). at (3 * k + 2) ∷ l) (ap (λ (m : ℕ). drop m out) r)))

  one_more : (f : Function) → numbers_of (fs ++ (f ∷ [])) ++ drop (3 * length (fs ++ (f ∷ []))) out ≡ numbers_of fs ++ (f.start_address ∷ f.end_address ∷ f.opcode ∷ drop (3 * k + 3) out)
  unfolding numbers_of
  one_more f =
      let n : 3 * length (fs ++ (f ∷ [])) ≡ 3 * k + 3 = omega (arith, length-append fs (f ∷ [])) in
      ap (λ (l : List ℕ). l ++ drop (3 * length (fs ++ (f ∷ []))) out) (numbers-append fs (f ∷ []))
      ∙ append_assoc (numbers_of fs) (f.start_address ∷ f.end_address ∷ f.opcode ∷ []) (drop (3 * length (fs ++ (f ∷ []))) out)
      ∙ ap (λ (m : ℕ). numbers_of fs ++ (f.start_address ∷ f.end_address ∷ f.opcode ∷ drop m out)) n

  pub put_next : (f : Function) → put_of (written_over fs out) k f ≡ written_over (fs ++ (f ∷ [])) out
  unfolding put_of written_over
  put_next f =
      let n : length (numbers_of fs) ≡ 3 * k = omega (arith, numbers-length fs) in
      ap (λ (l : List ℕ). set (set (set (numbers_of fs ++ l) (3 * k) f.start_address) (3 * k + 1) f.end_address) (3 * k + 2) f.opcode) opened_up
      ∙ three (numbers_of fs) (at (3 * k)) (at (3 * k + 1)) (at (3 * k + 2)) (drop (3 * k + 3) out) (3 * k) f.start_address f.end_address f.opcode n
      ∙ sym (one_more f)
