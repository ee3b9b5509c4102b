-- The arrangements of six registers that begin as a shorter list does, and where the first of them stands.
-- Assumes nothing.
use Prim.Native.Nat.{ℕ, zero, suc, ◌-◌, ◌*◌, ◌/◌, ◌%◌, ◌<◌, ◌≤◌}
use mathlib.Core.Path.{◌≡◌, refl, ap, ap₂, sym, ◌∙◌}
use mathlib.Core.List.{List, [], ◌∷◌, ◌++◌, map, append-nil}
use native.Mathlib.Omega.{arith}
use native.Mathlib.Decide.{dec_lt}
use native.Mathlib.Nat.{mod-eq-sub-mul-div, mul-div-mul_left, mul_assoc, mul-sub, mul_comm, mul-zero, mul-le-mul_right, mul-lt-mul_of_pos_right}
use lib.Dec.{ltb}
use lib.ListN.{get_or, take, replicate}
use borrow.Author.Tests.{le-leb, le-ltb, lt-ltb, ne_eqb}
use Rattle.permutation.specs.Permutation.{rows, bounds, weights, digits, named, without, chosen, accepts, registers_of}
use Rattle.permutation.specs.Table.{apart_of}
use Rattle.permutation.proofs.Tests.{each_at}

-- the first registers are chosen by the first digits, and the first digits go by the first weights
first-chosen : (n : ℕ) (unused ds : List ℕ) → take n (chosen unused ds) ≡ chosen unused (take n ds)
first-chosen zero unused ds = refl
first-chosen (suc n) unused [] = refl
first-chosen (suc n) unused (d ∷ ds) = ap (λ (xs : List ℕ). get_or unused d 0 ∷ xs) (first-chosen n (without unused d) ds)

first-digits : (n : ℕ) (ws : List ℕ) (e : ℕ) → take n (digits ws e) ≡ digits (take n ws) e
first-digits zero ws e = refl
first-digits (suc n) [] e = refl
first-digits (suc n) (w ∷ ws) e = ap (λ (ds : List ℕ). e / w ∷ ds) (first-digits n ws (e % w))

-- the digits of a multiple, by the same multiples of the weights
times : ℕ → List ℕ → List ℕ
times s ws = map (λ (w : ℕ). s * w) ws

rest-times : (s : ℕ) → 0 < s → (w e : ℕ) → s * e % (s * w) ≡ s * (e % w)
rest-times s p w e =
    mod-eq-sub-mul-div (s * e) (s * w)
    ∙ ap (λ (q : ℕ). s * e - s * w * q) (mul-div-mul_left e w p)
    ∙ ap (λ (q : ℕ). s * e - q) (mul_assoc s w (e / w))
    ∙ sym (mul-sub s e (w * (e / w)))
    ∙ ap (λ (r : ℕ). s * r) (sym (mod-eq-sub-mul-div e w))

digits-times : (s : ℕ) → 0 < s → (ws : List ℕ) (e : ℕ) → digits (times s ws) (s * e) ≡ digits ws e
unfolding times
digits-times s p [] e = refl
digits-times s p (w ∷ ws) e =
    ap₂ (λ (d : ℕ) (ds : List ℕ). d ∷ ds) (mul-div-mul_left e w p)
    (ap (digits (times s ws)) (rest-times s p w e) ∙ digits-times s p ws (e % w))

-- six registers' first weights are a shorter list's, times the number of rows that begin alike
weights-times : (n : ℕ) → n < 7 → take n (weights 6) ≡ times (apart_of n) (weights n)
unfolding times rows bounds
weights-times = each_at (λ n. take n (weights 6) ≡ times (apart_of n) (weights n)) 7 (refl, (refl, (refl, (refl, (refl, (refl, (refl, tt)))))))

-- all of them are 720
whole : (n : ℕ) → n < 6 → get_or bounds (suc n) 0 * apart_of (suc n) ≡ 720
unfolding bounds
whole = each_at (λ n. get_or bounds (suc n) 0 * apart_of (suc n) ≡ 720) 6 (refl, (refl, (refl, (refl, (refl, (refl, tt))))))

apart-positive : (n : ℕ) → n < 6 → 0 < apart_of (suc n)
apart-positive n h = go (apart_of (suc n)) (whole n h)
  where
    go : (s : ℕ) → get_or bounds (suc n) 0 * s ≡ 720 → 0 < s
    go zero e = absurd (omega (arith, mul-zero (get_or bounds (suc n) 0)))
    go (suc s) e = omega arith

-- the row of an encoding begins with the registers that it stands for
begins : (n e : ℕ) → n ≤ 6 → take n (registers_of 6 (e * apart_of n)) ≡ chosen named (digits (weights n) e)
begins zero e h = refl
begins (suc n) e h =
    let s : ℕ = apart_of (suc n) in
    ap (take (suc n)) (append-nil (chosen named (digits (weights 6) (e * s))))
    ∙ first-chosen (suc n) named (digits (weights 6) (e * s))
    ∙ ap (chosen named)
    (first-digits (suc n) (weights 6) (e * s)
    ∙ ap₂ digits (weights-times (suc n) (omega arith)) (mul_comm e s)
    ∙ digits-times s (apart-positive n h) (weights (suc n)) e)

-- The registers of an encoding are the first places of its row, and zeros.
pub by_row : (n e : ℕ) → n ≤ 6 → registers_of n e ≡ take n (registers_of 6 (e * apart_of n)) ++ replicate (6 - n) 0
by_row n e h = ap (λ (xs : List ℕ). xs ++ replicate (6 - n) 0) (sym (begins n e h))

-- An encoding is refused exactly if its row is past the table.
pub accepts-by-row : (n e : ℕ) → n ≤ 6 → accepts n e ≡ ltb (e * apart_of n) 720
unfolding bounds
accepts-by-row zero e h = sym (lt-ltb (e * 0) 720 (omega arith))
accepts-by-row (suc n) e h =
    let b : ℕ = get_or bounds (suc n) 0 in
    let s : ℕ = apart_of (suc n) in
    let below : e < b → ltb e b ≡ ltb (e * s) 720 =
    λ l. lt-ltb e b l ∙ sym (lt-ltb (e * s) 720 (omega (arith, mul-lt-mul_of_pos_right l (apart-positive n h), whole n h))) in
    let above : b ≤ e → ltb e b ≡ ltb (e * s) 720 =
    λ l. le-ltb e b l ∙ sym (le-ltb (e * s) 720 (omega (arith, mul-le-mul_right {m = b} {n = e} s l, whole n h))) in
    simp (le-leb (suc n) 6 h, ne_eqb (suc n) 0 (omega arith)) (go (dec_lt e b) below above)
  where
    go : {b : ℕ} {P : Type 0} → Dec (e < b) → (e < b → P) → (b ≤ e → P) → P
    go (yes l) f g = f l
    go (no l) f g = g (omega arith)
