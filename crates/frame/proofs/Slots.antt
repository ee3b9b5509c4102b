-- What is stored in a slot is loaded from it, over the width, and other slots keep what they have.
-- Assumes nothing.
use Prim.Native.Nat.{ℕ, zero, suc, ◌+◌, ◌-◌, ◌/◌, ◌%◌, ◌^◌, ◌<◌, ◌≤◌}
use mathlib.Core.Path.{◌≡◌, refl, ap, sym, ◌∙◌}
use mathlib.Core.Logic.{inl, inr}
use mathlib.Core.List.{List, [], ◌∷◌, ◌++◌, append_assoc}
use native.Mathlib.Omega.{arith}
use native.Mathlib.Nat.{add-zero, pow-suc, div-lt_iff_lt-mul}
use lib.ListN.{length, take, drop, set}
use lib.Seq.{sets, length-sets, sets-eq, drop-set-lt, drop-set-add, take-set-le, drop_at, take_at, length-take-le, get_or-take}
use Rattle.reader.specs.Reader.{number_at}
use Rattle.reader.proofs.Laws as reading
use Rattle.frame.specs.Memory.{bytes, part, load, store}
use Rattle.frame.proofs.Prologues.{Apart}

pub length-bytes : (w v : ℕ) → length (bytes w v) ≡ w
length-bytes zero v = refl
length-bytes (suc w) v = ap suc (length-bytes w (v / 256))

-- the bytes of a slot alone tell what is loaded from it
taken : (w o k : ℕ) (m : List ℕ) → o + w ≤ k → number_at w (take k m) o ≡ number_at w m o
unfolding number_at
taken zero o k m h = refl
taken (suc w) o k m h = simp (get_or-take k m o 0 (omega arith), taken w (suc o) k m (omega arith))

load_part : (w i : ℕ) (m : List ℕ) → load w i m ≡ number_at w (part w i m) 0
load_part w i m = sym (taken w 0 w (drop i m) (omega arith) ∙ reading.part w i m 0 ∙ ap (number_at w m) (add-zero i))

pub load_same : (w i : ℕ) (m m' : List ℕ) → part w i m' ≡ part w i m → load w i m' ≡ load w i m
load_same w i m m' e = load_part w i m' ∙ ap (λ (l : List ℕ). number_at w l 0) e ∙ sym (load_part w i m)

number-bytes : (w v : ℕ) → v < 256 ^ w → number_at w (bytes w v) 0 ≡ v
unfolding number_at
number-bytes zero v h = omega arith
number-bytes (suc w) v h =
    let q : v / 256 < 256 ^ w = (div-lt_iff_lt-mul {k = 256} {x = v} {y = 256 ^ w} (omega arith)).1 (rw pow-suc at h) in
    omega (arith, reading.part w 1 (v % 256 ∷ bytes w (v / 256)) 0, number-bytes w (v / 256) q)

part-set : (w j : ℕ) (l : List ℕ) (i a : ℕ) → Apart 1 i w j → part w j (set l i a) ≡ part w j l
part-set w j l i a (inl h) = ap (take w) (drop-set-lt j l i a (omega arith))
part-set w j l i a (inr h) =
    let e : i ≡ j + (i - j) = omega arith in
    ap (λ (k : ℕ). take w (drop j (set l k a))) e ∙ ap (take w) (drop-set-add j l (i - j) a) ∙ take-set-le w (drop j l) (i - j) a (omega arith)

part-sets : (w j : ℕ) (l : List ℕ) (i : ℕ) (vs : List ℕ) → Apart (length vs) i w j → part w j (sets l i vs) ≡ part w j l
part-sets w j l i [] h = refl
part-sets w j l i (v ∷ vs) (inl h) = part-sets w j (set l i v) (suc i) vs (inl (omega arith)) ∙ part-set w j l i v (inl (omega arith))
part-sets w j l i (v ∷ vs) (inr h) = part-sets w j (set l i v) (suc i) vs (inr (omega arith)) ∙ part-set w j l i v (inr (omega arith))

-- a store leaves a slot apart as it is
pub part-store-other : (w i v j : ℕ) (l : List ℕ) → Apart w i w j → part w j (store w i v l) ≡ part w j l
part-store-other w i v j l h = part-sets w j l i (bytes w v) (rw (length-bytes w v) h)

-- and puts the bytes into its own
pub part-store-same : (w i v : ℕ) (l : List ℕ) → i + w ≤ length l → part w i (store w i v l) ≡ bytes w v
part-store-same w i v l h =
    let n : length (bytes w v) ≡ w = length-bytes w v in
    let t : length (take i l) ≡ i = length-take-le i l (omega arith) in
    ap (part w i) (sets-eq (bytes w v) l i (omega arith) ∙ append_assoc (take i l) (bytes w v) (drop (i + length (bytes w v)) l))
    ∙ ap (take w) (drop_at (take i l) (bytes w v ++ drop (i + length (bytes w v)) l) i t)
    ∙ take_at (bytes w v) (drop (i + length (bytes w v)) l) w n

pub length-store : (w i v : ℕ) (l : List ℕ) → length (store w i v l) ≡ length l
length-store w i v l = length-sets l i (bytes w v)

pub load_of : (w i v : ℕ) (m : List ℕ) → v < 256 ^ w → part w i m ≡ bytes w v → load w i m ≡ v
load_of w i v m h e = load_part w i m ∙ ap (λ (l : List ℕ). number_at w l 0) e ∙ number-bytes w v h
