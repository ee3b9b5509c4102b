-- Lines: 27 bytes each, one after another, as many as there are numbers for.
-- Assumes nothing.
use Prim.Native.Nat.{ℕ, zero, suc, ◌+◌, ◌-◌, ◌*◌, ◌/◌, ◌≤◌, ◌<◌, min}
use mathlib.Core.Path.{◌≡◌, refl, ap, sym, ◌∙◌}
use mathlib.Core.List.{List, [], ◌∷◌, ◌++◌, append_assoc, append-nil}
use native.Mathlib.Nat.{suc-add}
use native.Mathlib.Decide.{dec_lt}
use native.Mathlib.Omega.{arith}
use lib.ListN.{length, get_or, set, drop, length-append}
use borrow.Rule.Slice.PartMut.{put_mid}
use Rattle.std.proofs.lemmas.List.{drop_all}
use native.Mathlib.Numerals.{add-one}
use Rattle.listing.proofs.Stores.{piece, byte}
use Rattle.listing.specs.Listing.{hex_of, line_of, lines_of, written, over, lines_in}
use Rattle.listing.proofs.Digits.{length_digits}

pub length-line : (a b c : ℕ) → length (line_of a b c) ≡ 27
unfolding line_of
length-line a b c = simp (length-append, length_digits)

-- the triple from the i-th number on, as a line
abbrev pub line_at : List ℕ → ℕ → List ℕ
line_at ns i = line_of (get_or ns i 0) (get_or ns (i + 1) 0) (get_or ns (i + 2) 0)

-- one line more
pub one-line-more : (k : ℕ) (ns : List ℕ) → 3 * k + 3 ≤ length ns → lines_of k ns ++ line_at ns (3 * k) ≡ lines_of (suc k) ns
unfolding lines_of
one-line-more k [] h = absurd (omega arith)
one-line-more k (a ∷ []) h = absurd (omega arith)
one-line-more k (a ∷ b ∷ []) h = absurd (omega arith)
one-line-more zero (a ∷ b ∷ c ∷ ns) h = sym (append-nil (line_of a b c))
one-line-more (suc k) (a ∷ b ∷ c ∷ ns) h =
    let e : 3 * suc k ≡ suc (suc (suc (3 * k))) = omega arith in
    simp (e, suc-add, append_assoc) (ap (λ (t : List ℕ). line_of a b c ++ t) (one-line-more k ns (omega arith)))

pub length-lines : (k : ℕ) (ns : List ℕ) → 3 * k ≤ length ns → length (lines_of k ns) ≡ 27 * k
unfolding lines_of
length-lines zero ns h = refl
length-lines (suc k) [] h = absurd (omega arith)
length-lines (suc k) (a ∷ []) h = absurd (omega arith)
length-lines (suc k) (a ∷ b ∷ []) h = absurd (omega arith)
length-lines (suc k) (a ∷ b ∷ c ∷ ns) h = simp (length-append, length-line) (omega (arith, length-lines k ns (omega arith)))

-- asked for more lines than there are numbers for
pub no_more : (k m : ℕ) (ns : List ℕ) → m ≤ k → length ns < 3 * m + 3 → lines_of k ns ≡ lines_of m ns
unfolding lines_of
no_more zero zero ns h s = refl
no_more zero (suc m) ns h s = absurd (omega arith)
no_more (suc k) zero [] h s = refl
no_more (suc k) zero (a ∷ []) h s = refl
no_more (suc k) zero (a ∷ b ∷ []) h s = refl
no_more (suc k) zero (a ∷ b ∷ c ∷ ns) h s = absurd (omega arith)
no_more (suc k) (suc m) [] h s = refl
no_more (suc k) (suc m) (a ∷ []) h s = refl
no_more (suc k) (suc m) (a ∷ b ∷ []) h s = refl
no_more (suc k) (suc m) (a ∷ b ∷ c ∷ ns) h s = ap (λ (t : List ℕ). line_of a b c ++ t) (no_more k m ns (omega arith) (omega arith))

-- a turn of the loop: line k written after the k lines before it
pub one_line_written : (ns l : List ℕ) (k : ℕ) {m r : List ℕ} → 3 * k + 3 ≤ length ns → m ≡ lines_of k ns ++ drop (27 * k) l → r ≡ line_at ns (3 * k)
    → put_mid (27 * k) (27 * k + 27 - 27 * k) m r ≡ lines_of (k + 1) ns ++ drop (27 * (k + 1)) l
one_line_written ns l k {m} {r} h p q =
    piece (lines_of k ns) l r (27 * k) (27 * k + 27 - 27 * k) (27 * (k + 1)) p (length-lines k ns (omega arith)) (omega arith)
    ∙ ap (λ (t : List ℕ). t ++ drop (27 * (k + 1)) l) (ap (λ (t : List ℕ). lines_of k ns ++ t) q ∙ one-line-more k ns h ∙ ap (λ (j : ℕ). lines_of j ns) (sym (add-one k)))

-- the six pieces of a line
pub line-written : (l : List ℕ) (a b c : ℕ) {u v w : List ℕ} → length l ≡ 27 → u ≡ hex_of a → v ≡ hex_of b → w ≡ hex_of c
    → set (put_mid 18 8 (set (put_mid 9 8 (set (u ++ drop 8 l) 8 32) v) 17 32) w) 26 10 ≡ line_of a b c
unfolding line_of
line-written l a b c s d e f =
    let u1 : List ℕ = hex_of a ++ (32 ∷ []) in
    let v1 : List ℕ = u1 ++ hex_of b in
    let v2 : List ℕ = v1 ++ (32 ∷ []) in
    let w1 : List ℕ = v2 ++ hex_of c in
    let k0 : length (hex_of a) ≡ 8 = length_digits 16 8 a in
    let k1 : length u1 ≡ 9 = simp (length-append, length_digits) in
    let k2 : length v1 ≡ 17 = simp (length-append, length_digits) in
    let k3 : length v2 ≡ 18 = simp (length-append, length_digits) in
    let k4 : length w1 ≡ 26 = simp (length-append, length_digits) in
    simp (d, e, f)
    (byte w1 l 26 10 27 (piece v2 l (hex_of c) 18 8 26 (byte v1 l 17 32 18 (piece u1 l (hex_of b) 9 8 17 (byte (hex_of a) l 8 32 9 refl k0 (omega arith) refl) k1 refl) k2 (omega arith) refl) k3 refl) k4 (omega arith) refl)
    ∙ ap (λ (t : List ℕ). w1 ++ (10 ∷ []) ++ t) (drop_all 27 l (omega arith)) ∙ append-nil (w1 ++ (10 ∷ []))

-- n is the least of three: as many lines as there are to be
as_many : (ns : List ℕ) (lines room n : ℕ) → n ≡ min (min lines (length ns / 3)) room → lines_of n ns ≡ lines_of (min lines room) ns
as_many ns lines room n e = by-numbers (dec_lt (length ns) (3 * n + 3))
  where
    by-numbers : Dec (length ns < 3 * n + 3) → lines_of n ns ≡ lines_of (min lines room) ns
    by-numbers (yes h) = sym (no_more (min lines room) n ns (omega arith) h)
    by-numbers (no h) = let q : n ≡ min lines room = omega arith in ap (λ (k : ℕ). lines_of k ns) q

-- as many as there are to be
pub all_written : (ns l : List ℕ) (lines n : ℕ) {m : List ℕ} → n ≡ min (min lines (length ns / 3)) (length l / 27)
    → m ≡ lines_of n ns ++ drop (27 * n) l → written (27 * n) m ≡ lines_in ns lines l
unfolding lines_in over
all_written ns l lines n {m} e p =
    let f : length (lines_of n ns) ≡ 27 * n = length-lines n ns (omega arith) in
    let q : lines_of n ns ≡ lines_of (min lines (length l / 27)) ns = as_many ns lines (length l / 27) n e in
    simp (← q, f) (ap (written (27 * n)) p)
