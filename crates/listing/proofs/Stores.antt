-- A list l written from the front on: i elements, which are p, and then those that l has from the i-th on.
-- Assumes nothing.
use Prim.Native.Nat.{ℕ, suc, ◌+◌, ◌-◌, ◌≤◌, ◌<◌}
use mathlib.Core.Path.{◌≡◌, refl, ap, sym}
use mathlib.Core.List.{List, [], ◌∷◌, ◌++◌, append_assoc}
use native.Mathlib.Numerals.{add-one}
use native.Mathlib.Omega.{arith}
use borrow.Author.Tests.{le-leb, lt-leb}
use lib.ListN.{length, set, drop, length-append, length-drop}
use Rattle.listing.specs.Listing.{digits_of, places_of, decimal_of, written, over, whole_of}
use Rattle.listing.proofs.Digits.{length_digits}
use borrow.Rule.Slice.PartMut.{put_mid}
use Rattle.std.proofs.lemmas.List.{take_at, drop_at, drop-drop, set_split}

-- a piece more, up to e
pub piece : (p l v : List ℕ) (i n e : ℕ) {m : List ℕ} → m ≡ p ++ drop i l → length p ≡ i → i + n ≡ e → put_mid i n m v ≡ p ++ v ++ drop e l
piece p l v i n e {m} q h f =
    rw q (simp (take_at p (drop i l) i h, drop_at p (drop i l) i h, drop-drop, f, append_assoc))

-- a byte more
pub byte : (p l : List ℕ) (i x e : ℕ) {m : List ℕ} → m ≡ p ++ drop i l → length p ≡ i → i < length l → i + 1 ≡ e → set m i x ≡ p ++ (x ∷ []) ++ drop e l
byte p l i x e {m} q h b f =
    let z : List ℕ = p ++ drop i l in
    let k : i < length z = simp (length-append, length-drop) (omega arith) in
    let d : drop (suc i) z ≡ drop e l =
    rw (← add-one, ← drop-drop, drop_at p (drop i l) i h, drop-drop 1 i l, f) in
    rw (q, set_split z i x k, take_at p (drop i l) i h, d) (sym (append_assoc p (x ∷ []) (drop e l)))

-- a text that fits
pub whole : (t l : List ℕ) {n : ℕ} {m : List ℕ} → n ≤ length l → length t ≡ n → m ≡ t ++ drop n l → written n m ≡ whole_of t l
unfolding whole_of over
whole t l {n} {m} h e p = simp (e, le-leb n (length l) h) (ap (written n) p)

-- a word, a decimal and a newline, where they fit and where not
pub count_written : (w l : List ℕ) (n k : ℕ) {u v : List ℕ} {i : ℕ} → k ≡ places_of n → length w + k < length l → u ≡ w → v ≡ digits_of 10 i n → i ≡ k
    → written (length w + k + 1) (set (put_mid (length w) (length w + k - length w) (u ++ drop (length w) l) v) (length w + k) 10)
    ≡ whole_of (w ++ decimal_of n ++ (10 ∷ [])) l
count_written w l n k e h p q r =
    let t : List ℕ = w ++ digits_of 10 k n in
    let f : length t ≡ length w + k = simp (length-append, length_digits) in
    let g : length (t ++ (10 ∷ [])) ≡ length w + k + 1 = simp (length-append, length_digits) in
    rw (p, q, r, ← e)
    (whole (t ++ (10 ∷ [])) l (omega arith) g
    (byte t l (length w + k) 10 (length w + k + 1) (piece w l (digits_of 10 k n) (length w) (length w + k - length w) (length w + k) refl refl (omega arith)) f h refl))

pub too_long : (w l : List ℕ) (n k : ℕ) → k ≡ places_of n → length l ≤ length w + k → written 0 l ≡ whole_of (w ++ decimal_of n ++ (10 ∷ [])) l
unfolding whole_of
too_long w l n k e h =
    let g : length l < length (w ++ decimal_of n ++ (10 ∷ [])) = simp (length-append, length_digits) (omega arith) in
    simp (lt-leb _ _ g)
