-- Digits: how many there are, how they are written, and how many places a number has in decimal.
-- Assumes nothing.
use Prim.Native.Nat.{ℕ, zero, suc, ◌+◌, ◌-◌, ◌*◌, ◌/◌, ◌%◌, ◌^◌, ◌≤◌, ◌<◌, max}
use mathlib.Core.Path.{◌≡◌, refl, ap, sym, ◌∙◌}
use mathlib.Core.List.{List, [], ◌∷◌, ◌++◌, append_assoc, append-nil}
use native.Mathlib.Nat.{pow-suc, one-le-pow}
use native.Mathlib.Numerals.{add-one}
use native.Mathlib.Omega.{arith}
use native.Mathlib.Decide.{dec_lt}
use borrow.Author.Tests.{lt-ltb, le-ltb}
use lib.ListN.{length, get_or, set, drop, length-append, get_or-append}
use lib.Seq.{drop-length}
use Rattle.std.proofs.lemmas.List.{drop-set}
use Rattle.listing.specs.Listing.{digit_of, digits_of, places_in, places_of}

-- k digits are k bytes
pub length_digits : (b k n : ℕ) → length (digits_of b k n) ≡ k
unfolding digits_of
length_digits b zero n = refl
length_digits b (suc k) n = simp (length-append, length_digits b k (n / b)) (omega arith)

-- digits written from the back: before the last of i digits is written, and after it
pub last_written : (b i n : ℕ) (l : List ℕ) {x : ℕ} → 0 < i → i ≤ length l → x ≡ digit_of (n % b)
    → digits_of b (i - 1) (n / b) ++ drop (i - 1) (set l (i - 1) x) ≡ digits_of b i n ++ drop i l
unfolding digits_of
last_written b zero n l h r e = absurd (omega arith)
last_written b (suc i) n l {x} h r e =
    let p : suc i - 1 ≡ i = omega arith in
    let q : i < length l = omega arith in
    rw (p, drop-set l i x q, e, add-one) (sym (append_assoc (digits_of b i (n / b)) (digit_of (n % b) ∷ []) (drop (suc i) l)))

-- before any is written
pub none_written : (b n : ℕ) (l : List ℕ) → digits_of b (length l) n ++ drop (length l) l ≡ digits_of b (length l) n
none_written b n l = simp drop-length (append-nil (digits_of b (length l) n))

-- a number below ten has one place, any other one more than its tenth
pub small : (f n : ℕ) → n < 10 → places_in f n ≡ 1
unfolding places_in
small zero n h = refl
small (suc f) n h = simp (lt-ltb n 10 h)

large : (f n : ℕ) → 10 ≤ n → places_in (suc f) n ≡ suc (places_in f (n / 10))
unfolding places_in
large f n h = simp (le-ltb n 10 h)

-- more steps than enough change nothing
enough : (f g n : ℕ) → n ≤ f → n ≤ g → places_in f n ≡ places_in g n
enough zero g n p q = small zero n (omega arith) ∙ sym (small g n (omega arith))
enough (suc f) zero n p q = small (suc f) n (omega arith) ∙ sym (small zero n (omega arith))
enough (suc f) (suc g) n p q = by_size (λ l. enough f g (n / 10) (omega arith) (omega arith)) (dec_lt n 10)
  where
    by_size : (10 ≤ n → places_in f (n / 10) ≡ places_in g (n / 10)) → Dec (n < 10) → places_in (suc f) n ≡ places_in (suc g) n
    by_size i (yes l) = small (suc f) n l ∙ sym (small (suc g) n l)
    by_size i (no l) = large f n (omega arith) ∙ ap suc (i (omega arith)) ∙ sym (large g n (omega arith))

pub one_more : (n : ℕ) → 10 ≤ n → places_of n ≡ suc (places_of (n / 10))
one_more zero h = absurd (omega arith)
one_more (suc f) h = large f (suc f) h ∙ ap suc (enough f (suc f / 10) (suc f / 10) (omega arith) (omega arith))

-- a number below ten to the k has at most k places
pub few : (k f n : ℕ) → n < 10 ^ suc k → places_in f n ≤ suc k
unfolding places_in
few zero f n h = omega (arith, small f n h)
few (suc k) zero n h = omega arith
few (suc k) (suc f) n h = by_size (few k f (n / 10)) (dec_lt n 10)
  where
    by_size : (n / 10 < 10 ^ suc k → places_in f (n / 10) ≤ suc k) → Dec (n < 10) → places_in (suc f) n ≤ suc (suc k)
    by_size i (yes l) = omega (arith, small (suc f) n l)
    by_size i (no l) = omega (arith, large f n (omega arith), i (omega (arith, pow-suc 10 (suc k))))

-- every number is below ten to its places
pub enough-places : (f n : ℕ) → n ≤ f → n < 10 ^ places_in f n
enough-places zero n h = rw (small zero n (omega arith)) (omega arith)
enough-places (suc f) n h = by_size (λ l. enough-places f (n / 10) (omega arith)) (dec_lt n 10)
  where
    by_size : (10 ≤ n → n / 10 < 10 ^ places_in f (n / 10)) → Dec (n < 10) → n < 10 ^ places_in (suc f) n
    by_size i (yes l) = rw (small (suc f) n l) (omega arith)
    by_size i (no l) = rw (large f n (omega arith), pow-suc) (omega (arith, i (omega arith)))

-- between a power of ten and the next: one place more than the exponent
between : (k n : ℕ) → 10 ^ k ≤ n → n < 10 ^ suc k → places_of n ≡ suc k
between zero n p q = small n n q
between (suc k) n p q =
    let h : 10 ≤ n = omega (arith, pow-suc 10 k, one-le-pow k 10 (omega arith)) in
    one_more n h ∙ ap suc (between k (n / 10) (omega (arith, pow-suc 10 k)) (omega (arith, pow-suc 10 (suc k), pow-suc 10 k)))

-- 0 has as many as 1
pub counted : (n k : ℕ) → 10 ^ k ≤ max n 1 → max n 1 < 10 * 10 ^ k → k + 1 ≡ places_of n
unfolding places_in
counted zero zero p q = refl
counted zero (suc k) p q = absurd (omega (arith, pow-suc 10 k, one-le-pow k 10 (omega arith)))
counted (suc n) k p q = omega (arith, between k (suc n) (omega arith) (omega (arith, pow-suc 10 k)))

-- more than none
pub some-place : (f n : ℕ) → 0 < places_in f n
unfolding places_in
some-place zero n = omega arith
some-place (suc f) n = by_size (dec_lt n 10)
  where
    by_size : Dec (n < 10) → 0 < places_in (suc f) n
    by_size (yes l) = omega (arith, small (suc f) n l)
    by_size (no l) = omega (arith, large f n (omega arith))

one-digit : (n : ℕ) → n < 10 → 0 < n → 48 < get_or (digits_of 10 1 n) 0 0
unfolding digits_of digit_of
one-digit n h p =
    let e : n % 10 ≡ n = omega arith in
    simp (e, lt-ltb n 10 h) (omega arith)

first-kept : (k n : ℕ) → 0 < k → 48 < get_or (digits_of 10 k (n / 10)) 0 0 → 48 < get_or (digits_of 10 (suc k) n) 0 0
unfolding digits_of
first-kept k n p h =
    rw (get_or-append (digits_of 10 k (n / 10)) (digit_of (n % 10) ∷ []) 0 0 (omega (arith, length_digits 10 k (n / 10)))) h

-- the first digit of a number above 0 is above 0
pub first-digit : (f n : ℕ) → n ≤ f → 0 < n → 48 < get_or (digits_of 10 (places_in f n) n) 0 0
first-digit zero n h p = absurd (omega arith)
first-digit (suc f) n h p = by_size (λ l. first-digit f (n / 10) (omega arith) (omega arith)) (dec_lt n 10)
  where
    by_size : (10 ≤ n → 48 < get_or (digits_of 10 (places_in f (n / 10)) (n / 10)) 0 0)
        → Dec (n < 10) → 48 < get_or (digits_of 10 (places_in (suc f) n) n) 0 0
    by_size i (yes l) = rw (small (suc f) n l) (one-digit n l p)
    by_size i (no l) =
        rw (large f n (omega arith))
        (first-kept (places_in f (n / 10)) n (some-place f (n / 10)) (i (omega arith)))
