-- What holds of the decoder's and the encoder's definitions, each once over the count.
-- Assumes nothing.
use Prim.Native.Nat.{ℕ, zero, suc, ◌-◌, ◌<◌, ◌≤◌}
use mathlib.Core.Path.{◌≡◌, refl, ap, sym, ◌∙◌, subst}
use mathlib.Core.Bool.{Bool, true, false, cond, ◌&&◌, ◌||◌}
use mathlib.Core.List.{List, [], ◌∷◌, ◌++◌}
use native.Mathlib.Omega.{arith}
use lib.Dec.{eqb, leb, ltb}
use lib.ListN.{length, get_or, take, drop, replicate, length-drop, take-append-drop}
use lib.Seq.{take_at, drop_at, length-take-le}
use borrow.Author.Tests.{le-leb, lt-leb, lt-ltb, ne_eqb, leb-true, ltb-true, eqb-true}
use Rattle.permutation.specs.Permutation.{bounds, weights, digits, weighted, named, chosen, ranks, member, every, distinct, Told, accepted, accepts, registers_of, decode_of, Written, encoding, listed, encoding_of, encode_of}
use Rattle.permutation.proofs.Tests.{both_left, both_right}
use Rattle.permutation.proofs.Digits.{Small, radix, digits-small, sum-of-digits, length_digits, weighed, row-radix, weights-long}
use Rattle.permutation.proofs.Choosing.{drawn, ranks-chosen, Ranked, ranked, drawn-chosen, drawn-is, length-chosen, length-ranks}

-- The encodings that are not refused (docs/FORMAT.md, 8.1): counts up to 6, and below the bound; count 0 refuses none.
pub record Below (n e : ℕ) : Type 0 where
  pub count : n ≤ 6
  pub small : 0 < n → e < get_or bounds n 0

accepts-below : (n e : ℕ) → Below n e → accepts n e ≡ true
accepts-below zero e b = refl
accepts-below (suc n) e b =
    simp (le-leb (suc n) 6 b.count, ne_eqb (suc n) 0 (omega arith), lt-ltb e (get_or bounds (suc n) 0) (b.small (omega arith)))

pub accepts-no-count : (n e : ℕ) → 6 < n → accepts n e ≡ false
accepts-no-count n e h = simp (lt-leb n 6 h)

pub below-accepted : (n e : ℕ) → accepts n e ≡ true → Below n e
below-accepted n e t =
    record {
      count = leb-true n 6 (both_left (leb n 6) (eqb n 0 || ltb e (get_or bounds n 0)) t);
      small = λ p.
          ltb-true e (get_or bounds n 0)
          (simp (ne_eqb n 0 (omega arith)) at (both_right (leb n 6) (eqb n 0 || ltb e (get_or bounds n 0)) t));
    }

decode-cases : (n e : ℕ) (xs : List ℕ) → decode_of n e ≡ accepted xs → (accepts n e ≡ true) × (registers_of n e ≡ xs)
unfolding decode_of
decode-cases n e xs d = go (accepts n e) refl d
  where
    go : (b : Bool) → accepts n e ≡ b → cond b (accepted (registers_of n e)) (Told.refused 23 (replicate 6 0)) ≡ accepted xs
        → (accepts n e ≡ true) × (registers_of n e ≡ xs)
    go true t p = (t, cc)
    go false t p = absurd (let z : ◌≡◌ {A = ℕ} 0 1 = cc in omega arith)

-- The decoder accepts exactly the encodings below the bound.
pub decode-accepts : (n e : ℕ) → Below n e → decode_of n e ≡ accepted (registers_of n e)
unfolding decode_of
decode-accepts n e b = simp (accepts-below n e b)

pub decode-refuses : (n e : ℕ) → accepts n e ≡ false → decode_of n e ≡ Told.refused 23 (replicate 6 0)
unfolding decode_of
decode-refuses n e f = simp f

pub decode-accepts-only : (n e : ℕ) (xs : List ℕ) → decode_of n e ≡ accepted xs → Below n e
decode-accepts-only n e xs d = below-accepted n e (decode-cases n e xs d).0

-- the weights of every count give numbers below some bound, for counts from 1 on the one that docs/FORMAT.md, 8.1, names
pub record Row (n : ℕ) : Type 0 where
  pub bound : ℕ
  pub spells : radix (weights n) 6 bound ≡ true
  pub named-bound : 0 < n → bound ≡ get_or bounds n 0

pub row_of : (n : ℕ) → n ≤ 6 → Row n
row_of zero h = record { bound = 1; spells = refl; named-bound = λ p. absurd (omega arith) }
row_of (suc n) h =
    record { bound = get_or bounds (suc n) 0; spells = row-radix (suc n) (omega arith) h; named-bound = λ p. refl }

-- The digits, first up to 5, next up to 4 and so on, give the number as their weighted sum; and no other such digits do.
pub digits-give : (n e : ℕ) → 0 < n → n ≤ 6 → e < get_or bounds n 0 → (weighted (weights n) (digits (weights n) e) ≡ e) × Small 6 (digits (weights n) e)
digits-give n e p h b =
    let t = row-radix n p h in
    (sum-of-digits (weights n) 6 (get_or bounds n 0) e t b, digits-small (weights n) 6 (get_or bounds n 0) e t b)

pub digits-only : (n e : ℕ) (ds : List ℕ) → 0 < n → n ≤ 6 → length ds ≡ n → Small 6 ds → weighted (weights n) ds ≡ e → digits (weights n) e ≡ ds
digits-only n e ds p h l s q =
    subst (λ (v : ℕ). digits (weights n) v ≡ ds) q
    (weighed (weights n) ds 6 (get_or bounds n 0) (row-radix n p h) (l ∙ sym (weights-long n h)) s).again

pub encode-cases : (n : ℕ) (xs : List ℕ) (e : ℕ) → encode_of n xs ≡ encoding e → (n ≤ 6) × (listed n xs ≡ true) × (encoding_of n xs ≡ e)
unfolding encode_of
encode-cases n xs e d = go (leb n 6 && listed n xs) refl d
  where
    go : (b : Bool) → (leb n 6 && listed n xs) ≡ b → cond b (encoding (encoding_of n xs)) (Written.refused 28) ≡ encoding e
        → (n ≤ 6) × (listed n xs ≡ true) × (encoding_of n xs ≡ e)
    go true t p = (leb-true n 6 (both_left (leb n 6) (listed n xs) t), both_right (leb n 6) (listed n xs) t, cc)
    go false t p = absurd (let z : ◌≡◌ {A = ℕ} 0 1 = cc in omega arith)

zeros-every : (n : ℕ) → every (eqb 0) (replicate n 0) ≡ true
zeros-every zero = refl
zeros-every (suc n) = zeros-every n

every-zeros : (xs : List ℕ) → every (eqb 0) xs ≡ true → xs ≡ replicate (length xs) 0
every-zeros [] t = refl
every-zeros (x ∷ xs) t =
    let e : x ≡ 0 = sym (eqb-true 0 x (both_left (eqb 0 x) (every (eqb 0) xs) t)) in
    let i : xs ≡ replicate (length xs) 0 = every-zeros xs (both_right (eqb 0 x) (every (eqb 0) xs) t) in
    cc

-- docs/FORMAT.md, 0.2: encoding what was decoded, for counts 1 to 6.
pub encode-decode : (n e : ℕ) (xs : List ℕ) → 0 < n → decode_of n e ≡ accepted xs → encode_of n xs ≡ encoding e
unfolding encode_of
encode-decode n e xs p d =
    let b = decode-accepts-only n e xs d in
    let h : n ≤ 6 = b.count in
    let t : radix (weights n) 6 (get_or bounds n 0) ≡ true = row-radix n p h in
    let ds : List ℕ = digits (weights n) e in
    let ys : List ℕ = chosen named ds in
    let s : Small 6 ds = digits-small (weights n) 6 (get_or bounds n 0) e t (b.small p) in
    let l : length ys ≡ n = length-chosen named ds ∙ length_digits (weights n) e ∙ weights-long n h in
    let tk : take n (ys ++ replicate (6 - n) 0) ≡ ys = take_at ys (replicate (6 - n) 0) n l in
    let dk : drop n (ys ++ replicate (6 - n) 0) ≡ replicate (6 - n) 0 = drop_at ys (replicate (6 - n) 0) n l in
    let dr : (every (λ (x : ℕ). member x named) ys && distinct ys) ≡ true = sym (drawn-is named refl ys) ∙ drawn-chosen named ds refl s in
    let q : registers_of n e ≡ xs = (decode-cases n e xs d).1 in
    subst (λ (zs : List ℕ). cond (leb n 6 && listed n zs) (encoding (encoding_of n zs)) (Written.refused 28) ≡ encoding e) q
    (simp (le-leb n 6 h, tk, dk, dr, zeros-every (6 - n), ranks-chosen named ds refl s)
    (ap encoding (sum-of-digits (weights n) 6 (get_or bounds n 0) e t (b.small p))))

-- what a list that is accepted says of its first n places
record Read (n : ℕ) (xs : List ℕ) (e : ℕ) : Type 0 where
  count : n ≤ 6
  ranked-at : Ranked named (take n xs)
  below : e < (row_of n count).bound
  digits_are : digits (weights n) e ≡ ranks named (take n xs)
  rest-zeros : drop n xs ≡ replicate (6 - n) 0

read_of : (n : ℕ) (xs : List ℕ) (e : ℕ) → length xs ≡ 6 → encode_of n xs ≡ encoding e → Read n xs e
read_of n xs e l d =
    let c = encode-cases n xs e d in
    let h : n ≤ 6 = c.0 in
    let ys : List ℕ = take n xs in
    let all = every (λ (x : ℕ). member x named) ys in
    let dr : drawn named ys ≡ true = drawn-is named refl ys ∙ both_left (all && distinct ys) (every (eqb 0) (drop n xs)) c.1 in
    let z = every-zeros (drop n xs) (both_right (all && distinct ys) (every (eqb 0) (drop n xs)) c.1) in
    let k = ranked named ys dr in
    let m : length (ranks named ys) ≡ length (weights n) =
    length-ranks named ys ∙ length-take-le n xs (omega arith) ∙ sym (weights-long n h) in
    let w = weighed (weights n) (ranks named ys) 6 (row_of n h).bound (row_of n h).spells m k.small in
    record {
      count = h;
      ranked-at = k;
      below = subst (λ (v : ℕ). v < (row_of n h).bound) c.2 w.below;
      digits_are = subst (λ (v : ℕ). digits (weights n) v ≡ ranks named ys) c.2 w.again;
      rest-zeros = z ∙ ap (λ (v : ℕ). replicate v 0) (length-drop n xs ∙ ap (λ (v : ℕ). v - n) l);
    }

-- Decoding what was encoded, for every count that the encoder takes.
pub decode-encode : (n : ℕ) (xs : List ℕ) (e : ℕ) → length xs ≡ 6 → encode_of n xs ≡ encoding e → decode_of n e ≡ accepted xs
decode-encode n xs e l d =
    let r = read_of n xs e l d in
    decode-accepts n e (record { count = r.count; small = λ p. subst (λ (v : ℕ). e < v) ((row_of n r.count).named-bound p) r.below })
    ∙ ap accepted
    (ap (λ (ds : List ℕ). chosen named ds ++ replicate (6 - n) 0) r.digits_are
    ∙ ap (λ (ys : List ℕ). ys ++ replicate (6 - n) 0) r.ranked-at.again
    ∙ ap (λ (zs : List ℕ). take n xs ++ zs) (sym r.rest-zeros)
    ∙ take-append-drop n xs)

-- The encoding is below the bound.
pub encoding-below : (n : ℕ) (xs : List ℕ) (e : ℕ) → length xs ≡ 6 → encode_of n xs ≡ encoding e → 0 < n → e < get_or bounds n 0
encoding-below n xs e l d p =
    let r = read_of n xs e l d in
    subst (λ (v : ℕ). e < v) ((row_of n r.count).named-bound p) r.below
