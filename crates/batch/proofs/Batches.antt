-- Answers of six numbers each, written one after the other.
-- Assumes nothing.
use Prim.Native.Nat.{ℕ, zero, suc, min, ◌+◌, ◌*◌, ◌/◌, ◌≤◌, ◌<◌}
use mathlib.Core.Path.{◌≡◌, refl, ap, sym, ◌∙◌}
use Rattle.std.specs.Prelude.{cond, leb}
use Rattle.std.specs.Simd.{first_chunks}
use mathlib.Core.List.{List, [], ◌∷◌, ◌++◌, append-nil, append_assoc}
use native.Mathlib.Omega.{arith}
use native.Mathlib.Decide.{dec_le}
use borrow.Author.Tests.{le-leb, lt-leb}
use lib.ListN.{length, get_or, take, drop, set, length-append, length-take}
use lib.Seq.{sets-eq, take-suc, take_all, get_or-take, get_or-drop, take_at, drop-drop, drop-append-add, length-take-le}
use Rattle.search.specs.declared.four.Four.{Four}
use Rattle.raw.specs.declared.Lists.{Lists}
use Rattle.raw.specs.Checked.{good}
use Rattle.raw.specs.Raw.{parse_of}
use Rattle.lookup.specs.Lookup.{Looked, lookup_in, lookup_on}
use Rattle.batch.specs.declared.Numbers.{Numbers}
use Rattle.batch.specs.Batch.{numbers_of, listed, answers_of, standing, fewer_of, put_of, four_found, batch, batch_of}
use Rattle.lookup.proofs.One.{after-parse}

-- four addresses, from the k-th on
abbrev pub keys_at : List ℕ → ℕ → Four ℕ
keys_at xs k = record { a = get_or xs k 0; b = get_or xs (k + 1) 0; c = get_or xs (k + 2) 0; d = get_or xs (k + 3) 0 }

-- six numbers set one after the other
pub set-six : (out : List ℕ) (k : ℕ) (n : Numbers) → 6 * k + 6 ≤ length out
    → set (set (set (set (set (set out (6 * k) n.start) (6 * k + 1) n.end) (6 * k + 2) n.opcode) (6 * k + 3) n.page) (6 * k + 4) n.index) (6 * k + 5) n.told ≡ put_of out k n
unfolding put_of
set-six out k n h =
    let p : 6 * k + 1 ≡ suc (6 * k) = omega arith in
    let q : 6 * k + 2 ≡ suc (suc (6 * k)) = omega arith in
    let r : 6 * k + 3 ≡ suc (suc (suc (6 * k))) = omega arith in
    let t : 6 * k + 4 ≡ suc (suc (suc (suc (6 * k)))) = omega arith in
    let u : 6 * k + 5 ≡ suc (suc (suc (suc (suc (6 * k))))) = omega arith in
    rw (p, q, r, t, u) (sets-eq (listed n) out (6 * k) h)

module _ (look : ℕ → Looked) where
  length-answers : (xs : List ℕ) → length (answers_of look xs) ≡ 6 * length xs
  unfolding answers_of
  length-answers [] = refl
  length-answers (x ∷ xs) = length-append (listed (numbers_of (look x))) (answers_of look xs) ∙ omega (arith, length-answers xs)

  answers-append : (xs ys : List ℕ) → answers_of look (xs ++ ys) ≡ answers_of look xs ++ answers_of look ys
  unfolding answers_of
  answers-append [] ys = refl
  answers-append (x ∷ xs) ys = ap (λ (l : List ℕ). listed (numbers_of (look x)) ++ l) (answers-append xs ys) ∙ sym (append_assoc (listed (numbers_of (look x))) (answers_of look xs) (answers_of look ys))

  -- none yet
  pub none_yet : (xs out : List ℕ) → out ≡ standing look xs out 0
  unfolding standing answers_of
  none_yet xs out = refl

  module _ (xs out : List ℕ) (k : ℕ) (h : k < length xs) (room : 6 * k + 6 ≤ length out) where
    so_far : length (answers_of look (take k xs)) ≡ 6 * k
    so_far = length-answers (take k xs) ∙ omega (arith, length-take-le k xs (omega arith))

    -- one answer more
    pub one_more : put_of (standing look xs out k) k (numbers_of (look (get_or xs k 0))) ≡ standing look xs out (k + 1)
    unfolding put_of standing answers_of
    one_more =
        let e : drop (6 * k + 6) (answers_of look (take k xs) ++ drop (6 * k) out) ≡ drop (6 * (k + 1)) out = later in
        let f : take (6 * k) (answers_of look (take k xs) ++ drop (6 * k) out) ≡ answers_of look (take k xs) = take_at (answers_of look (take k xs)) (drop (6 * k) out) (6 * k) so_far in
        ap (λ (l : List ℕ). l ++ listed (numbers_of (look (get_or xs k 0))) ++ drop (6 * k + 6) (answers_of look (take k xs) ++ drop (6 * k) out)) f
        ∙ ap (λ (l : List ℕ). answers_of look (take k xs) ++ listed (numbers_of (look (get_or xs k 0))) ++ l) e
        ∙ ap (λ (l : List ℕ). l ++ drop (6 * (k + 1)) out) (sym grown)
      where
        one_answer : (x : ℕ) → answers_of look (x ∷ []) ≡ listed (numbers_of (look x))
        one_answer x = append-nil (listed (numbers_of (look x)))

        later : drop (6 * k + 6) (answers_of look (take k xs) ++ drop (6 * k) out) ≡ drop (6 * (k + 1)) out
        later =
            let p : 6 * k + 6 ≡ length (answers_of look (take k xs)) + 6 = omega (arith, so_far) in
            let q : 6 * k + 6 ≡ 6 * (k + 1) = omega arith in
            ap (λ (i : ℕ). drop i (answers_of look (take k xs) ++ drop (6 * k) out)) p ∙ drop-append-add (answers_of look (take k xs)) (drop (6 * k) out) 6
            ∙ drop-drop 6 (6 * k) out ∙ ap (λ (i : ℕ). drop i out) q

        grown : answers_of look (take (k + 1) xs) ≡ answers_of look (take k xs) ++ listed (numbers_of (look (get_or xs k 0)))
        grown =
            let p : k + 1 ≡ suc k = omega arith in
            ap (λ (i : ℕ). answers_of look (take i xs)) p ∙ ap (answers_of look) (take-suc xs k 0 h) ∙ answers-append (take k xs) (get_or xs k 0 ∷ [])
            ∙ ap (λ (l : List ℕ). answers_of look (take k xs) ++ l) (one_answer (get_or xs k 0))

  -- four answers more
  pub four-more : (xs out : List ℕ) (k : ℕ) → k + 4 ≤ length xs → 6 * k + 24 ≤ length out
      → four_found look (standing look xs out k) k (keys_at xs k) ≡ standing look xs out (k + 4)
  four-more xs out k h t =
      let e1 : k + 1 + 1 ≡ k + 2 = omega arith in
      let e2 : k + 2 + 1 ≡ k + 3 = omega arith in
      let e3 : k + 3 + 1 ≡ k + 4 = omega arith in
      ap (λ (o : List ℕ). put_of (put_of (put_of o (k + 1) (at 1)) (k + 2) (at 2)) (k + 3) (at 3)) (one_more xs out k (omega arith) (omega arith))
      ∙ ap (λ (o : List ℕ). put_of (put_of o (k + 2) (at 2)) (k + 3) (at 3)) (one_more xs out (k + 1) (omega arith) (omega arith) ∙ ap (standing look xs out) e1)
      ∙ ap (λ (o : List ℕ). put_of o (k + 3) (at 3)) (one_more xs out (k + 2) (omega arith) (omega arith) ∙ ap (standing look xs out) e2)
      ∙ one_more xs out (k + 3) (omega arith) (omega arith) ∙ ap (standing look xs out) e3
    where
      at : ℕ → Numbers
      at i = numbers_of (look (get_or xs (k + i) 0))

-- the smaller of two
pub is-fewer : (a b : ℕ) → min a b ≡ fewer_of a b
unfolding fewer_of
is-fewer a b = by_order (dec_le a b)
  where
    by_order : Dec (a ≤ b) → min a b ≡ cond (leb a b) a b
    by_order (yes h) = simp (le-leb a b h) (omega arith)
    by_order (no h) =
        let more : b < a = omega arith in
        simp (lt-leb a b more) (omega arith)

-- the answers that there are addresses and room for
pub whole : (s xs out : List ℕ) (n : ℕ) (list : List ℕ) → n ≡ min (length xs) (length out / 6) → list ≡ standing (lookup_on s) (take n xs) out n → batch n list ≡ batch_of s xs out
unfolding batch_of standing
whole s xs out n list e f =
    let asked : take n (take n xs) ≡ take n xs = take_all n (take n xs) (omega (arith, length-take n xs)) in
    ap (batch n) (f ∙ ap (λ (l : List ℕ). answers_of (lookup_on s) l ++ drop (6 * n) out) asked)
    ∙ ap (λ (k : ℕ). batch k (standing (lookup_on s) xs out k)) (e ∙ is-fewer (length xs) (length out / 6))

-- the fours of a list
pub in_fours : (xs : List ℕ) (n i j : ℕ) → i < n → j < 4 → get_or (get_or (first_chunks 4 n xs) i []) j 0 ≡ get_or xs (4 * i + j) 0
in_fours xs zero i j h t = absurd (omega arith)
in_fours xs (suc n) zero j h t =
    let e : j ≡ 4 * 0 + j = omega arith in
    get_or-take 4 xs j 0 t ∙ ap (λ (k : ℕ). get_or xs k 0) e
in_fours xs (suc n) (suc i) j h t =
    let e : 4 + (4 * i + j) ≡ 4 * suc i + j = omega arith in
    in_fours (drop 4 xs) n i j (omega arith) t ∙ get_or-drop 4 xs (4 * i + j) 0 ∙ ap (λ (k : ℕ). get_or xs k 0) e

-- four at i, as the loop over the fours has them
abbrev pub four_at : List (List ℕ) → ℕ → Four ℕ
four_at fours i =
    let four = get_or fours i [] in
    record { a = get_or four 0 0; b = get_or four 1 0; c = get_or four 2 0; d = get_or four 3 0 }

four-is : (xs : List ℕ) (n i : ℕ) → i < n → four_at (first_chunks 4 n xs) i ≡ keys_at xs (4 * i)
four-is xs n i h =
    let e : 4 * i + 0 ≡ 4 * i = omega arith in
    simp (in_fours xs n i 0 h (omega arith), in_fours xs n i 1 h (omega arith), in_fours xs n i 2 h (omega arith), in_fours xs n i 3 h (omega arith), e)

-- on the lists of a parse
pub on-bytes : (s : List ℕ) (l : Lists) → parse_of s ≡ good l → (out : List ℕ) (k : ℕ) (x : Four ℕ) → four_found (lookup_in s l) out k x ≡ four_found (lookup_on s) out k x
on-bytes s l e out k x = simp (after-parse s l e x.a, after-parse s l e x.b, after-parse s l e x.c, after-parse s l e x.d)

-- four answers more, and one, as the loops write them
module _ (s xs first out : List ℕ) (o : List ℕ) where
  pub four-on : (i : ℕ) → out ≡ standing (lookup_on s) xs first (4 * i) → (l : Lists) → parse_of s ≡ good l → (fours : List (List ℕ)) → fours ≡ first_chunks 4 (length xs / 4) xs
      → i < length xs / 4 → 6 * length xs ≤ length first → o ≡ four_found (lookup_in s l) out (4 * i) (four_at fours i) → o ≡ standing (lookup_on s) xs first (4 * (i + 1))
  four-on i e l p fours ef h t eo =
      let k : 4 * i + 4 ≡ 4 * (i + 1) = omega arith in
      let four = ap (λ (f : List (List ℕ)). four_at f i) ef ∙ four-is xs (length xs / 4) i h in
      eo ∙ on-bytes s l p out (4 * i) (four_at fours i) ∙ ap (four_found (lookup_on s) out (4 * i)) four ∙ ap (λ (v : List ℕ). four_found (lookup_on s) v (4 * i) (keys_at xs (4 * i))) e
      ∙ four-more (lookup_on s) xs first (4 * i) (omega arith) (omega arith) ∙ ap (standing (lookup_on s) xs first) k

  pub one_on : (k : ℕ) → out ≡ standing (lookup_on s) xs first k → k < length xs → 6 * k + 6 ≤ length first
      → (n : Numbers) → n ≡ numbers_of (lookup_on s (get_or xs k 0)) → o ≡ put_of out k n → o ≡ standing (lookup_on s) xs first (k + 1)
  one_on k e h t n en eo = eo ∙ ap (λ (v : List ℕ). put_of v k n) e ∙ ap (put_of (standing (lookup_on s) xs first k) k) en ∙ one_more (lookup_on s) xs first k h t
