-- The search's turns on plain values: one round, several, and a search on its way.
-- Assumes nothing.
use Prim.Native.Nat.{ℕ, suc, ◌+◌, ◌-◌, ◌*◌, ◌/◌, ◌^◌, ◌≤◌, ◌<◌, zero-le}
use mathlib.Core.Path.{◌≡◌, refl, ap, sym, ◌∙◌}
use mathlib.Core.Bool.{Bool, true, false, cond}
use mathlib.Core.List.{List, [], ◌∷◌}
use native.Mathlib.Nat.{zero-add, le_refl, pow-suc, mul_assoc, mul_comm, mul-le-mul_left, le-div_iff_mul-le, div-lt_iff_lt-mul}
use native.Mathlib.Numerals.{unary_clauses}
use native.Mathlib.Omega.{arith}
use native.Mathlib.Decide.{dec_lt}
use lib.Dec.{ltb}
use lib.Pow.{pow-add, pow_pos, pow_mono, shr-shr}
use lib.ListN.{length, get_or}
use borrow.Author.Tests.{ltb-true, ltb-false, lt-ltb}
use Rattle.std.specs.Int.{w32, from_le_bytes}
use Rattle.reader.specs.Reader.{number_at, word_at}
use Rattle.reader.proofs.Laws.{there}
use Rattle.search.specs.declared.Layout.{Layout}
use Rattle.search.specs.declared.Spot.{Spot}
use Rattle.search.specs.declared.four.Four.{Four}
use Rattle.search.specs.declared.Span.{Span}
use Rattle.search.specs.declared.four.Rest.{Rest}
use Rattle.search.specs.declared.Going.{Going}
use Rattle.search.specs.Search.{size_of, count_of, key_of, key_in, mid, more, run, search_of}
use Rattle.search.specs.Steps.{hi, whole, going, span_of, rests_of, counts_of, all_of, unprobed_of, Ready, Took, OnWay, Below, Halved, Alike, Arrived, Abreast}
use Rattle.search.proofs.Laws.{spot, more-more, run-done, run_up, run_down, starts, bits}

-- so many entries are no more than their bytes
pub less-inside : (l : Layout) (i n : ℕ) → size_of l * i ≤ n → i ≤ n
less-inside Layout.Pages i n h = omega arith
less-inside Layout.Regular i n h = omega arith
less-inside Layout.Compressed i n h = omega arith

-- an entry's key goes by the number where it starts
pub keyed : (l : Layout) (list : List ℕ) (i : ℕ) → key_in l (word_at 4 list (size_of l * i)) ≡ key_of list l i
unfolding key_in key_of
keyed Layout.Pages list i = refl
keyed Layout.Regular list i = refl
keyed Layout.Compressed list i = refl

-- and so it does for a size that is the layout's, and a word that was read there
pub keyed_by : (l : Layout) (list : List ℕ) (i k w n s : ℕ) → k ≡ key_in l w → w ≡ word_at 4 list (n * i) → n ≡ s → s ≡ size_of l → k ≡ key_of list l i
keyed_by l list i k w n s a b c d = rw (a, b, c, d) (keyed l list i)

-- the bytes of a word make the number there
pub four_bytes : (list : List ℕ) (o : ℕ) → o + 4 ≤ length list → from_le_bytes w32 (get_or list o 0 ∷ get_or list (o + 1) 0 ∷ get_or list (o + 2) 0 ∷ get_or list (o + 3) 0 ∷ []) ≡ word_at 4 list o
unfolding number_at
four_bytes list o h = simp unary_clauses (omega (arith, simp unary_clauses at (sym (there 4 list o h))))

-- fewer entries lie in a list too
pub fewer-inside : (l : Layout) (hi n m : ℕ) → hi ≤ n → size_of l * n ≤ m → size_of l * hi ≤ m
fewer-inside Layout.Pages hi n m h t = omega arith
fewer-inside Layout.Regular hi n m h t = omega arith
fewer-inside Layout.Compressed hi n m h t = omega arith

-- what is chosen of two equal numbers
both : (t : Bool) (a b : ℕ) → a ≡ b → cond t a b ≡ b
both true a b e = e
both false a b e = refl

abbrev span : ℕ → ℕ → ℕ → Span
span lo len m = record { lo = lo; len = len; mid = m }

module _ (key : ℕ → ℕ) (x : ℕ) where
  module _ (p : Span) (some : 0 < p.len) (middle : p.mid ≡ p.lo + p.len / 2) where
    half-way : mid p.lo (hi p) ≡ p.mid
    unfolding mid
    half-way = omega arith

    goes-up : key p.mid < x + 1 → Took key x 1 p (span (p.mid + 1) ((p.len - 1) / 2) (p.mid + 1 + (p.len - 1) / 2 / 2))
    goes-up l =
        let e : hi p ≡ p.mid + 1 + (p.len - 1) / 2 = omega arith in
        record {
          rounds = run_up key x p.lo (hi p) (omega arith) (rw half-way (omega arith)) ∙ ap (λ (m : ℕ). more 1 (run key x (m + 1) (hi p))) half-way ∙ ap (λ (h : ℕ). more 1 (run key x (p.mid + 1) h)) e;
          inside = omega arith;
          middle = refl;
          small = omega arith;
          large = omega arith;
        }

    goes_down : x + 1 ≤ key p.mid → Took key x 1 p (span p.lo (p.len / 2) (p.lo + p.len / 2 / 2))
    goes_down l =
        record {
          rounds = run_down key x p.lo (hi p) (omega arith) (rw half-way (omega arith)) ∙ ap (λ (h : ℕ). more 1 (run key x p.lo h)) (half-way ∙ middle);
          inside = omega arith;
          middle = refl;
          small = omega arith;
          large = omega arith;
        }

    -- one round, by the test of the key
    pub round : (k : ℕ) → k ≡ key p.mid → (a b c : ℕ) → a ≡ cond (ltb k (x + 1)) (p.mid + 1) p.lo → b ≡ cond (ltb k (x + 1)) ((p.len - 1) / 2) (p.len / 2)
        → c ≡ cond (ltb k (x + 1)) (p.mid + 1 + (p.len - 1) / 2 / 2) (p.lo + p.len / 2 / 2) → Took key x 1 p (span a b c)
    round k e a b c u v w = rw (u, v, w) (by (ltb k (x + 1)) refl)
      where
        by : (t : Bool) → t ≡ ltb k (x + 1)
            → Took key x 1 p (span (cond t (p.mid + 1) p.lo) (cond t ((p.len - 1) / 2) (p.len / 2)) (cond t (p.mid + 1 + (p.len - 1) / 2 / 2) (p.lo + p.len / 2 / 2)))
        by true q = goes-up (omega (arith, ltb-true k (x + 1) (sym q), e))
        by false q = goes_down (omega (arith, ltb-false k (x + 1) (sym q), e))

  -- and by the fewer numbers of one among four
  pub lean_round : (p : Rest) → 0 < p.len → (k : ℕ) → k ≡ key (p.lo + p.len / 2) → (a b : ℕ) → a ≡ cond (ltb k (x + 1)) (p.lo + p.len / 2 + 1) p.lo
      → b ≡ cond (ltb k (x + 1)) (p.len - 1) p.len → Took key x 1 (span_of p) (span_of (record { lo = a; len = b / 2 }))
  lean_round p some k e a b u v = rw (u, v) (by (ltb k (x + 1)) refl)
    where
      by : (t : Bool) → t ≡ ltb k (x + 1)
          → Took key x 1 (span_of p) (span_of (record { lo = cond t (p.lo + p.len / 2 + 1) p.lo; len = cond t (p.len - 1) p.len / 2 }))
      by true q = goes-up (span_of p) some refl (omega (arith, ltb-true k (x + 1) (sym q), e))
      by false q = goes_down (span_of p) some refl (omega (arith, ltb-false k (x + 1) (sym q), e))

  -- some rounds, and some more
  pub then : (j k : ℕ) (p q r : Span) → Took key x j p q → Took key x k q r → Took key x (j + k) p r
  then j k p q r a b =
      record {
        rounds = a.rounds ∙ ap (more j) b.rounds ∙ more-more j k (run key x r.lo (hi r));
        inside = omega (arith, a.inside, b.inside);
        middle = b.middle;
        small = rw (pow-add 2 j k, mul_assoc (2 ^ j) (2 ^ k) r.len) (omega (arith, mul-le-mul_left (2 ^ j) b.small, a.small));
        large = rw (pow-add 2 j k, mul_assoc (2 ^ j) (2 ^ k) (r.len + 2)) (omega (arith, mul-le-mul_left (2 ^ j) b.large, a.large));
      }

  module _ (n : ℕ) where
    pub sets_out : OnWay key x n (going (whole n) n 0)
    sets_out = record { rounds = rw (zero-add n) (starts key x n); inside = omega arith; middle = omega arith; least = le_refl _; most = omega arith }

    pub ready : (l : Layout) (m : ℕ) (g : Going) → OnWay key x n g → 2 ≤ g.width → size_of l * n ≤ m → Ready (size_of l) m g.left
    ready l m g o w h = record { fits = fewer-inside l _ _ _ o.inside h; some = omega (arith, o.most); middle = o.middle }

    -- its probes are few
    pub few : (g : Going) → OnWay key x n g → n < 2 ^ 64 → g.probes ≤ 64
    unfolding more
    few g o h = omega (arith, bits key x n 64 h, ap (λ (q : Spot). q.probes) o.rounds)

    -- after k rounds more it is on its way, a 2^k-th as wide
    pub onward : (k : ℕ) (g : Going) (q : Span) → OnWay key x n g → Took key x k g.left q → OnWay key x n (going q (g.width / 2 ^ k) (g.probes + k))
    onward k g q o t =
        record {
          rounds = o.rounds ∙ ap (more g.probes) t.rounds ∙ more-more g.probes k (run key x q.lo (hi q));
          inside = omega (arith, t.inside, o.inside);
          middle = t.middle;
          least = (le-div_iff_mul-le {k = 2 ^ k} {x = q.len} {y = g.width} (pow_pos k)).1 (rw (mul_comm q.len (2 ^ k)) (omega (arith, t.small, o.least)));
          most = lower ((div-lt_iff_lt-mul {k = 2 ^ k} {x = g.width} {y = q.len + 2} (pow_pos k)).1 (rw (mul_comm (q.len + 2) (2 ^ k)) (omega (arith, t.large, o.most))));
        }
      where
        lower : g.width / 2 ^ k < q.len + 2 → g.width / 2 ^ k ≤ q.len + 1
        lower h = omega arith

    -- at most one entry is left, and was probed if there was one
    module _ (g : Going) (b : Below key x n 2 g) where
      -- where the last round ends, with its probes
      ended : (a k c d : ℕ) → run key x g.left.lo (hi g.left) ≡ spot a k → c ≡ a → d ≡ k → spot c (g.probes + d) ≡ run key x 0 n
      unfolding more
      ended a k c d e p q = ap (λ (m : ℕ). spot m (g.probes + d)) p ∙ ap (λ (m : ℕ). spot a (g.probes + m)) q ∙ sym (b.on.rounds ∙ ap (more g.probes) e)

      pub ends : (i : ℕ) → i ≡ cond (ltb g.left.lo n) g.left.lo (n - 1) → (k : ℕ) → k ≡ key i
          → (c : ℕ) → c ≡ cond (ltb k (x + 1)) (hi g.left) g.left.lo → spot c (g.probes + g.left.len) ≡ run key x 0 n
      unfolding more
      ends i e k t c d = by-rest (dec_lt 0 g.left.len)
        where
          by-rest : Dec (0 < g.left.len) → spot c (g.probes + g.left.len) ≡ run key x 0 n
          by-rest (yes h) =
              let o = b.on in
              let one : g.left.len ≡ 1 = omega (arith, o.least, b.narrow) in
              let here : i ≡ g.left.mid = e ∙ simp (lt-ltb g.left.lo n (omega (arith, o.inside))) (omega (arith, o.middle)) in
              let q = round g.left h o.middle k (t ∙ ap key here) _ _ _ refl refl refl in
              ended _ (1 + 0) c g.left.len (q.rounds ∙ ap (more 1) (run-done key x _ _ (omega (arith, q.small))))
              (d ∙ ap (λ (m : ℕ). cond (ltb k (x + 1)) m g.left.lo) (omega (arith, o.middle))) one
          by-rest (no h) =
              ended g.left.lo 0 c g.left.len (run-done key x _ _ (omega arith)) (d ∙ both (ltb k (x + 1)) _ _ (omega arith)) (omega arith)

-- the whole search, of no entries
pub none : (key : ℕ → ℕ) (x n : ℕ) → n ≡ 0 → spot 0 0 ≡ run key x 0 n
none key x n e = sym (ap (run key x 0) e ∙ run-done key x 0 0 zero-le)

-- the entries that a list has lie in it
pub all_inside : (l : Layout) (list : List ℕ) → size_of l * count_of list l ≤ length list
unfolding count_of
all_inside Layout.Pages list = omega arith
all_inside Layout.Regular list = omega arith
all_inside Layout.Compressed list = omega arith

pub counted_inside : (l : Layout) (list : List ℕ) (n : ℕ) → n ≡ count_of list l → size_of l * n ≤ length list
counted_inside l list n e = rw e (all_inside l list)

-- the bisection over them is the search
pub searched : (l : Layout) (list : List ℕ) (x n : ℕ) → n ≡ count_of list l → {r : Spot} → r ≡ run (key_of list l) x 0 n → r ≡ search_of list l x
unfolding search_of
searched l list x n e h = h ∙ ap (run (key_of list l) x 0) e

-- so often n can be halved
module _ (n k : ℕ) where
  wide : (rounds : ℕ) → Halved n k → rounds < k → 2 ≤ n / 2 ^ rounds
  wide rounds h t =
      (le-div_iff_mul-le {k = 2 ^ rounds} {x = 2} {y = n} (pow_pos rounds)).1
      (omega (arith, pow-suc 2 rounds, pow_mono {i = suc rounds} {j = k} t, h.enough (omega arith)))

-- one of four searches side by side
module _ (l : Layout) (list : List ℕ) (x : ℕ) where
  off : Arrived l list x (all_of (count_of list l)) 0
  off = let o = sets_out (key_of list l) x (count_of list l) in record { rounds = o.rounds; inside = o.inside; middle = refl; least = omega arith; most = omega arith }

  module _ (p : Rest) (rounds : ℕ) (a : Arrived l list x p rounds) where
    -- two entries or more are left before the last of the rounds that its list takes
    may : (k : ℕ) → Halved (count_of list l) k → rounds < k → Ready (size_of l) (length list) (span_of p)
    may k h t = ready (key_of list l) x _ l _ _ a (wide _ k rounds h t) (all_inside l list)

    goes : (q : Rest) → Took (key_of list l) x 1 (span_of p) (span_of q) → Arrived l list x q (rounds + 1)
    goes q t = rw (← shr-shr (count_of list l) rounds 1) (onward (key_of list l) x (count_of list l) 1 _ _ a t)

-- four of them
module _ (l : Layout) (s : Four (List ℕ)) (x : Four ℕ) (n : Four ℕ) (counts : n ≡ counts_of l s) where
  pub begins : (p : Four Rest) → p ≡ unprobed_of n → Abreast l s x (rests_of p.a p.b p.c p.d) 0
  begins p e = rw (e, counts) (record { a = off l s.a _; b = off l s.b _; c = off l s.c _; d = off l s.d _ })

  -- how often each can be halved
  halved : (k : ℕ) → Alike k n → Halved (count_of s.a l) k × Halved (count_of s.b l) k × Halved (count_of s.c l) k × Halved (count_of s.d l) k
  halved k h = let i = rw counts at h in (i.a, i.b, i.c, i.d)

  module _ (k : ℕ) (h : Alike k n) (p : Four Rest) (rounds : ℕ) (v : Abreast l s x p rounds) where
    -- each can go a round more
    pub may-go : rounds < k → Ready (size_of l) (length s.a) (span_of p.a) × Ready (size_of l) (length s.b) (span_of p.b) × Ready (size_of l) (length s.c) (span_of p.c) × Ready (size_of l) (length s.d) (span_of p.d)
    may-go t = let i = halved k h in (
      may l s.a _ _ _ v.a k i.0 t,
      may l s.b _ _ _ v.b k i.1 t,
      may l s.c _ _ _ v.c k i.2 t,
      may l s.d _ _ _ v.d k i.3 t,
    )

pub went : (l : Layout) (s : Four (List ℕ)) (x : Four ℕ) (p : Four Rest) (rounds : ℕ) → Abreast l s x p rounds → (q : Four Rest)
    → Took (key_of s.a l) x.a 1 (span_of p.a) (span_of q.a) → Took (key_of s.b l) x.b 1 (span_of p.b) (span_of q.b)
    → Took (key_of s.c l) x.c 1 (span_of p.c) (span_of q.c) → Took (key_of s.d l) x.d 1 (span_of p.d) (span_of q.d)
    → Abreast l s x q (rounds + 1)
went l s x p rounds v q ta tb tc td =
    record {
      a = goes l s.a _ _ _ v.a q.a ta;
      b = goes l s.b _ _ _ v.b q.b tb;
      c = goes l s.c _ _ _ v.c q.c tc;
      d = goes l s.d _ _ _ v.d q.d td;
    }
