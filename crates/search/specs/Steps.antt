-- What the search's helpers promise. docs/FORMAT.md, 3.1 and 3.2, fix which entries are probed and how many; these probe the same ones.
-- Assumes nothing.
use Rattle.std.specs.Prelude.{ℕ, suc, ◌+◌, ◌*◌, ◌/◌, ◌^◌, ◌≤◌, ◌<◌, ◌≡◌, List}
use Rattle.std.specs.Borrow.{Bor}
use Rattle.search.specs.declared.Layout.{Layout}
use Rattle.search.specs.declared.four.Four.{Four}
use Rattle.search.specs.declared.Span.{Span}
use Rattle.search.specs.declared.four.Rest.{Rest}
use Rattle.search.specs.declared.Going.{Going}
use Rattle.search.specs.Search.{count_of, key_of, more, run}

-- just past the entries that are left
abbrev pub hi : Span → ℕ
hi p = p.lo + p.len

-- n entries, of which none was probed
abbrev pub whole : ℕ → Span
whole n = record { lo = 0; len = n; mid = n / 2 }

abbrev pub going : Span → ℕ → ℕ → Going
going p width probes = record { left = p; width = width; probes = probes }

-- a round can be gone: an entry is left, and they lie in so many bytes
pub record Ready (size bytes : ℕ) (p : Span) : Type 0 where
  pub fits : size * hi p ≤ bytes
  pub some : 0 < p.len
  pub middle : p.mid ≡ p.lo + p.len / 2

-- k rounds were gone from p to q, and so what is left is a 2^k-th, less at most two entries
pub record Took (key : ℕ → ℕ) (x k : ℕ) (p q : Span) : Type 0 where
  pub rounds : run key x p.lo (hi p) ≡ more k (run key x q.lo (hi q))
  pub inside : hi q ≤ hi p
  pub middle : q.mid ≡ q.lo + q.len / 2
  pub small : 2 ^ k * q.len ≤ p.len
  pub large : p.len + 2 ≤ 2 ^ k * (q.len + 2)

-- a search of n entries on its way. Its width is what n alone gives: the entries left, or one more
pub record OnWay (key : ℕ → ℕ) (x n : ℕ) (g : Going) : Type 0 where
  pub rounds : run key x 0 n ≡ more g.probes (run key x g.left.lo (hi g.left))
  pub inside : hi g.left ≤ n
  pub middle : g.left.mid ≡ g.left.lo + g.left.len / 2
  pub least : g.left.len ≤ g.width
  pub most : g.width ≤ g.left.len + 1

-- and less than so wide
pub record Below (key : ℕ → ℕ) (x n bound : ℕ) (g : Going) : Type 0 where
  pub on : OnWay key x n g
  pub narrow : g.width < bound

-- what is left of a search, with the entry to probe next
abbrev pub span_of : Rest → Span
span_of p = record { lo = p.lo; len = p.len; mid = p.lo + p.len / 2 }

abbrev pub rests_of : Rest → Rest → Rest → Rest → Four Rest
rests_of a b c d = record { a = a; b = b; c = c; d = d }

-- what four slices hold
abbrev pub lists_of : Four (Bor (List ℕ)) → Four (List ℕ)
lists_of s = record { a = s.a.now; b = s.b.now; c = s.c.now; d = s.d.now }

-- how many entries four lists have
abbrev pub counts_of : Layout → Four (List ℕ) → Four ℕ
counts_of l s = record { a = count_of s.a l; b = count_of s.b l; c = count_of s.c l; d = count_of s.d l }

-- of n entries none was probed
abbrev pub all_of : ℕ → Rest
all_of n = record { lo = 0; len = n }

abbrev pub unprobed_of : Four ℕ → Four Rest
unprobed_of n = rests_of (all_of n.a) (all_of n.b) (all_of n.c) (all_of n.d)

-- halved k times, n entries are one or none, and not before
pub record Halved (n k : ℕ) : Type 0 where
  pub fewer : n < 2 ^ suc k
  pub enough : 0 < k → 2 ^ k ≤ n

-- so it is with each of four
pub record Alike (k : ℕ) (n : Four ℕ) : Type 0 where
  pub a : Halved n.a k
  pub b : Halved n.b k
  pub c : Halved n.c k
  pub d : Halved n.d k

-- a search of a list after so many rounds: each halved its width
abbrev pub Arrived : Layout → List ℕ → ℕ → Rest → ℕ → Type 0
Arrived l list x p rounds = OnWay (key_of list l) x (count_of list l) (going (span_of p) (count_of list l / 2 ^ rounds) rounds)

-- and it has at most one entry left, of n
abbrev pub Ending : Layout → List ℕ → ℕ → ℕ → Rest → ℕ → Type 0
Ending l list x n p rounds = (n ≡ count_of list l) × Arrived l list x p rounds × (p.len ≤ 1)

-- four searches after as many rounds
pub record Abreast (l : Layout) (s : Four (List ℕ)) (x : Four ℕ) (p : Four Rest) (rounds : ℕ) : Type 0 where
  pub a : Arrived l s.a x.a p.a rounds
  pub b : Arrived l s.b x.b p.b rounds
  pub c : Arrived l s.c x.c p.c rounds
  pub d : Arrived l s.d x.d p.d rounds
