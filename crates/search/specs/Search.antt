-- docs/FORMAT.md, 3.1 and 3.2: the bisection, where it ends, and how many entries it probed.
-- Assumes nothing.
use Rattle.std.specs.Prelude.{ℕ, zero, suc, ◌+◌, ◌-◌, ◌*◌, ◌/◌, ◌%◌, ◌≤◌, ◌<◌, List, cond, length, ltb, leb}
use Rattle.reader.specs.Reader.{word_at}
use Rattle.search.specs.declared.Spot.{Spot}
use Rattle.search.specs.declared.four.Four.{Four}
use Rattle.search.specs.declared.Layout.{Layout}

-- the bytes of an entry, by the list's layout: 2.2, 2.4, 2.5
abbrev pub size_of : Layout → ℕ
size_of Layout.Pages = 12
size_of Layout.Regular = 8
size_of Layout.Compressed = 4

-- how many entries the list has
unfoldable pub count_of : List ℕ → Layout → ℕ
count_of list layout = length list / size_of layout

-- the key of entry i: its first number; of a compressed function the low 24 bits of it
unfoldable pub key_of : List ℕ → Layout → ℕ → ℕ
key_of list Layout.Pages i = word_at 4 list (12 * i)
key_of list Layout.Regular i = word_at 4 list (8 * i)
key_of list Layout.Compressed i = word_at 4 list (4 * i) % 16777216

-- the key of an entry whose first number this is
unfoldable pub key_in : Layout → ℕ → ℕ
key_in Layout.Pages w = w
key_in Layout.Regular w = w
key_in Layout.Compressed w = w % 16777216

unfoldable pub mid : ℕ → ℕ → ℕ
mid lo hi = lo + (hi - lo) / 2

-- k probes more
unfoldable pub more : ℕ → Spot → Spot
more k p = record { at = p.at; probes = k + p.probes }

-- at most f rounds
unfoldable pub rounds : (ℕ → ℕ) → ℕ → ℕ → ℕ → ℕ → Spot
rounds key x zero lo hi = record { at = lo; probes = 0 }
rounds key x (suc f) lo hi =
    let upper = more 1 (rounds key x f (mid lo hi + 1) hi) in
    let lower = more 1 (rounds key x f lo (mid lo hi)) in
    let round = cond (leb (key (mid lo hi)) x) upper lower in
    cond (ltb lo hi) round (record { at = lo; probes = 0 })

-- the bisection from lo to hi. It never runs out of rounds: `run-done`, `run_up` and `run_down` are its equations with no bound on them
unfoldable pub run : (ℕ → ℕ) → ℕ → ℕ → ℕ → Spot
run key x lo hi = rounds key x (hi - lo) lo hi

unfoldable pub search_of : List ℕ → Layout → ℕ → Spot
search_of list layout x = run (key_of list layout) x 0 (count_of list layout)

-- where four searches ended
abbrev pub spots_of : Spot → Spot → Spot → Spot → Four Spot
spots_of a b c d = record { a = a; b = b; c = c; d = d }

-- the four searches, each in its own list
abbrev pub spots_in : Layout → List ℕ → List ℕ → List ℕ → List ℕ → Four ℕ → Four Spot
spots_in l la lb lc ld x = spots_of (search_of la l x.a) (search_of lb l x.b) (search_of lc l x.c) (search_of ld l x.d)

-- 3.1: the first n keys rise strictly
abbrev pub Rising : (ℕ → ℕ) → ℕ → Type 0
Rising key n = (i j : ℕ) → i < j → j < n → key i < key j

-- the entries before r, and no others of the n, have a key of at most x: the last such is r - 1
pub record Last (key : ℕ → ℕ) (x n r : ℕ) : Type 0 where
  pub within : r ≤ n
  pub below : (i : ℕ) → i < r → key i ≤ x
  pub above : (i : ℕ) → r ≤ i → i < n → x < key i
