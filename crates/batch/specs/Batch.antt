-- docs/FORMAT.md, 4.3: many addresses in one call; each answer is six numbers, which tell what the lookup of its address tells.
-- Assumes nothing.
use Rattle.std.specs.Prelude.{ℕ, ◌+◌, ◌*◌, ◌/◌, cond, List, [], ◌∷◌, ◌++◌, leb, length, take, drop}
use Rattle.search.specs.declared.four.Four.{Four}
use Rattle.entries.specs.Entries.{origin_number}
use Rattle.batch.specs.declared.Numbers.{Numbers}
use Rattle.lookup.specs.Lookup.{Looked, found, nothing, refusal, lookup_on}

-- start, end, opcode, page and index of the function found; then its opcode's origin, and above it the probes; above both 1 for a function, 2 for
-- a refusal with its number above that
abbrev pub numbers : (start end opcode page index told : ℕ) → Numbers
numbers start end opcode page index told = record { start = start; end = end; opcode = opcode; page = page; index = index; told = told }

abbrev pub numbers_of : Looked → Numbers
numbers_of (found f n) = numbers f.start_address f.end_address f.opcode f.page f.index (origin_number f.origin + 256 * n + 65536)
numbers_of (nothing n) = numbers 0 0 0 0 0 (256 * n)
numbers_of (refusal k n) = numbers 0 0 0 0 0 (256 * n + 131072 + 16777216 * k)

abbrev pub listed : Numbers → List ℕ
listed n = n.start ∷ n.end ∷ n.opcode ∷ n.page ∷ n.index ∷ n.told ∷ []

-- the answers one after the other
unfoldable pub answers_of : (ℕ → Looked) → List ℕ → List ℕ
answers_of look [] = []
answers_of look (a ∷ xs) = listed (numbers_of (look a)) ++ answers_of look xs

-- the first k answers stand in the list, and after them what was there
unfoldable pub standing : (ℕ → Looked) → List ℕ → List ℕ → ℕ → List ℕ
standing look xs out k = answers_of look (take k xs) ++ drop (6 * k) out

-- as many as there are addresses, and room
unfoldable pub fewer_of : ℕ → ℕ → ℕ
fewer_of a b = cond (leb a b) a b

pub record Batch : Type 0 where
  pub answers : ℕ
  pub list : List ℕ

abbrev pub batch : ℕ → List ℕ → Batch
batch n list = record { answers = n; list = list }

unfoldable pub batch_of : List ℕ → List ℕ → List ℕ → Batch
batch_of s xs out =
    let n = fewer_of (length xs) (length out / 6) in
    batch n (standing (lookup_on s) xs out n)

-- what the helpers promise: an answer as the k-th of the list
unfoldable pub put_of : List ℕ → ℕ → Numbers → List ℕ
put_of out k n = take (6 * k) out ++ listed n ++ drop (6 * k + 6) out

-- four answers from the k-th on, and those of four lookups
abbrev pub four_put : List ℕ → ℕ → (a b c d : Numbers) → List ℕ
four_put out k a b c d = put_of (put_of (put_of (put_of out k a) (k + 1) b) (k + 2) c) (k + 3) d

abbrev pub four_found : (ℕ → Looked) → List ℕ → ℕ → Four ℕ → List ℕ
four_found look out k x = four_put out k (numbers_of (look x.a)) (numbers_of (look x.b)) (numbers_of (look x.c)) (numbers_of (look x.d))
