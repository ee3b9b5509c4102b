-- Numbers that stand in a record one after the other, and counts of records.
-- Assumes nothing.
use Rattle.std.specs.Prelude.{ℕ, zero, suc, ◌+◌, ◌*◌, ◌%◌, ◌^◌, Bool, true, cond, ◌&&◌, List, [], ◌∷◌, ◌++◌, ◌==◌, slice_index, ◌≡◌, min, max, length, drop, Option, MatchOption}
use Rattle.std.specs.Borrow.{Bor}
use Rattle.reader.specs.Reader.{word_at}
use Rattle.records.specs.declared.Tally.{Tally}

-- the first n numbers of 64 bits
unfoldable pub numbers_of : ℕ → List ℕ → List ℕ
numbers_of zero s = []
numbers_of (suc n) s = numbers_of n s ++ (word_at 8 s (8 * n) ∷ [])

-- the first n of an answer's numbers stand in a record, each w bytes wide
unfoldable pub same_of : ℕ → List ℕ → List ℕ → ℕ → Bool
same_of w ours s zero = true
same_of w ours s (suc n) = same_of w ours s n && slice_index ours n == word_at w s (w * n)

-- one record more; a count wraps at 2^64, which no input reaches
abbrev pub counted_of : Tally → Bool → Tally
counted_of t same = record { compared = (t.compared + 1) % 2 ^ 64; differed = (t.differed + cond same 0 1) % 2 ^ 64 }

-- what is handed out of the records that are left, and what is left then: none at the end; else all that is left, which a record begins, and so many
-- bytes of it are passed as the record is said to take, but one at least and no more than there are
abbrev pub HandsOut : (Bor (List ℕ) → ℕ → Type 0) → List ℕ → Option (Bor (List ℕ)) → List ℕ → Type 0
HandsOut Takes left handed after =
    MatchOption handed ((left ≡ []) × (after ≡ [])) (λ x. (x.now ≡ left) × ((n : ℕ) × Takes x n × (after ≡ drop (max 1 (min n (length left))) left)))
