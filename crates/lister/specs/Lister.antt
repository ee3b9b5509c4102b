-- docs/FORMAT.md, 12: what the program `functions` writes for an input, the whole text, from the bytes.
-- Assumes nothing.
use Rattle.std.specs.Prelude.{ℕ, suc, List, [], ◌∷◌, ◌++◌, leb, length}
use Rattle.raw.specs.declared.Lists.{Lists}
use Rattle.raw.specs.Checked.{Checked, good, refused, ◌>>◌, either, check}
use Rattle.raw.specs.Raw.{parse_of}
use Rattle.entries.specs.declared.Function.{Function}
use Rattle.iterate.specs.Iterate.{iterated}
use Rattle.listing.specs.Listing.{line_of, refused_of, end_of}

-- The input is listed if it has at most 65,536 bytes, and if it parses.
unfoldable pub accepted_of : List ℕ → Checked Lists
accepted_of s = do
  check 30 (leb (length s) 65536)
  parse_of s

-- A function's line, `refused N` for a refusal.
abbrev pub answer_text : Checked Function → List ℕ
answer_text (good f) = line_of f.start_address f.end_address f.opcode
answer_text (refused k) = refused_of k

unfoldable pub answers_text : List (Checked Function) → List ℕ
answers_text [] = []
answers_text (a ∷ r) = answer_text a ++ answers_text r

-- how many of the answers are functions
unfoldable pub functions_in : List (Checked Function) → ℕ
functions_in [] = 0
functions_in (good f ∷ r) = suc (functions_in r)
functions_in (refused k ∷ r) = functions_in r

-- What is iterated, answer after answer, and last `end F` with the functions printed; after 1, 2, 3, 15 or 30 only `end 0` follows.
unfoldable pub listing_of : List ℕ → List ℕ
listing_of s = either (λ k. refused_of k ++ end_of 0) (λ l. answers_text (iterated s l) ++ end_of (functions_in (iterated s l))) (accepted_of s)
