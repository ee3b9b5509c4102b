-- docs/FORMAT.md, 5.5: the range of addresses that a section covers.
-- Assumes nothing.
use Rattle.std.specs.Prelude.{ℕ, ◌-◌, List, cond, eqb}
use Rattle.raw.specs.declared.Lists.{Lists}
use Rattle.raw.specs.Checked.{Checked, good, refused, either}
use Rattle.raw.specs.Raw.{parse_of, grant_of}
use Rattle.entries.specs.Section.{first_of}
use Rattle.iterate.specs.declared.Range.{Range}

abbrev range : ℕ → ℕ → Range
range a b = record { start = a; end = b }

-- first to last first_address; 0..0 for no pages
unfoldable pub range_of : List ℕ → Lists → Range
range_of s l = cond (eqb l.pages_len 0) (range 0 0) (range (first_of s l 0) (first_of s l (l.pages_len - 1)))

-- over the bytes with the lists' places, granted anew, and over the bytes alone
unfoldable pub range_in : List ℕ → Lists → Checked Range
range_in s l = either refused (λ m. good (range_of s m)) (grant_of s l)

unfoldable pub range_on : List ℕ → Checked Range
range_on s = either refused (λ m. good (range_of s m)) (parse_of s)
