-- `lister::list` meets its contract: what was written and what is left are the whole listing, and every block leaves less.
-- Assumes nothing.
use Prim.Native.Nat.{◌≤◌}
use mathlib.Core.Path.{◌≡◌}
use lib.ListN.{length}
use Rattle.lister.specs.Lister.{listing_of}
use Rattle.lister.specs.Block.{counted}
use Rattle.lister.proofs.Whole.{text_from}
use Rattle.lister.proofs.list.Given as goal

abbrev pub invariant-loop-at : goal.invariant-loop-at
invariant-loop-at g l =
    (27673 ≡ length l.text) × (counted l.total (length (text_from l.s l.at)) ≡ counted 0 (length (listing_of l.s))) × (l.total ≤ 18446744073709551615)

abbrev pub decreases-loop-at : goal.decreases-loop-at
decreases-loop-at g l = length (text_from l.s l.at)
