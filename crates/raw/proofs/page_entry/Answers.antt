-- `raw::page_entry` meets its contract: three numbers of the list; after the last entry there is none.
-- Assumes nothing.
use Prim.Native.Nat.{ℕ, ◌+◌, ◌*◌}
use mathlib.Core.Path.{◌≡◌, ap, sym, ◌∙◌}
use mathlib.Core.Bool.{false}
use mathlib.Core.List.{List}
use native.Mathlib.Omega.{arith}
use Rattle.reader.specs.Reader.{or_zero, granted_of, word_at}
use Rattle.reader.proofs.Laws.{fits_not, refused}
use Rattle.search.specs.Search.{key_of}
use Rattle.raw.specs.Raw.{first_in, offset_in}
use Rattle.raw.proofs.page_entry.Goals as goal

no-next : (pages : List ℕ) (p : ℕ) → granted_of 16 pages (12 * p) ≡ false → first_in pages (p + 1) ≡ 0
unfolding first_in key_of word_at
no-next pages p h = ap or_zero (refused 4 pages (12 * (p + 1)) (omega (arith, fits_not 16 pages (12 * p) h)))

next_one : (pages : List ℕ) (p : ℕ) → word_at 4 pages (12 * p + 12) ≡ first_in pages (p + 1)
unfolding first_in key_of
next_one pages p = ap (word_at 4 pages) (omega arith)

pub returns-then-not-is_granted : goal.returns-then-not-is_granted
returns-then-not-is_granted c =
    let none = no-next _ _ (sym c.is_granted.ensures ∙ c.if-not-is_granted.true) in
    cc

pub returns : goal.returns
unfolding first_in offset_in key_of
returns c = cc (next_one c.args.pages.now c.args.p)
