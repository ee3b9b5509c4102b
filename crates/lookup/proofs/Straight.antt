-- A page's functions lie in the section.
-- Assumes nothing.
use Prim.Native.Nat.{ℕ, ◌+◌, ◌*◌, ◌≤◌}
use mathlib.Core.Path.{◌≡◌, ap, sym, ◌∙◌}
use mathlib.Core.Bool.{true}
use mathlib.Core.List.{List}
use lib.ListN.{length}
use Rattle.reader.specs.Reader.{part_of}
use Rattle.search.specs.Search.{size_of}
use Rattle.search.specs.declared.Layout.{Layout}
use Rattle.raw.specs.Raw.{layout}
use Rattle.entries.specs.declared.Place.{Place}
use Rattle.entries.specs.Placed.{first_at, list_there, list_at}
use Rattle.entries.proofs.Placed.{list_inside}

-- the functions of a page, by the bytes that each has in their layout
module _ (s : List ℕ) (q : Place) (l : Layout) (e : layout q.page.kind ≡ l) (z : ℕ) (size : z ≡ size_of l) where
  size-is : size_of (layout q.page.kind) ≡ z
  size-is = ap size_of e ∙ sym size

  pub kind-inside : list_there s q ≡ true → first_at q + z * q.page.functions_len ≤ length s
  kind-inside t = rw size-is at (list_inside s q t)

  pub kind-list : (r : List ℕ) → r ≡ part_of s (first_at q) (z * q.page.functions_len) → r ≡ list_at s q
  unfolding list_at
  kind-list r p = p ∙ ap (λ (k : ℕ). part_of s (first_at q) (k * q.page.functions_len)) (sym size-is)
