-- The loop that places the pairs: what holds at each turn.
-- Assumes nothing.
use Prim.Native.Nat.{ℕ}
use mathlib.Core.Path.{◌≡◌, ap, sym, ◌∙◌}
use mathlib.Core.List.{List}
use mathlib.Core.Bool.{Bool}
use lib.ListN.{length, drop}
use lib.Seq.{drop-length}
use Rattle.frame.specs.Frame.{distances}
use Rattle.frame.specs.Downwards.{down}
use Rattle.rules.specs.RulesArm64.{listed_from}

-- the distances `first`, and the pairs from the p-th on downwards from `next`, the distances with those before it being ds
abbrev pub Turn : List ℕ → List Bool → List ℕ → ℕ → ℕ → Type 0
Turn first bs ds next p = distances first (down 8 24 (listed_from 0 bs)) ≡ distances ds (down 8 next (listed_from p (drop p bs)))

pub end : (first : List ℕ) (bs : List Bool) (ds : List ℕ) (next : ℕ) → Turn first bs ds next (length bs) → ds ≡ distances first (down 8 24 (listed_from 0 bs))
end first bs ds next t = sym (t ∙ ap (λ (l : List Bool). distances ds (down 8 next (listed_from (length bs) l))) (drop-length bs))
