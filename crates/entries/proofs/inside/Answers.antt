-- `entries::inside` meets its contract: the part lies inside.
-- Assumes nothing.
use mathlib.Core.Path.{refl}
use Rattle.raw.proofs.Grants.{part-inside}
use Rattle.entries.proofs.inside.Goals as goal

pub returns : goal.returns
returns c = part-inside _ _ _ c.requires _ refl
