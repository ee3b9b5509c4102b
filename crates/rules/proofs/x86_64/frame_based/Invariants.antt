-- `rules::x86_64::frame_based` meets its contract: each turn places one more field, or refuses.
-- Assumes nothing.
use mathlib.Core.List.{[], ◌∷◌}
use Rattle.opcodes.specs.Registers.{fields_in}
use Rattle.rules.proofs.Fielding.{Turn}
use Rattle.rules.proofs.x86_64.frame_based.Given as goal

abbrev pub invariant-loop-k : goal.invariant-loop-k
invariant-loop-k l = Turn l.offset (0 ∷ 0 ∷ 0 ∷ 0 ∷ 0 ∷ 16 ∷ []) (fields_in l.fields) l.below l.k
