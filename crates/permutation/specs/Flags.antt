-- What the encoder keeps, for the contracts of helpers (docs/FORMAT.md, 8.3): a flag for each register from 1 on, set once it is used.
-- Assumes nothing.
use Rattle.std.specs.Prelude.{ℕ, suc, Bool, true, false, List, [], ◌∷◌}

-- the unused registers, the first flag being that of register r
abbrev pub unused_from : ℕ → List Bool → List ℕ
unused_from r [] = []
unused_from r (false ∷ fs) = r ∷ unused_from (suc r) fs
unused_from r (true ∷ fs) = unused_from (suc r) fs

abbrev pub unused : List Bool → List ℕ
unused fs = unused_from 1 fs

-- how many flags are not set
abbrev pub unset : List Bool → ℕ
unset [] = 0
unset (false ∷ fs) = suc (unset fs)
unset (true ∷ fs) = unset fs
