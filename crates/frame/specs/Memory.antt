-- docs/FORMAT.md, 9.1: a window's bytes, and slots of w bytes in it, little-endian.
-- Assumes nothing.
use Rattle.std.specs.Prelude.{ℕ, zero, suc, ◌/◌, ◌%◌, List, [], ◌∷◌, take, drop}
use Rattle.std.proofs.lemmas.List.Edits.{sets}
use Rattle.reader.specs.Reader.{number_at}

-- the w bytes of a number, least significant first
abbrev pub bytes : ℕ → ℕ → List ℕ
bytes zero v = []
bytes (suc w) v = v % 256 ∷ bytes w (v / 256)

-- the w bytes from place i on
abbrev pub part : ℕ → ℕ → List ℕ → List ℕ
part w i m = take w (drop i m)

abbrev pub load : ℕ → ℕ → List ℕ → ℕ
load w i m = number_at w m i

abbrev pub store : ℕ → ℕ → ℕ → List ℕ → List ℕ
store w i v m = sets m i (bytes w v)
