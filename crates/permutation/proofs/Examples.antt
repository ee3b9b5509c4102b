-- Permutations with their registers as literal numbers, for every count, computed both ways; and what is refused.
-- Assumes nothing.
use Prim.Native.Nat.{ℕ}
use mathlib.Core.Path.{◌≡◌, refl}
use mathlib.Core.List.{List, [], ◌∷◌, map}
use lib.ListN.{replicate}
use Rattle.permutation.specs.Permutation as permuted
use Rattle.permutation.specs.Permutation.{bounds, Told, accepted, decode_of, Written, encoding, encode_of}

pub record Row : Type 0 where
  pub count : ℕ
  pub code : ℕ
  pub registers : List ℕ

abbrev row : ℕ → ℕ → List ℕ → Row
row n e xs = record { count = n; code = e; registers = xs }

-- digits that differ in every place, and for each count the last encoding that is not refused
abbrev pub rows : List Row
rows =
    row 0 0 (0 ∷ 0 ∷ 0 ∷ 0 ∷ 0 ∷ 0 ∷ [])
    ∷ row 1 3 (4 ∷ 0 ∷ 0 ∷ 0 ∷ 0 ∷ 0 ∷ [])
    ∷ row 1 5 (6 ∷ 0 ∷ 0 ∷ 0 ∷ 0 ∷ 0 ∷ [])
    ∷ row 2 13 (3 ∷ 5 ∷ 0 ∷ 0 ∷ 0 ∷ 0 ∷ [])
    ∷ row 2 29 (6 ∷ 5 ∷ 0 ∷ 0 ∷ 0 ∷ 0 ∷ [])
    ∷ row 3 47 (3 ∷ 2 ∷ 6 ∷ 0 ∷ 0 ∷ 0 ∷ [])
    ∷ row 3 119 (6 ∷ 5 ∷ 4 ∷ 0 ∷ 0 ∷ 0 ∷ [])
    ∷ row 4 202 (4 ∷ 2 ∷ 6 ∷ 3 ∷ 0 ∷ 0 ∷ [])
    ∷ row 4 359 (6 ∷ 5 ∷ 4 ∷ 3 ∷ 0 ∷ 0 ∷ [])
    ∷ row 5 345 (3 ∷ 6 ∷ 2 ∷ 4 ∷ 5 ∷ 0 ∷ [])
    ∷ row 5 719 (6 ∷ 5 ∷ 4 ∷ 3 ∷ 2 ∷ 0 ∷ [])
    ∷ row 6 463 (4 ∷ 6 ∷ 2 ∷ 1 ∷ 5 ∷ 3 ∷ [])
    ∷ row 6 719 (6 ∷ 5 ∷ 4 ∷ 3 ∷ 2 ∷ 1 ∷ [])
    ∷ []

pub decodes : map (λ (r : Row). decode_of r.count r.code) rows ≡ map (λ (r : Row). accepted r.registers) rows
unfolding permuted.rows bounds decode_of
decodes = refl

pub encodes : map (λ (r : Row). encode_of r.count r.registers) rows ≡ map (λ (r : Row). encoding r.code) rows
unfolding permuted.rows encode_of
encodes = refl

-- the first refused encodings, a count above 6, and 0 as the count with any encoding, which is not refused
pub decodes-none : map (λ (a : ℕ × ℕ). decode_of a.0 a.1) ((1, 6) ∷ (2, 30) ∷ (3, 120) ∷ (4, 360) ∷ (5, 720) ∷ (6, 720) ∷ (7, 0) ∷ (0, 1023) ∷ [])
    ≡ (Told.refused 23 (replicate 6 0) ∷ Told.refused 23 (replicate 6 0) ∷ Told.refused 23 (replicate 6 0) ∷ Told.refused 23 (replicate 6 0)
    ∷ Told.refused 23 (replicate 6 0) ∷ Told.refused 23 (replicate 6 0) ∷ Told.refused 23 (replicate 6 0) ∷ accepted (replicate 6 0) ∷ [])
unfolding permuted.rows bounds decode_of
decodes-none = refl

-- a register twice, none among the listed, one above 6, one after the listed, a count above 6
pub encodes-none : map (λ (r : Row). encode_of r.count r.registers) (
    row 2 0 (3 ∷ 3 ∷ 0 ∷ 0 ∷ 0 ∷ 0 ∷ [])
    ∷ row 2 0 (3 ∷ 0 ∷ 0 ∷ 0 ∷ 0 ∷ 0 ∷ [])
    ∷ row 1 0 (7 ∷ 0 ∷ 0 ∷ 0 ∷ 0 ∷ 0 ∷ [])
    ∷ row 1 0 (3 ∷ 5 ∷ 0 ∷ 0 ∷ 0 ∷ 0 ∷ [])
    ∷ row 7 0 (1 ∷ 2 ∷ 3 ∷ 4 ∷ 5 ∷ 6 ∷ [])
    ∷ []) ≡ replicate 5 (Written.refused 28)
unfolding permuted.rows encode_of
encodes-none = refl
