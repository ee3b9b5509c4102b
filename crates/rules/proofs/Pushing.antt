-- The loop that places the pushed registers: what holds at each turn.
-- Assumes nothing.
use Prim.Native.Nat.{ℕ, pred, suc, ◌+◌, ◌-◌, ◌*◌, ◌<◌}
use mathlib.Core.Path.{◌≡◌, refl, ap, ap₂, ◌∙◌}
use mathlib.Core.List.{List, [], ◌∷◌}
use native.Mathlib.Omega.{arith}
use native.Mathlib.Numerals.{add-one}
use lib.ListN.{length, get_or, set, drop, length-drop}
use lib.Seq.{drop-cons}
use Rattle.frame.specs.Frame.{distances, distances_of}
use Rattle.frame.specs.Pushes.{deep, pushed, Named}

pub deep-eight : (xs : List ℕ) → deep 8 xs ≡ 8 + 8 * length xs
deep-eight [] = refl
deep-eight (x ∷ xs) = omega (arith, deep-eight xs)

pub record Pushing (xs below : List ℕ) (i : ℕ) : Type 0 where
  pub same : distances_of 6 (pushed 8 xs) ≡ distances below (pushed 8 (drop i xs))
  pub named : Named 6 (drop i xs)

module _ (xs below : List ℕ) (i : ℕ) (p : Pushing xs below i) (h : i < length xs) where
  -- the register read, and what is written for it
  pub next : Pushing xs (set below (get_or xs i 0 - 1) (8 + 8 * (length xs - i))) (i + 1)
  next =
      let n : Named 6 (get_or xs i 0 ∷ drop (suc i) xs) = rw (drop-cons xs i 0 h) at p.named in
      let e : pred (get_or xs i 0) ≡ get_or xs i 0 - 1 = omega arith in
      let d : deep 8 (drop (suc i) xs) + 8 ≡ 8 + 8 * (length xs - i) = omega (arith, deep-eight (drop (suc i) xs), length-drop (suc i) xs) in
      rw (add-one i)
      (record {
        same = p.same ∙ ap (λ (l : List ℕ). distances below (pushed 8 l)) (drop-cons xs i 0 h)
            ∙ ap₂ (λ (k u : ℕ). distances (set below k u) (pushed 8 (drop (suc i) xs))) e d;
        named = n.2;
      })
