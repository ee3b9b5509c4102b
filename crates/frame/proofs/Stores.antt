-- What holds of every slot, and what storing registers into slots does to the window.
-- Assumes nothing.
use Prim.Native.Nat.{ℕ, ◌+◌, ◌-◌, ◌≤◌}
use mathlib.Core.Path.{◌≡◌, refl, ap, ◌∙◌}
use mathlib.Core.Logic.{inl, inr, ⊎_elim}
use mathlib.Core.List.{List, [], ◌∷◌}
use native.Mathlib.Omega.{arith}
use lib.ListN.{length, get_or}
use Rattle.frame.specs.Memory.{bytes, part, store}
use Rattle.frame.specs.Frame.{Slot, lowest}
use Rattle.frame.specs.Calls.{All}
use Rattle.frame.proofs.Prologues.{Apart, Spread, Held, stores}
use Rattle.frame.proofs.Slots.{part-store-other, part-store-same, length-store}

pub all_map : (P Q : Slot → Type 0) → ((s : Slot) → P s → Q s) → (ss : List Slot) → All P ss → All Q ss
all_map P Q f [] a = tt
all_map P Q f (s ∷ ss) a = (f s a.0, all_map P Q f ss a.1)

pub all_both : (P Q : Slot → Type 0) (ss : List Slot) → All P ss → All Q ss → All (λ (s : Slot). P s × Q s) ss
all_both P Q [] a b = tt
all_both P Q (s ∷ ss) a b = ((a.0, b.0), all_both P Q ss a.1 b.1)

pub lowest-all : (base cfa : ℕ) (ss : List Slot) → base + lowest ss ≤ cfa → All (λ (s : Slot). base + s.below ≤ cfa) ss
lowest-all base cfa [] h = tt
lowest-all base cfa (s ∷ ss) h = (omega arith, lowest-all base cfa ss (omega arith))

module _ (w base cfa : ℕ) (kept : List ℕ) where
  pub length-stores : (ss : List Slot) (l : List ℕ) → length (stores w base cfa kept ss l) ≡ length l
  length-stores [] l = refl
  length-stores (s ∷ ss) l = length-stores ss (store w (cfa - s.below - base) (get_or kept s.reg 0) l) ∙ length-store w (cfa - s.below - base) (get_or kept s.reg 0) l

  -- a slot apart from all that are stored keeps what it had
  pub stores-other : (n d : ℕ) (ss : List Slot) (l : List ℕ) → base + d ≤ cfa → All (Held w base cfa n) ss → All (λ (t : Slot). Apart w d w t.below) ss
      → part w (cfa - d - base) (stores w base cfa kept ss l) ≡ part w (cfa - d - base) l
  stores-other n d [] l h a p = refl
  stores-other n d (s ∷ ss) l h a p =
      stores-other n d ss (store w (cfa - s.below - base) (get_or kept s.reg 0) l) h a.1 p.1
      ∙ part-store-other w (cfa - s.below - base) (get_or kept s.reg 0) (cfa - d - base) l
      (⊎_elim (λ (q : d + w ≤ s.below). inl (omega (arith, a.0.high))) (λ (q : s.below + w ≤ d). inr (omega (arith, a.0.high))) p.0)

  -- what lies at or above CFA stays
  pub stores-above : (n p : ℕ) (ss : List Slot) (l : List ℕ) → cfa ≤ base + p → All (Held w base cfa n) ss → part w p (stores w base cfa kept ss l) ≡ part w p l
  stores-above n p [] l h a = refl
  stores-above n p (s ∷ ss) l h a =
      stores-above n p ss (store w (cfa - s.below - base) (get_or kept s.reg 0) l) h a.1
      ∙ part-store-other w (cfa - s.below - base) (get_or kept s.reg 0) p l (inl (omega (arith, a.0.low, a.0.high)))

  -- each slot has its register's value
  pub stores-saved : (n : ℕ) (ss : List Slot) (l : List ℕ) → cfa ≤ base + length l → All (Held w base cfa n) ss → Spread w ss
      → All (λ (s : Slot). part w (cfa - s.below - base) (stores w base cfa kept ss l) ≡ bytes w (get_or kept s.reg 0)) ss
  stores-saved n [] l h a p = tt
  stores-saved n (s ∷ ss) l h a p =
      let l' : List ℕ = store w (cfa - s.below - base) (get_or kept s.reg 0) l in
      let e : length l' ≡ length l = length-store w (cfa - s.below - base) (get_or kept s.reg 0) l in (
        stores-other n s.below ss l' a.0.high a.1 p.0
            ∙ part-store-same w (cfa - s.below - base) (get_or kept s.reg 0) l (omega (arith, a.0.low, a.0.high)),
        stores-saved n ss l' (omega arith) a.1 p.1,
      )

-- the stores go by the values of the registers stored
pub stores-kept : (w base cfa : ℕ) (k k' : List ℕ) (ss : List Slot) (l : List ℕ) → All (λ (s : Slot). get_or k s.reg 0 ≡ get_or k' s.reg 0) ss
    → stores w base cfa k ss l ≡ stores w base cfa k' ss l
stores-kept w base cfa k k' [] l a = refl
stores-kept w base cfa k k' (s ∷ ss) l a =
    stores-kept w base cfa k k' ss (store w (cfa - s.below - base) (get_or k s.reg 0) l) a.1
    ∙ ap (λ (v : ℕ). stores w base cfa k' ss (store w (cfa - s.below - base) v l)) a.0
