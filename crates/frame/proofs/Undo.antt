-- A step undoes a prologue: over any width, window, and list of slots that lie apart and in the window.
-- Assumes nothing.
use Prim.Native.Nat.{ℕ, ◌+◌, ◌-◌, ◌^◌, ◌<◌, ◌≤◌}
use mathlib.Core.Path.{◌≡◌, refl, ap, ◌∙◌}
use mathlib.Core.List.{List, [], ◌∷◌}
use mathlib.Core.Bool.{true}
use native.Mathlib.Omega.{arith}
use borrow.Author.Tests.{le-leb, lt-ltb}
use lib.ListN.{length, get_or, replicate, length-replicate}
use Rattle.frame.specs.Memory.{part, bytes, load}
use Rattle.frame.specs.Frame.{Regs, Slot, Return, slot, holds, Frame, anchored, slot_places, places_of, places, distances_of, inside, restored, return_inside, returned, step_of}
use Rattle.frame.specs.Calls.{All, Unlisted, Keeps, Body}
use Rattle.frame.proofs.Prologues.{Held, ReturnIs, Ran}
use Rattle.frame.proofs.Slots.{load_same, load_of}
use Rattle.frame.proofs.Stores.{all_map, all_both}
use Rattle.frame.proofs.Distances.{distances-all, distances-zero, length-distances, all-inside, restored-is, get_or-zeroes}

keeps-all : (w base cfa : ℕ) (m m' : List ℕ) (ss : List Slot) → Keeps w (slot_places base cfa ss) m m'
    → All (λ (s : Slot). part w (cfa - s.below - base) m' ≡ part w (cfa - s.below - base) m) ss
keeps-all w base cfa m m' [] a = tt
keeps-all w base cfa m m' (s ∷ ss) a = (a.0, keeps-all w base cfa m m' ss a.1)

own-slots : (w base cfa : ℕ) (m m' : List ℕ) (ret : Return) (ss : List Slot) → Keeps w (places_of base cfa ret ss) m m'
    → All (λ (s : Slot). part w (cfa - s.below - base) m' ≡ part w (cfa - s.below - base) m) ss
own-slots w base cfa m m' (slot d) ss a = keeps-all w base cfa m m' ss a.1
own-slots w base cfa m m' (holds k) ss a = keeps-all w base cfa m m' ss a

inside-true : (w base len cfa d : ℕ) → w ≤ d → base + d ≤ cfa → cfa ≤ base + len → inside w base len cfa d ≡ true
inside-true w base len cfa d a b c = simp (le-leb (base + d) cfa b, le-leb (cfa + w) (base + len + d) (omega arith))

return-inside : (w base cfa : ℕ) (ss : List Slot) (pc : ℕ) (r : Regs) (m : List ℕ) (len : ℕ) (ret : Return) → cfa ≤ base + len
    → ReturnIs w base cfa ss pc r m ret → return_inside (inside w base len cfa) ret ≡ true
return-inside w base cfa ss pc r m len (slot d) h i = inside-true w base len cfa d i.0 i.1 h
return-inside w base cfa ss pc r m len (holds k) h i = refl

-- the first place that a body keeps is the return address's
kept_there : (w p q : ℕ) (m m' : List ℕ) → part w p m' ≡ part w p m → p ≡ q → part w q m' ≡ part w q m
kept_there w p q m m' h e = rw e at h

return-pc : (w base cfa : ℕ) (ss : List Slot) (pc : ℕ) (r r' : Regs) (m m' : List ℕ) (ret : Return)
    → ((k : ℕ) → Unlisted ss k → get_or r'.kept k 0 ≡ get_or r.kept k 0)
    → ReturnIs w base cfa ss pc r m ret → Keeps w (places_of base cfa ret ss) m m'
    → returned (λ (d : ℕ). load w (cfa - d - base) m') r'.kept ret ≡ pc
return-pc w base cfa ss pc r r' m m' (slot d) o i k =
    let p : ℕ = get_or (places_of base cfa (slot d) ss) 0 0 in
    load_same w (cfa - d - base) m m' (kept_there w p (cfa - d - base) m m' k.0 (omega arith)) ∙ i.2
return-pc w base cfa ss pc r r' m m' (holds x) o i k = o x i.0 ∙ i.1

module _ (w base cfa : ℕ) (f : Frame) (e : Regs) (pc : ℕ) (r r' : Regs) (m m' : List ℕ)
    (m₀ : List ℕ) (words : (k : ℕ) → get_or e.kept k 0 < 256 ^ w) (wide : 0 < w) (p : Ran w base cfa f e m₀ pc r m) (b : Body w (places base cfa f) f r r' m m') where
  ds : List ℕ
  ds = distances_of (length e.kept) f.saved

  loads : All (λ (s : Slot). load w (cfa - s.below - base) m' ≡ get_or e.kept s.reg 0) f.saved
  loads =
      all_map
      (λ (s : Slot). (part w (cfa - s.below - base) m' ≡ part w (cfa - s.below - base) m) × (part w (cfa - s.below - base) m ≡ bytes w (get_or e.kept s.reg 0)))
      (λ (s : Slot). load w (cfa - s.below - base) m' ≡ get_or e.kept s.reg 0)
      (λ s h. load_of w (cfa - s.below - base) (get_or e.kept s.reg 0) m' (words s.reg) (h.0 ∙ h.1))
      f.saved (all_both (λ (s : Slot). part w (cfa - s.below - base) m' ≡ part w (cfa - s.below - base) m) (λ (s : Slot). part w (cfa - s.below - base) m ≡ bytes w (get_or e.kept s.reg 0)) f.saved (own-slots w base cfa m m' f.return f.saved b.slots) p.slots)

  -- of each slot: its register is known and the slot is inside; and what it is loaded as
  whole' : cfa ≤ base + length m'
  whole' = omega (arith, p.whole, b.window)

  inside-all : (k : ℕ) → (get_or ds k 0 ≡ 0 → ⊥) → inside w base (length m') cfa (get_or ds k 0) ≡ true
  unfolding ds
  inside-all =
      distances-all (λ k d. inside w base (length m') cfa d ≡ true) (replicate (length e.kept) 0) f.saved
      (λ k h. absurd (h (get_or-zeroes (length e.kept) k)))
      (all_map (Held w base cfa (length e.kept)) (λ (s : Slot). (s.reg < length (replicate (length e.kept) 0)) × (inside w base (length m') cfa s.below ≡ true))
      (λ s h. (rw length-replicate h.known, inside-true w base (length m') cfa s.below h.low h.high whole')) f.saved p.held)

  loads-all : (k : ℕ) → (get_or ds k 0 ≡ 0 → ⊥) → load w (cfa - get_or ds k 0 - base) m' ≡ get_or e.kept k 0
  unfolding ds
  loads-all =
      distances-all (λ k d. load w (cfa - d - base) m' ≡ get_or e.kept k 0) (replicate (length e.kept) 0) f.saved
      (λ k h. absurd (h (get_or-zeroes (length e.kept) k)))
      (all_map (λ (s : Slot). Held w base cfa (length e.kept) s × (load w (cfa - s.below - base) m' ≡ get_or e.kept s.reg 0))
      (λ (s : Slot). (s.reg < length (replicate (length e.kept) 0)) × (load w (cfa - s.below - base) m' ≡ get_or e.kept s.reg 0))
      (λ s h. (rw length-replicate h.0.known, h.1)) f.saved
      (all_both (Held w base cfa (length e.kept)) (λ (s : Slot). load w (cfa - s.below - base) m' ≡ get_or e.kept s.reg 0) f.saved p.held loads))

  kept-all : (k : ℕ) → get_or ds k 0 ≡ 0 → get_or r'.kept k 0 ≡ get_or e.kept k 0
  unfolding ds
  kept-all k z =
      let u : Unlisted f.saved k =
      (distances-zero (replicate (length e.kept) 0) f.saved
      (all_map (Held w base cfa (length e.kept)) (λ (s : Slot). (s.reg < length (replicate (length e.kept) 0)) × (0 < s.below))
      (λ s h. (rw length-replicate h.known, omega (arith, h.low))) f.saved p.held) k z).1 in
      b.regs.others k u ∙ p.others k u

  -- the step gives back the caller's pc, the stack pointer after return and every preserved register as at entry
  pub undo : (n : ℕ) → length e.kept ≡ n → step_of w n base m' f r' ≡ record { number = 0; regs = record { pc = pc; sp = cfa; kept = e.kept } }
  unfolding ds
  undo n many =
      let l : length r'.kept ≡ length e.kept = b.regs.count ∙ p.long in
      let a : anchored f.anchor r' + f.distance ≡ cfa = ap (λ (x : ℕ). x + f.distance) b.regs.anchor ∙ p.at in
      let k : restored (λ (d : ℕ). load w (cfa - d - base) m') ds r'.kept ≡ e.kept =
      restored-is (λ (d : ℕ). load w (cfa - d - base) m') ds r'.kept e.kept l (length-distances (replicate (length e.kept) 0) f.saved ∙ length-replicate (length e.kept) 0) kept-all loads-all in
      let q = return-pc w base cfa f.saved pc r r' m m' f.return b.regs.others p.return b.slots in
      simp (
        a,
        ← many,
        lt-ltb (base + length m') (256 ^ w) (omega (arith, p.bounded, b.window)),
        lt-ltb cfa (256 ^ w) (omega (arith, p.bounded, p.whole)),
        return-inside w base cfa f.saved pc r m (length m') f.return whole' p.return,
        all-inside (inside w base (length m') cfa) ds inside-all,
        k,
        q,
      )
