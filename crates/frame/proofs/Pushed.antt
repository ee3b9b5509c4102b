-- The prologue of pushes leaves its frame.
-- Assumes nothing.
use Prim.Native.Nat.{ℕ, pred, ◌+◌, ◌-◌, ◌^◌, ◌<◌, ◌≤◌}
use mathlib.Core.Path.{◌≡◌, refl, ap, ◌∙◌}
use mathlib.Core.Logic.{inl, inr}
use mathlib.Core.List.{List, [], ◌∷◌}
use native.Mathlib.Omega.{arith}
use lib.ListN.{length, get_or}
use Rattle.frame.specs.Memory.{part, bytes, load}
use Rattle.frame.specs.Frame.{Slot}
use Rattle.frame.specs.Calls.{Machine, All}
use Rattle.frame.specs.Pushes.{push_all, prologue, deep, pushed, frameless, Named}
use Rattle.frame.proofs.Prologues.{Apart, Spread, Held, Ran}
use Rattle.frame.proofs.Slots.{part-store-other, part-store-same, length-store, load_same}
use Rattle.frame.proofs.Stores.{all_map, all_both}

pub deep-least : (w : ℕ) (xs : List ℕ) → w ≤ deep w xs
deep-least w [] = omega arith
deep-least w (x ∷ xs) = omega (arith, deep-least w xs)

-- a slot below the return address's, `most` below CFA at most, of a register among n
abbrev Between : ℕ → ℕ → ℕ → Slot → Type 0
Between w n most s = (w + w ≤ s.below) × (s.below ≤ most) × (s.reg < n)

pushed-in : (w n most : ℕ) (xs : List ℕ) → Named n xs → deep w xs ≤ most → All (Between w n most) (pushed w xs)
pushed-in w n most [] g h = tt
pushed-in w n most (x ∷ xs) g h = ((omega (arith, deep-least w xs), omega arith, omega arith), pushed-in w n most xs g.2 (omega arith))

-- the slots lie apart, and from the return address's
pub spread : (w n : ℕ) (xs : List ℕ) → Named n xs → Spread w (pushed w xs)
spread w n [] g = tt
spread w n (x ∷ xs) g = (
  all_map (Between w n (deep w xs)) (λ (s : Slot). Apart w (deep w xs + w) w s.below) (λ s i. inr (omega (arith, i.1))) (pushed w xs)
      (pushed-in w n (deep w xs) xs g.2 (omega arith)),
  spread w n xs g.2,
)

pub off-return : (w n : ℕ) (xs : List ℕ) → Named n xs → All (λ (s : Slot). Apart w w w s.below) (pushed w xs)
off-return w n xs g =
    all_map (Between w n (deep w xs)) (λ (s : Slot). Apart w w w s.below) (λ s i. inl i.0) (pushed w xs) (pushed-in w n (deep w xs) xs g (omega arith))

module _ (w base cfa : ℕ) (mc : Machine) (entry : mc.regs.sp + w ≡ cfa) (whole : cfa ≤ base + length mc.mem) where
  sp_after : (xs : List ℕ) → base + deep w xs ≤ cfa → (push_all w base xs mc).regs.sp + deep w xs ≡ cfa
  sp_after [] h = entry
  sp_after (x ∷ xs) h = omega (arith, sp_after xs (omega arith))

  kept-after : (xs : List ℕ) → (push_all w base xs mc).regs.kept ≡ mc.regs.kept
  kept-after [] = refl
  kept-after (x ∷ xs) = kept-after xs

  long_after : (xs : List ℕ) → length (push_all w base xs mc).mem ≡ length mc.mem
  long_after [] = refl
  long_after (x ∷ xs) =
      length-store w ((push_all w base xs mc).regs.sp - w - base) (get_or (push_all w base xs mc).regs.kept (pred x) 0) (push_all w base xs mc).mem ∙ long_after xs

  -- a push keeps each slot above it
  one-push : (d x : ℕ) (xs : List ℕ) → base + deep w (x ∷ xs) ≤ cfa → d ≤ deep w xs
      → part w (cfa - d - base) (push_all w base (x ∷ xs) mc).mem ≡ part w (cfa - d - base) (push_all w base xs mc).mem
  one-push d x xs h l =
      let q = sp_after xs (omega arith) in
      part-store-other w ((push_all w base xs mc).regs.sp - w - base) (get_or (push_all w base xs mc).regs.kept (pred x) 0) (cfa - d - base) (push_all w base xs mc).mem
      (inl (omega arith))

  -- the pushes keep the return address and all that lies above
  above : (p : ℕ) (xs : List ℕ) → base + deep w xs ≤ cfa → cfa ≤ base + p + w → part w p (push_all w base xs mc).mem ≡ part w p mc.mem
  above p [] h l = refl
  above p (x ∷ xs) h l =
      part-store-other w ((push_all w base xs mc).regs.sp - w - base) (get_or (push_all w base xs mc).regs.kept (pred x) 0) p (push_all w base xs mc).mem
      (inl (omega (arith, sp_after xs (omega arith), deep-least w xs)))
      ∙ above p xs (omega arith) l

  Saved : List ℕ → Slot → Type 0
  Saved m s = part w (cfa - s.below - base) m ≡ bytes w (get_or mc.regs.kept s.reg 0)

  slots-after : (n : ℕ) (xs : List ℕ) → Named n xs → base + deep w xs ≤ cfa → All (Saved (push_all w base xs mc).mem) (pushed w xs)
  unfolding Saved
  slots-after n [] g h = tt
  slots-after n (x ∷ xs) g h =
      let q = sp_after xs (omega arith) in
      let e : cfa - (deep w xs + w) - base ≡ (push_all w base xs mc).regs.sp - w - base = omega arith in (
        rw e
            (part-store-same w ((push_all w base xs mc).regs.sp - w - base) (get_or (push_all w base xs mc).regs.kept (pred x) 0) (push_all w base xs mc).mem
            (omega (arith, long_after xs))
            ∙ ap (λ (k : List ℕ). bytes w (get_or k (pred x) 0)) (kept-after xs)),
        all_map (λ (s : Slot). Between w n (deep w xs) s × Saved (push_all w base xs mc).mem s)
            (Saved (push_all w base (x ∷ xs) mc).mem)
            (λ s i. one-push s.below x xs h i.0.1 ∙ i.1)
            (pushed w xs)
            (all_both (Between w n (deep w xs)) (Saved (push_all w base xs mc).mem) (pushed w xs)
            (pushed-in w n (deep w xs) xs g.2 (omega arith)) (slots-after n xs g.2 (omega arith))),
      )

  -- the prologue leaves the frame
  pub ran : (size : ℕ) (xs : List ℕ) → Named (length mc.regs.kept) xs → deep w xs ≤ size → base + size ≤ cfa → base + length mc.mem < 256 ^ w
      → Ran w base cfa (frameless w size xs) mc.regs mc.mem (load w (cfa - w - base) mc.mem) (prologue w base size xs mc).regs (prologue w base size xs mc).mem
  unfolding Saved
  ran size xs g h b t =
      record {
        at = omega arith;
        bounded = omega (arith, long_after xs);
        whole = omega (arith, long_after xs);
        held = all_map (Between w (length mc.regs.kept) size) (Held w base cfa (length mc.regs.kept))
            (λ s i. record { low = omega (arith, i.0); high = omega (arith, i.1); known = i.2 })
            (pushed w xs) (pushed-in w (length mc.regs.kept) size xs g h);
        slots = slots-after (length mc.regs.kept) xs g (omega arith);
        return = (omega arith, omega (arith, deep-least w xs), load_same w (cfa - w - base) mc.mem (prologue w base size xs mc).mem (above (cfa - w - base) xs (omega arith) (omega (arith, deep-least w xs))));
        long = ap length (kept-after xs);
        others = λ k u. ap (λ (l : List ℕ). get_or l k 0) (kept-after xs);
        window = long_after xs;
        above = λ p l. above p xs (omega arith) (omega arith);
      }
