-- The prologue with a frame pointer and fields leaves its frame.
-- Assumes nothing.
use Prim.Native.Nat.{ℕ, zero, suc, ◌+◌, ◌-◌, ◌^◌, ◌<◌, ◌≤◌, max}
use mathlib.Core.Path.{◌≡◌, refl, ap, sym, ◌∙◌}
use mathlib.Core.Logic.{inl, inr}
use mathlib.Core.List.{List, [], ◌∷◌}
use native.Mathlib.Omega.{arith}
use lib.ListN.{length, get_or, set}
use lib.Seq.{get_or-set_other}
use Rattle.frame.specs.Memory.{part, load, store}
use Rattle.frame.specs.Frame.{Slot, lowest}
use Rattle.frame.specs.Calls.{Machine, All}
use Rattle.frame.specs.Fields.{field_slots, saved, frame_based, store_fields, prologue}
use Rattle.frame.proofs.Prologues.{Apart, Spread, Held, stores, Ran}
use Rattle.frame.proofs.Slots.{load_same}
use Rattle.frame.proofs.Pointed.{leaves}
use Rattle.frame.proofs.Stores.{all_map, all_both, lowest-all, stores-other, stores-kept}

-- sound fields: each names a register before the frame pointer, and its slot lies below the saved frame pointer
abbrev pub Fields : ℕ → ℕ → ℕ → List ℕ → Type 0
Fields w fp top [] = Unit {0}
Fields w fp top (zero ∷ fs) = Fields w fp (top - w) fs
Fields w fp top (suc f ∷ fs) = (f < fp) × (w + w + w ≤ top) × Fields w fp (top - w) fs

-- a slot below the frame pointer's, `top` below CFA at most, of a register before the frame pointer
abbrev Between : ℕ → ℕ → ℕ → Slot → Type 0
Between w fp top s = (w + w + w ≤ s.below) × (s.below ≤ top) × (s.reg < fp)

fields_in_lem : (w fp top : ℕ) (fs : List ℕ) → Fields w fp top fs → All (Between w fp top) (field_slots w top fs)
fields_in_lem w fp top [] f = tt
fields_in_lem w fp top (zero ∷ fs) f =
    all_map (Between w fp (top - w)) (Between w fp top)
    (λ s i. (i.0, omega (arith, i.1), i.2)) (field_slots w (top - w) fs) (fields_in_lem w fp (top - w) fs f)
fields_in_lem w fp top (suc f ∷ fs) g = (
  (g.1, omega arith, g.0),
  all_map (Between w fp (top - w)) (Between w fp top)
      (λ s i. (i.0, omega (arith, i.1), i.2)) (field_slots w (top - w) fs) (fields_in_lem w fp (top - w) fs g.2),
)

fields-spread : (w fp top : ℕ) (fs : List ℕ) → Fields w fp top fs → Spread w (field_slots w top fs)
fields-spread w fp top [] f = tt
fields-spread w fp top (zero ∷ fs) f = fields-spread w fp (top - w) fs f
fields-spread w fp top (suc f ∷ fs) g = (
  all_map (Between w fp (top - w)) (λ (s : Slot). Apart w top w s.below)
      (λ s i. inr (omega (arith, i.1, g.1))) (field_slots w (top - w) fs) (fields_in_lem w fp (top - w) fs g.2),
  fields-spread w fp (top - w) fs g.2,
)

-- the slots lie apart, and from the return address's
pub spread : (w fp offset : ℕ) (fs : List ℕ) → Fields w fp (w + w + offset) fs → Spread w (saved w fp offset fs)
spread w fp offset fs sound = (
  all_map (Between w fp (w + w + offset)) (λ (s : Slot). Apart w (w + w) w s.below) (λ s i. inl i.0) (field_slots w (w + w + offset) fs)
      (fields_in_lem w fp (w + w + offset) fs sound),
  fields-spread w fp (w + w + offset) fs sound,
)

pub off-return : (w fp offset : ℕ) (fs : List ℕ) → Fields w fp (w + w + offset) fs → All (λ (s : Slot). Apart w w w s.below) (saved w fp offset fs)
off-return w fp offset fs sound = (
  inl (omega arith),
  all_map (Between w fp (w + w + offset)) (λ (s : Slot). Apart w w w s.below) (λ s i. inl (omega (arith, i.0))) (field_slots w (w + w + offset) fs)
      (fields_in_lem w fp (w + w + offset) fs sound),
)

both-above : (base cfa a b : ℕ) → base + max a b ≤ cfa → (base + a ≤ cfa) × (base + b ≤ cfa)
both-above base cfa a b h = (omega arith, omega arith)

-- CFA - low + up is low - up below CFA
same_place : (w base cfa low up : ℕ) → 0 < w → w + w + w ≤ low - up → base + (low - up) ≤ cfa → cfa + up - low - base ≡ cfa - (low - up) - base
same_place w base cfa low up p h t =
    let e : cfa + up - low ≡ cfa - (low - up) = omega arith in
    ap (λ (a : ℕ). a - base) e

next_up : (low up w : ℕ) → low - up - w ≡ low - (up + w)
next_up low up w = omega arith

-- the fields' stores are those of their slots
stored : (w base cfa fp low up : ℕ) (kept fs m : List ℕ) → 0 < w → Fields w fp (low - up) fs → base + lowest (field_slots w (low - up) fs) ≤ cfa
    → store_fields w base cfa low up kept fs m ≡ stores w base cfa kept (field_slots w (low - up) fs) m
stored w base cfa fp low up kept [] m wide g h = refl
stored w base cfa fp low up kept (zero ∷ fs) m wide g h =
    let e : low - up - w ≡ low - (up + w) = next_up low up w in
    rw e (stored w base cfa fp low (up + w) kept fs m wide (rw e at g) (rw e at h))
stored w base cfa fp low up kept (suc f ∷ fs) m wide g h =
    let t = both-above base cfa (low - up) (lowest (field_slots w (low - up - w) fs)) h in
    let e : low - up - w ≡ low - (up + w) = next_up low up w in
    let q = same_place w base cfa low up wide g.1 t.0 in
    rw (e, q) (stored w base cfa fp low (up + w) kept fs (store w (cfa - (low - up) - base) (get_or kept f 0) m) wide (rw e at g.2) (rw e at t.1))

module _ (w base cfa fp offset : ℕ) (fs : List ℕ) (mc : Machine) (entry : mc.regs.sp + w ≡ cfa) (whole : cfa ≤ base + length mc.mem)
    (wide : 0 < w) (sound : Fields w fp (w + w + offset) fs) (low : base + lowest (saved w fp offset fs) ≤ cfa) (last : fp < length mc.regs.kept) where
  inner : All (Between w fp (w + w + offset)) (field_slots w (w + w + offset) fs)
  inner = fields_in_lem w fp (w + w + offset) fs sound

  held : All (Held w base cfa (length mc.regs.kept)) (saved w fp offset fs)
  held = (
    record { low = omega arith; high = (lowest-all base cfa (saved w fp offset fs) low).0; known = last },
    all_map (λ (s : Slot). Between w fp (w + w + offset) s × (base + s.below ≤ cfa)) (Held w base cfa (length mc.regs.kept))
        (λ s i. record { low = omega (arith, i.0.0); high = i.1; known = omega (arith, i.0.2) }) (field_slots w (w + w + offset) fs)
        (all_both (Between w fp (w + w + offset)) (λ (s : Slot). base + s.below ≤ cfa) (field_slots w (w + w + offset) fs) inner
        (lowest-all base cfa (saved w fp offset fs) low).1),
  )

  -- the prologue's window is that of the slots' stores, with the registers as at entry
  window : (prologue w base fp offset fs mc).mem ≡ stores w base cfa mc.regs.kept (saved w fp offset fs) mc.mem
  window =
      let b : base + (w + w) ≤ cfa = held.0.high in
      let q : mc.regs.sp - w - base ≡ cfa - (w + w) - base = omega arith in
      let z : w + w + offset - 0 ≡ w + w + offset = omega arith in
      let kept : List ℕ = set mc.regs.kept fp (mc.regs.sp - w) in
      let m : List ℕ = store w (cfa - (w + w) - base) (get_or mc.regs.kept fp 0) mc.mem in
      rw (entry, q)
      ((rw z at (stored w base cfa fp (w + w + offset) 0 kept fs m wide (rw z sound) (rw z (omega arith))))
      ∙ stores-kept w base cfa kept mc.regs.kept (field_slots w (w + w + offset) fs) m
      (all_map (Between w fp (w + w + offset)) (λ (s : Slot). get_or kept s.reg 0 ≡ get_or mc.regs.kept s.reg 0)
      (λ s i. get_or-set_other mc.regs.kept fp s.reg (mc.regs.sp - w) 0 (λ e. omega (arith, i.2)))
      (field_slots w (w + w + offset) fs) inner))

  -- the prologue leaves the frame
  pub ran : base + length mc.mem < 256 ^ w
      → Ran w base cfa (frame_based w fp offset fs) mc.regs mc.mem (load w (cfa - w - base) mc.mem) (prologue w base fp offset fs mc).regs (prologue w base fp offset fs mc).mem
  ran t =
      let b : base + (w + w) ≤ cfa = held.0.high in
      let m : List ℕ = (prologue w base fp offset fs mc).mem in
      leaves w base cfa fp (mc.regs.sp - w) (saved w fp offset fs) mc.regs (prologue w base fp offset fs mc).regs mc.mem m
      last (omega arith) refl window held (spread w fp offset fs sound) whole (load w (cfa - w - base) mc.mem) (λ k u e. u.0 (sym e)) (omega arith)
      (load_same w (cfa - w - base) mc.mem m
      (ap (part w (cfa - w - base)) window ∙ stores-other w base cfa mc.regs.kept (length mc.regs.kept) w (saved w fp offset fs) mc.mem (omega arith) held (off-return w fp offset fs sound)))
      t
