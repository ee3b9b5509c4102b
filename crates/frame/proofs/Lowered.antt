-- The prologues that find the return address in a register leave their frames.
-- Assumes nothing.
use Prim.Native.Nat.{ℕ, suc, ◌+◌, ◌-◌, ◌*◌, ◌^◌, ◌<◌, ◌≤◌}
use mathlib.Core.Path.{◌≡◌, refl, sym}
use mathlib.Core.Logic.{inl}
use mathlib.Core.List.{List, [], ◌∷◌}
use native.Mathlib.Omega.{arith}
use native.Mathlib.Nat.{mul-zero, mul-suc}
use borrow.Author.Tests.{lt-ltb, le-ltb}
use lib.ListN.{length, get_or}
use Rattle.frame.specs.Frame.{Regs, Slot, lowest}
use Rattle.frame.specs.Memory.{store}
use Rattle.frame.specs.Calls.{Machine, All}
use Rattle.frame.specs.Downwards.{down, saved, frame_based, before, store_each, prologue, frameless, lowered}
use Rattle.frame.proofs.Prologues.{Apart, Spread, Held, stores, Ran}
use Rattle.frame.proofs.Slots.{load_of}
use Rattle.frame.proofs.Pointed.{slots, leaves}
use Rattle.frame.proofs.Stores.{all_map, all_both, lowest-all}

-- places that rise from b on, all of them among n
abbrev pub Rising : ℕ → ℕ → List ℕ → Type 0
Rising n b [] = Unit {0}
Rising n b (x ∷ xs) = (b ≤ x) × (x < n) × Rising n (suc x) xs

-- Each of ys has as many of xs before it as its place in ys says, the first j.
abbrev Ranked : List ℕ → ℕ → List ℕ → Type 0
Ranked xs j [] = Unit {0}
Ranked xs j (y ∷ ys) = (before y xs ≡ j) × Ranked xs (suc j) ys

none_before : (n b y : ℕ) (xs : List ℕ) → y ≤ b → Rising n b xs → before y xs ≡ 0
none_before n b y [] h r = refl
none_before n b y (x ∷ xs) h r = rw (le-ltb x y (omega (arith, r.0)), none_before n (suc x) y xs (omega (arith, r.0)) r.2)

-- one more before all of them
later : (n b x j : ℕ) (xs ys : List ℕ) → x < b → Rising n b ys → Ranked xs j ys → Ranked (x ∷ xs) (suc j) ys
later n b x j xs [] h r k = tt
later n b x j xs (y ∷ ys) h r k = (rw (lt-ltb x y (omega (arith, r.0)), k.0) (omega arith), later n (suc y) x (suc j) xs ys (omega (arith, r.0)) r.2 k.1)

ranked : (n b : ℕ) (xs : List ℕ) → Rising n b xs → Ranked xs 0 xs
ranked n b [] r = tt
ranked n b (x ∷ xs) r = (
  rw (le-ltb x x (omega arith), none_before n (suc x) x xs (omega arith) r.2),
  later n (suc x) x 0 xs xs (omega arith) r.2 (ranked n (suc x) xs r.2),
)

module _ (w n : ℕ) where
  -- a slot d below CFA or lower, of a known register
  abbrev From : ℕ → Slot → Type 0
  From d s = (d ≤ s.below) × (s.reg < n)

  down-in : (d b : ℕ) (xs : List ℕ) → Rising n b xs → All (From d) (down w d xs)
  down-in d b [] r = tt
  down-in d b (x ∷ xs) r = (
    (omega arith, r.1),
    all_map (From (d + w)) (From d) (λ s i. (omega (arith, i.0), i.1)) (down w (d + w) xs) (down-in (d + w) (suc x) xs r.2),
  )

-- slots one below the other lie apart
down-from : (w d : ℕ) (xs : List ℕ) → All (λ (s : Slot). d ≤ s.below) (down w d xs)
down-from w d [] = tt
down-from w d (x ∷ xs) = (omega arith, all_map (λ (s : Slot). d + w ≤ s.below) (λ (s : Slot). d ≤ s.below) (λ s i. omega arith) (down w (d + w) xs) (down-from w (d + w) xs))

pub spread : (w d : ℕ) (xs : List ℕ) → Spread w (down w d xs)
spread w d [] = tt
spread w d (x ∷ xs) = (
  all_map (λ (s : Slot). d + w ≤ s.below) (λ (s : Slot). Apart w d w s.below) (λ s i. inl i) (down w (d + w) xs) (down-from w (d + w) xs),
  spread w (d + w) xs,
)

-- registers stored by their numbers are the slots' stores, where their numbers rise
each : (w base cfa j : ℕ) (kept xs ys m : List ℕ) → Ranked xs j ys
    → store_each w base cfa kept xs ys m ≡ stores w base cfa kept (down w (3 * w + w * j) ys) m
each w base cfa j kept xs [] m r = refl
each w base cfa j kept xs (y ∷ ys) m r =
    let e : 3 * w + w * suc j ≡ 3 * w + w * j + w = rw mul-suc (omega arith) in
    rw (r.0, ← e) (each w base cfa (suc j) kept xs ys (store w (cfa - (3 * w + w * j) - base) (get_or kept y 0) m) r.1)

module _ (w base fp lr : ℕ) (xs : List ℕ) (mc : Machine) (rises : Rising (length mc.regs.kept) 0 xs) (known : fp < length mc.regs.kept)
    (known' : lr < length mc.regs.kept) (low : base + lowest (saved w fp lr xs) ≤ mc.regs.sp) (whole : mc.regs.sp ≤ base + length mc.mem) where
  abbrev kept : List ℕ
  kept = mc.regs.kept

  abbrev cfa : ℕ
  cfa = mc.regs.sp

  held : All (Held w base cfa (length kept)) (saved w fp lr xs)
  held =
      let r = lowest-all base cfa (saved w fp lr xs) low in (
        record { low = omega arith; high = r.0; known = known' },
        (
          record { low = omega arith; high = r.1.0; known = known },
          all_map (λ (s : Slot). From w (length kept) (w + w + w) s × (base + s.below ≤ cfa)) (Held w base cfa (length kept))
              (λ s i. record { low = omega (arith, i.0.0); high = i.1; known = i.0.1 }) (down w (w + w + w) xs)
              (all_both (From w (length kept) (w + w + w)) (λ (s : Slot). base + s.below ≤ cfa) (down w (w + w + w) xs)
              (down-in w (length kept) (w + w + w) 0 xs rises) r.1.1),
        ),
      )

  -- the prologue's window is that of the slots' stores
  window : (prologue w base fp lr xs mc).mem ≡ stores w base cfa kept (saved w fp lr xs) mc.mem
  window =
      let two : 2 * w ≡ w + w = omega arith in
      let three : 3 * w + w * 0 ≡ w + w + w = rw mul-zero (omega arith) in
      rw (two, ← three) (each w base cfa 0 kept xs xs _ (ranked (length kept) 0 xs rises))

  -- the caller's pc is the return register's value at entry
  pub ran : get_or mc.regs.kept lr 0 < 256 ^ w → base + length mc.mem < 256 ^ w
      → Ran w base mc.regs.sp (frame_based w fp lr xs) mc.regs mc.mem (get_or mc.regs.kept lr 0) (prologue w base fp lr xs mc).regs (prologue w base fp lr xs mc).mem
  ran word t =
      let b : base + (w + w) ≤ cfa = held.1.0.high in
      let m : List ℕ = (prologue w base fp lr xs mc).mem in
      let r : Regs = (prologue w base fp lr xs mc).regs in
      let s = slots w base cfa fp (cfa - 2 * w) (saved w fp lr xs) mc.regs r mc.mem m known (omega arith) refl window held (spread w w (lr ∷ fp ∷ xs)) whole in
      leaves w base cfa fp (cfa - 2 * w) (saved w fp lr xs) mc.regs r mc.mem m known (omega arith) refl window held (spread w w (lr ∷ fp ∷ xs)) whole
      (get_or kept lr 0) (λ k u e. u.1.0 (sym e)) held.0.high (load_of w (cfa - w - base) (get_or kept lr 0) m word s.0) t

-- the stack pointer lowered, nothing stored
pub ran-lowered : (w base lr size : ℕ) (mc : Machine) → size ≤ mc.regs.sp → mc.regs.sp ≤ base + length mc.mem → base + length mc.mem < 256 ^ w
    → Ran w base mc.regs.sp (frameless lr size) mc.regs mc.mem (get_or mc.regs.kept lr 0) (lowered size mc).regs (lowered size mc).mem
ran-lowered w base lr size mc low whole t =
    record { at = omega arith; bounded = t; whole = whole; held = tt; slots = tt; return = (tt, refl); long = refl; others = λ k u. refl; window = refl; above = λ p l. refl }
