-- The loops over a slot's bytes and over the distances: one more is read, one more is tested, one more is loaded.
-- Assumes nothing.
use Prim.Native.Nat.{ℕ, zero, suc, ◌+◌, ◌-◌, ◌*◌, ◌^◌, ◌<◌, ◌≤◌}
use mathlib.Core.Path.{◌≡◌, refl, ap, sym, ◌∙◌}
use mathlib.Core.List.{List, [], ◌∷◌, ◌++◌, append_assoc}
use mathlib.Core.Bool.{Bool, true, ◌&&◌}
use native.Mathlib.Omega.{arith}
use native.Mathlib.Nat.{pow-suc, pow-le-pow_right}
use lib.ListN.{length, get_or, set, take, drop, length-set, take-append-drop}
use lib.Seq.{drop-cons, take-suc, take-suc-set, drop-set-lt, drop-length}
use Rattle.permutation.proofs.Tests.{both_left}
use Rattle.reader.specs.Reader.{number_at}
use Rattle.std.specs.List.{list_all}
use Rattle.step.specs.Slots.{slot_inside}
use Rattle.frame.specs.Memory.{load}
use Rattle.frame.specs.Frame.{all_inside, restored}

-- a slot of no bytes
load-none : (i : ℕ) (m : List ℕ) → 0 ≡ load 0 i m
unfolding number_at
load-none i m = refl

-- a slot one byte wider, one place lower
load_byte : (w i : ℕ) (m : List ℕ) → load (suc w) i m ≡ get_or m i 0 + 256 * load w (suc i) m
unfolding number_at
load_byte w i m = refl

-- no byte is read yet
pub load_start : (w i : ℕ) (m : List ℕ) → (0 ≡ load (w - w) i m) × (0 < 256 ^ (w - w))
load_start w i m = let z : w - w ≡ 0 = omega arith in rw z (load-none i m, omega arith)

-- the bytes from place at + i on are read, and then the one below them
pub load_turn : (w at i : ℕ) (m : List ℕ) (number byte : ℕ) → 0 < i → i ≤ w → byte < 256 → byte ≡ get_or m (at + (i - 1)) 0
    → (number ≡ load (w - i) (at + i) m) × (number < 256 ^ (w - i))
    → (256 * number + byte ≡ load (w - (i - 1)) (at + (i - 1)) m) × (256 * number + byte < 256 ^ (w - (i - 1)))
load_turn w at i m number byte h l b e t =
    let k : ℕ = w - i in
    let j : ℕ = at + (i - 1) in
    let f : w - (i - 1) ≡ suc k = omega arith in
    let n : at + i ≡ suc j = omega arith in (
      rw f (omega (arith, load_byte k j m, ap (λ (x : ℕ). load k x m) n, e, t.0)),
      rw (f, pow-suc 256 k) (omega (arith, b, t.1)),
    )

-- which leaves room for one more
pub load_room : (w i number : ℕ) → w ≤ 8 → 0 < i → number < 256 ^ (w - i) → number < 72057594037927936
load_room w i number few h t = omega (arith, pow-le-pow_right {n = 256} (omega arith) {i = w - i} {j = 7} (omega arith))

pub load_end : (w at i : ℕ) (m : List ℕ) (number : ℕ) → i ≡ 0 → (number ≡ load (w - i) (at + i) m) × (number < 256 ^ (w - i)) → number ≡ load w at m
load_end w at i m number e t =
    let k : w - i ≡ w = omega arith in
    let n : at + i ≡ at = omega arith in
    rw (k, n) at t.0

module _ (F : ℕ → Bool) (ds : List ℕ) (i : ℕ) (h : i < length ds) where
  pub none : get_or ds i 0 ≡ 0 → all_inside F (drop i ds) ≡ all_inside F (drop (suc i) ds)
  none e = ap (all_inside F) (drop-cons ds i 0 h ∙ ap (λ (x : ℕ). x ∷ drop (suc i) ds) e)

  pub one : (get_or ds i 0 ≡ 0 → ⊥) → all_inside F (drop i ds) ≡ (F (get_or ds i 0) && all_inside F (drop (suc i) ds))
  one n =
      let z : get_or ds i 0 ≡ suc (get_or ds i 0 - 1) = omega arith in
      ap (all_inside F) (drop-cons ds i 0 h ∙ ap (λ (x : ℕ). x ∷ drop (suc i) ds) z) ∙ ap (λ (x : ℕ). F x && all_inside F (drop (suc i) ds)) (sym z)

-- the test of each, as std has it
pub all_slots : (F : ℕ → Bool) (ds : List ℕ) → all_inside F ds ≡ list_all (slot_inside F) ds
all_slots F [] = refl
all_slots F (zero ∷ ds) = all_slots F ds
all_slots F (suc d ∷ ds) = ap (λ (b : Bool). F (suc d) && b) (all_slots F ds)

-- a slot that is still to be loaded lies in the window
pub slot_there : (F : ℕ → Bool) (ds : List ℕ) (i : ℕ) → i < length ds → (get_or ds i 0 ≡ 0 → ⊥) → all_inside F (drop i ds) ≡ true
    → F (get_or ds i 0) ≡ true
slot_there F ds i h n t = both_left (F (get_or ds i 0)) (all_inside F (drop (suc i) ds)) (sym (one F ds i h n) ∙ t)

-- the registers `out`, of which those before place r have been restored
pub record Going (F : ℕ → Bool) (f : ℕ → ℕ) (ds ks out : List ℕ) (r : ℕ) : Type 0 where
  pub long : length out ≡ length ds
  pub same : all_inside F ds ≡ all_inside F (drop r ds)
  pub told : take r out ++ restored f (drop r ds) (drop r out) ≡ restored f ds ks

module _ (F : ℕ → Bool) (f : ℕ → ℕ) (ds ks out : List ℕ) (r : ℕ) (g : Going F f ds ks out r) where
  pub skip : r < length ds → get_or ds r 0 ≡ 0 → Going F f ds ks out (suc r)
  skip h e =
      let o : r < length out = omega (arith, g.long) in
      let d : drop r ds ≡ 0 ∷ drop (suc r) ds = drop-cons ds r 0 h ∙ ap (λ (x : ℕ). x ∷ drop (suc r) ds) e in
      record {
        long = g.long;
        same = g.same ∙ none F ds r h e;
        told = rw (take-suc out r 0 o, append_assoc) (rw (d, drop-cons out r 0 o) at g.told);
      }

  pub loads : r < length ds → (get_or ds r 0 ≡ 0 → ⊥) → F (get_or ds r 0) ≡ true → Going F f ds ks (set out r (f (get_or ds r 0))) (suc r)
  loads h n t =
      let o : r < length out = omega (arith, g.long) in
      let z : get_or ds r 0 ≡ suc (get_or ds r 0 - 1) = omega arith in
      let d : drop r ds ≡ suc (get_or ds r 0 - 1) ∷ drop (suc r) ds = drop-cons ds r 0 h ∙ ap (λ (x : ℕ). x ∷ drop (suc r) ds) z in
      record {
        long = length-set out r (f (get_or ds r 0)) ∙ g.long;
        same = g.same ∙ one F ds r h n ∙ ap (λ (b : Bool). b && all_inside F (drop (suc r) ds)) t;
        told = rw (take-suc-set out r (f (get_or ds r 0)) o, append_assoc, drop-set-lt (suc r) out r (f (get_or ds r 0)) (omega arith), z)
            (rw (d, drop-cons out r 0 o) at g.told);
      }

pub end : (F : ℕ → Bool) (f : ℕ → ℕ) (ds ks out : List ℕ) → Going F f ds ks out (length ds) → out ≡ restored f ds ks
end F f ds ks out g = sym (take-append-drop (length ds) out) ∙ (rw (drop-length ds) at g.told)
