-- The turns of a page's loop, on plain values.
-- Assumes nothing.
use Prim.Native.Nat.{ℕ, ◌+◌, ◌-◌, ◌/◌, ◌<◌, min}
use mathlib.Core.Path.{◌≡◌, refl, ap, sym, ◌∙◌}
use mathlib.Core.List.{List}
use native.Mathlib.Omega.{arith}
use lib.ListN.{length, length-set}
use Rattle.raw.specs.declared.Error.{Error}
use Rattle.std.specs.Prelude.{Result, Ok}
use Rattle.raw.specs.Checked.{Checked, told}
use Rattle.entries.specs.declared.Function.{Function}
use Rattle.fill.specs.Block.{put_of, Wrote, none, more, InPage}

-- what is written leaves the list as long as it was
pub same_length : {f : ℕ → Checked Function} {n k₀ i₀ : ℕ} {out₀ : List ℕ} {k i : ℕ} {out : List ℕ} → Wrote f n k₀ i₀ out₀ k i out → length out ≡ length out₀
unfolding put_of
same_length none = refl
same_length (more w t e) = simp length-set (same_length w)

pub sets-out : (f : ℕ → Checked Function) (n k i : ℕ) (out : List ℕ) → k < length out / 3 → i < 4294967296 → n < 4294967296
    → (stop : ℕ) → stop ≡ min n (i + (length out / 3 - k)) → InPage f n k i out stop k i out
sets-out f n k i out h small few stop e = record { wrote = none; turns = e; room = omega arith; index = small; few = few }

module _ {f : ℕ → Checked Function} {n k₀ i₀ stop k i : ℕ} {out₀ out : List ℕ} (inv : InPage f n k₀ i₀ out₀ stop k i out) where
  module _ (t : i < stop) where
    there : i < n
    there = omega (arith, inv.turns)

    pub room-there : k < length out₀ / 3
    room-there = omega (arith, inv.turns)

    module _ (w : Result Function Error) (ew : told w ≡ f i) where
      pub one_more : (x : Function) → w ≡ Ok x → InPage f n k₀ i₀ out₀ stop (k + 1) (i + 1) (put_of out k x)
      one_more x e =
          record {
            wrote = more inv.wrote there (sym ew ∙ ap told e);
            turns = omega (arith, inv.turns, room-there);
            room = omega (arith, room-there);
            index = omega (arith, there, inv.few);
            few = inv.few;
          }
