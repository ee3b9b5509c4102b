-- A prologue with a frame pointer leaves its frame, if its window is that of the slots' stores and of the registers it set the frame pointer alone.
-- Assumes nothing.
use Prim.Native.Nat.{ℕ, ◌+◌, ◌-◌, ◌^◌, ◌<◌, ◌≤◌}
use mathlib.Core.Path.{◌≡◌, ap, ◌∙◌}
use mathlib.Core.List.{List}
use native.Mathlib.Omega.{arith}
use lib.ListN.{length, get_or, set, length-set}
use lib.Seq.{get_or-set_same, get_or-set_other}
use Rattle.frame.specs.Memory.{bytes, part, load}
use Rattle.frame.specs.Frame.{Regs, Slot, register, slot}
use Rattle.frame.specs.Calls.{All, Unlisted}
use Rattle.frame.proofs.Prologues.{Spread, Held, stores, Ran}
use Rattle.frame.proofs.Stores.{length-stores, stores-above, stores-saved}

module _ (w base cfa fp to : ℕ) (ss : List Slot) (e r : Regs) (m₀ m : List ℕ) (known : fp < length e.kept) (at : to + (w + w) ≡ cfa)
    (after : r.kept ≡ set e.kept fp to) (window : m ≡ stores w base cfa e.kept ss m₀) (held : All (Held w base cfa (length e.kept)) ss)
    (apart : Spread w ss) (whole : cfa ≤ base + length m₀) where
  -- each slot has its register's value
  pub slots : All (λ (s : Slot). part w (cfa - s.below - base) m ≡ bytes w (get_or e.kept s.reg 0)) ss
  slots = rw window (stores-saved w base cfa e.kept (length e.kept) ss m₀ whole held apart)

  there : (k : ℕ) → get_or r.kept k 0 ≡ get_or (set e.kept fp to) k 0
  there k = ap (λ (l : List ℕ). get_or l k 0) after

  pub leaves : (pc : ℕ) → ((k : ℕ) → Unlisted ss k → k ≡ fp → ⊥) → base + w ≤ cfa → load w (cfa - w - base) m ≡ pc → base + length m₀ < 256 ^ w
      → Ran w base cfa (record { anchor = register fp; distance = w + w; return = slot w; saved = ss }) e m₀ pc r m
  leaves pc listed low return top =
      let n : length m ≡ length m₀ = ap length window ∙ length-stores w base cfa e.kept ss m₀ in
      record {
        at = omega (arith, there fp, get_or-set_same e.kept fp to 0 known);
        bounded = omega arith;
        whole = omega arith;
        held = held;
        slots = slots;
        return = (omega arith, low, return);
        long = ap length after ∙ length-set e.kept fp to;
        others = λ k u. there k ∙ get_or-set_other e.kept fp k to 0 (listed k u);
        window = n;
        above = λ p l. ap (part w p) window ∙ stores-above w base cfa e.kept (length e.kept) p ss m₀ l held;
      }
