-- A block says 15 exactly if the header is there and its version isn't 1, and on lists that anyone names never.
-- Assumes nothing.
use Prim.Native.Nat.{ℕ, zero, suc, ◌/◌, ◌≤◌}
use mathlib.Core.Path.{◌≡◌, refl}
use mathlib.Core.Logic.{◌↔◌}
use mathlib.Core.List.{List}
use lib.ListN.{length}
use Rattle.raw.specs.declared.Lists.{Lists}
use Rattle.raw.specs.Checked.{Checked, good, refused}
use Rattle.raw.specs.Raw.{version_of}
use Rattle.raw.proofs.Numbers.{Behind, only-15, exactly-15, never-15-in}
use Rattle.iterate.specs.declared.Cursor.{Cursor}
use Rattle.iterate.specs.Iterate.{Step, answer, end, next_of}
use Rattle.iterate.proofs.Numbers.{refusal_of, of-next}
use Rattle.fill.specs.Fill.{Why, full, ended, refusal, Taken, by_step, taken_of, Outcome, fill_of, untouched, fill_in, fill_on}

-- the refusal that a block stops at
abbrev pub stop_of : Why → Checked (Unit {0})
stop_of full = good tt
stop_of ended = good tt
stop_of (refusal k) = refused k

of-step : (later : Cursor → Taken) → ((d : Cursor) → Behind (stop_of (later d).why)) → (x : Step) → Behind (refusal_of x) → Behind (stop_of (by_step x later).why)
of-step later t (answer (good f) d) h = t d
of-step later t (answer (refused k) d) h = h
of-step later t (end d) h = refl

module _ (s : List ℕ) where
  of-taken : (l : Lists) (room : ℕ) (c : Cursor) → Behind (stop_of (taken_of s l room c).why)
  unfolding taken_of
  of-taken l zero c = refl
  of-taken l (suc room) c = of-step (taken_of s l room) (of-taken l room) (next_of s l c) (of-next s l c)

  module _ (c : Cursor) (out : List ℕ) where
    abbrev why : Outcome → Checked (Unit {0})
    why o = stop_of o.why

    of-block : (l : Lists) → Behind (why (fill_of s l c out))
    unfolding fill_of
    of-block l = of-taken l (length out / 3) c

    pub exactly-version : (stop_of (fill_on s c out).why ≡ refused 15) ↔ ((28 ≤ length s) × (version_of s ≡ 1 → ⊥))
    unfolding fill_on
    exactly-version = exactly-15 (untouched c out) (λ m. fill_of s m c out) why (λ k. refl) of-block s

    -- nothing is written, and the cursor is handed back
    pub other-version : 28 ≤ length s → (version_of s ≡ 1 → ⊥) → fill_on s c out ≡ untouched c out 15
    unfolding fill_on
    other-version = only-15 s (untouched c out) (λ m. fill_of s m c out)

    pub never-in : (l : Lists) → stop_of (fill_in s l c out).why ≡ refused 15 → ⊥
    unfolding fill_in
    never-in l = never-15-in (untouched c out) (λ m. fill_of s m c out) why (λ k. refl) of-block s l
