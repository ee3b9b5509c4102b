-- A block leaves fewer answers: by as many as it wrote, and by one at least where it is not the end. So blocks one after the other end.
-- Assumes nothing.
use Prim.Native.Nat.{ℕ, zero, suc, ◌+◌, ◌/◌, ◌≤◌, ◌<◌, zero-le}
use mathlib.Core.Path.{◌≡◌, refl, ap, ◌∙◌}
use mathlib.Core.List.{List}
use native.Mathlib.Omega.{arith}
use lib.ListN.{length}
use Rattle.raw.specs.declared.Lists.{Lists}
use Rattle.raw.specs.Checked.{good, refused, either}
use Rattle.raw.specs.Raw.{parse_of}
use Rattle.raw.proofs.Grants.{parsed}
use Rattle.iterate.specs.declared.Cursor.{Cursor}
use Rattle.iterate.specs.Iterate.{Step, answer, end, next_of}
use Rattle.iterate.proofs.Left.{left_of, fewer}
use Rattle.fill.specs.declared.Filled.{Filled}
use Rattle.fill.specs.Fill.{full, ended, Taken, by_step, taken_of, outcome, fill_of, fill_in, untouched, filled_told}

-- what a block spends of the answers left
pub record Spends (s : List ℕ) (l : Lists) (c : Cursor) (t : Taken) : Type 0 where
  pub written : length t.written ≤ left_of s l c
  pub left : (t.why ≡ ended → ⊥) → length t.written + left_of s l t.next ≤ left_of s l c

module _ (s : List ℕ) (l : Lists) where
  by-step : (room : ℕ) (c : Cursor) (x : Step) → next_of s l c ≡ x → ((d : Cursor) → Spends s l d (taken_of s l room d)) → Spends s l c (by_step x (taken_of s l room))
  by-step room c (answer (good f) d) e later =
      let less = fewer s l c (good f) d e in
      let rest = later d in
      record { written = omega (arith, rest.written); left = λ h. omega (arith, rest.left h) }
  by-step room c (answer (refused k) d) e later = record { written = zero-le; left = λ h. omega (arith, fewer s l c (refused k) d e) }
  by-step room c (end d) e later = record { written = zero-le; left = λ h. absurd (h refl) }

  pub spends : (room : ℕ) (c : Cursor) → Spends s l c (taken_of s l room c)
  unfolding taken_of
  spends zero c = record { written = zero-le; left = λ h. omega arith }
  spends (suc room) c = by-step room c (next_of s l c) refl (spends room)

  strict-step : (room : ℕ) (c : Cursor) (x : Step) → next_of s l c ≡ x → ((by_step x (taken_of s l room)).why ≡ ended → ⊥) → left_of s l (by_step x (taken_of s l room)).next < left_of s l c
  strict-step room c (answer (good f) d) e h = omega (arith, fewer s l c (good f) d e, (spends room d).left h)
  strict-step room c (answer (refused k) d) e h = fewer s l c (refused k) d e
  strict-step room c (end d) e h = absurd (h refl)

  pub strictly : (room : ℕ) (c : Cursor) → 0 < room → ((taken_of s l room c).why ≡ ended → ⊥) → left_of s l (taken_of s l room c).next < left_of s l c
  unfolding taken_of
  strictly zero c h t = absurd (omega arith)
  strictly (suc room) c h t = strict-step room c (next_of s l c) refl t

  -- no more functions than there is room for, and as many where that is why it stops
  few-step : (room : ℕ) (x : Step) → ((d : Cursor) → length (taken_of s l room d).written ≤ room) → length (by_step x (taken_of s l room)).written ≤ suc room
  few-step room (answer (good f) d) later = omega (arith, later d)
  few-step room (answer (refused k) d) later = zero-le
  few-step room (end d) later = zero-le

  pub few : (room : ℕ) (c : Cursor) → length (taken_of s l room c).written ≤ room
  unfolding taken_of
  few zero c = zero-le
  few (suc room) c = few-step room (next_of s l c) (few room)

  full-step : (room : ℕ) (x : Step) → (by_step x (taken_of s l room)).why ≡ full
      → ((d : Cursor) → (taken_of s l room d).why ≡ full → length (taken_of s l room d).written ≡ room) → length (by_step x (taken_of s l room)).written ≡ suc room
  full-step room (answer (good f) d) h later = ap suc (later d h)
  full-step room (answer (refused k) d) h later = absurd (let z : ◌≡◌ {A = ℕ} 0 1 = cc in omega arith)
  full-step room (end d) h later = absurd (let z : ◌≡◌ {A = ℕ} 0 1 = cc in omega arith)

  pub full_block : (room : ℕ) (c : Cursor) → (taken_of s l room c).why ≡ full → length (taken_of s l room c).written ≡ room
  unfolding taken_of
  full_block zero c h = refl
  full_block (suc room) c h = full-step room (next_of s l c) h (full_block room)

  -- what a call told, after a parse
  pub told : parse_of s ≡ good l → (c : Cursor) (out : List ℕ) (r : Filled) (list : List ℕ) → filled_told r list ≡ fill_in s l c out
      → filled_told r list ≡ outcome (taken_of s l (length out / 3) c) out
  unfolding fill_in fill_of
  told p c out r list e = e ∙ ap (either (untouched c out) (λ m. fill_of s m c out)) (parsed s l p)
