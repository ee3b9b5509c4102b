-- The parts of a page's functions, case by case, on plain values.
-- Assumes nothing.
use Prim.Native.Nat.{ℕ, suc, ◌+◌, ◌-◌, ◌*◌, ◌/◌, ◌≤◌, ◌<◌}
use mathlib.Core.Path.{◌≡◌, refl, ap, sym, ◌∙◌}
use mathlib.Core.List.{List, []}
use mathlib.Core.Bool.{Bool, true, false, cond, not, ◌||◌}
use native.Mathlib.Omega.{arith}
use borrow.Author.Tests.{lt-ltb, le-ltb, le-leb, ltb-true, ltb-false, not-true, not-false}
use lib.Dec.{ltb}
use lib.ListN.{length}
use Rattle.std.specs.Prelude.{Some, None}
use Rattle.reader.specs.Reader.{granted_of, read_of, word_at, Slice, slice, part_in}
use Rattle.reader.proofs.Laws.{fits, was-word, was_granted, was-refused}
use Rattle.raw.specs.declared.Kind.{Kind}
use Rattle.raw.specs.declared.Page.{Page}
use Rattle.raw.specs.Checked.{Checked, good, refused}
use Rattle.entries.specs.declared.Origin.{Origin}
use Rattle.entries.specs.Entries.{four_of, four_in, is_global, opcode_part, opcode_part_in, start_in, end_in, resolve_of, opcode_in, palette_of, origin_in, sourced}

-- a test of an index
module _ (globals : List ℕ) (index : ℕ) where
  pub global-below : is_global globals index ≡ true → index < length globals / 4
  unfolding is_global
  global-below t = ltb-true _ _ t

  pub local-above : is_global globals index ≡ false → length globals / 4 ≤ index
  unfolding is_global
  local-above t = ltb-false _ _ t

  pub tests-global : ltb index (length globals / 4) ≡ is_global globals index
  unfolding is_global
  tests-global = refl

-- four bytes that are there, or none
module _ (x : Slice) (o : ℕ) where
  pub four-part : granted_of 4 x.bytes o ≡ true → part_in x o 4 ≡ four_in x o
  unfolding four_of
  four-part t = simp (le-leb o (length x.bytes) (omega (arith, fits 4 x.bytes o t)), t)

  pub four-none : granted_of 4 x.bytes o ≡ false → slice x.start [] ≡ four_in x o
  unfolding four_of
  four-none t = simp t

module _ (globals locals : Slice) (index : ℕ) where
  pub part-global : index < length globals.bytes / 4 → four_in globals (4 * index) ≡ opcode_part_in globals locals index
  unfolding opcode_part_in is_global
  part-global h = simp (lt-ltb _ _ h)

  pub part-local : length globals.bytes / 4 ≤ index → (o : ℕ) → o ≡ 4 * (index - length globals.bytes / 4) → four_in locals o ≡ opcode_part_in globals locals index
  unfolding opcode_part_in is_global
  part-local h o e = rw e (simp (le-ltb _ _ h))

  -- its bytes
  pub part_bytes : (opcode_part_in globals locals index).bytes ≡ opcode_part globals.bytes locals.bytes index
  unfolding opcode_part_in opcode_part
  part_bytes = by (is_global globals.bytes index) _ _
    where
      by : (b : Bool) (x y : Slice) → (cond b x y).bytes ≡ cond b x.bytes y.bytes
      by true x y = refl
      by false x y = refl

module _ (globals : List ℕ) (index : ℕ) (locals : List ℕ) (there : Bool) where
  -- the checks of an opcode index: 11, then 14
  pub no-locals : not (is_global globals index || there) ≡ true → refused 11 ≡ resolve_of globals locals there index
  unfolding resolve_of
  no-locals t =
      let u : (is_global globals index || there) ≡ false = not-true _ t in
      simp u

  module _ (t : not (is_global globals index || there) ≡ false) (bytes : List ℕ) (e : bytes ≡ opcode_part globals locals index) where
    fine : (is_global globals index || there) ≡ true
    fine = not-false _ t

    pub no-opcode : read_of 4 bytes 0 ≡ None → refused 14 ≡ resolve_of globals locals there index
    unfolding resolve_of
    no-opcode q =
        let u : granted_of 4 (opcode_part globals locals index) 0 ≡ false = rw e at (was-refused 4 bytes 0 q) in
        simp (fine, u)

    pub an-opcode : (x : ℕ) → read_of 4 bytes 0 ≡ Some x → good x ≡ resolve_of globals locals there index
    unfolding resolve_of
    an-opcode x q =
        let u : granted_of 4 (opcode_part globals locals index) 0 ≡ true = rw e at (was_granted 4 bytes 0 x q) in
        let v : word_at 4 (opcode_part globals locals index) 0 ≡ x = rw e at (was-word 4 bytes 0 x q) in
        simp (fine, u, v)

-- the end
module _ (functions : List ℕ) (pg : Page) (next i : ℕ) where
  pub end-inside : i + 1 < pg.functions_len → end_in functions pg next i ≡ start_in functions pg (i + 1)
  unfolding end_in
  end-inside h =
      let q : suc i ≡ i + 1 = omega arith in
      simp (q, lt-ltb (i + 1) pg.functions_len h)

  pub end-last : pg.functions_len ≤ i + 1 → end_in functions pg next i ≡ next
  unfolding end_in
  end-last h = simp (le-ltb (suc i) pg.functions_len (omega arith))

-- the opcode by the page's kind
module _ (globals locals : List ℕ) (there : Bool) (functions : List ℕ) (i : ℕ) where
  abbrev opcode : Kind → Checked (ℕ × Origin)
  opcode k = sourced (origin_in k globals functions i) (opcode_in k globals locals there functions i)

  pub regular-opcode : (k : Kind) (x : ℕ) → k ≡ Kind.Regular → x ≡ word_at 4 functions (8 * i + 4) → good (x, Origin.Regular) ≡ opcode k
  unfolding opcode_in origin_in
  regular-opcode k x p e = simp (e, p)

  pub compressed-opcode : (k : Kind) (x : ℕ) (w : Checked (ℕ × Origin)) → k ≡ Kind.Compressed → x ≡ word_at 4 functions (4 * i)
      → w ≡ sourced (palette_of globals (x / 16777216)) (resolve_of globals locals there (x / 16777216)) → w ≡ opcode k
  unfolding opcode_in origin_in
  compressed-opcode k x w p e q = q ∙ simp (sym e, p)
