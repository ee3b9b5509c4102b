-- The header's lists, case by case, on plain values; and what a parse grants.
-- Assumes nothing.
use Prim.Native.Nat.{ℕ, ◌+◌, ◌-◌, ◌*◌, ◌≤◌}
use mathlib.Core.Path.{◌≡◌, refl, ap, sym, ◌∙◌}
use mathlib.Core.List.{List}
use mathlib.Core.Bool.{Bool, true, false}
use native.Mathlib.Omega.{arith}
use borrow.Author.Tests.{le-leb, eq-eqb, ne_eqb, eqb-true}
use lib.Dec.{eqb}
use lib.ListN.{length, take, drop}
use Rattle.std.specs.Prelude.{Result, Ok, Err}
use Rattle.reader.specs.Reader.{granted_of, word_at, Slice, slice, further, part_in}
use Rattle.reader.proofs.Laws.{fits, length_part, placed, lies-inside}
use Rattle.raw.specs.declared.Lists.{Lists}
use Rattle.raw.specs.declared.Error.{Error}
use Rattle.raw.specs.Checked.{Checked, good, refused, ◌>>◌, either, check, number_of, told}
use Rattle.raw.specs.Raw.{grant_of, version_of, header_of, parse_of, pages_of}

-- a part that lies inside
pub part-inside : (x : Slice) (o n : ℕ) → o + n ≤ length x.bytes → (p : ℕ × ℕ) → p ≡ further x.start o → slice p (take (o + n - o) (drop o x.bytes)) ≡ part_in x o n
part-inside x o n h p e = placed x.bytes o n x.start p _ (e ∙ simp (le-leb o (length x.bytes) (omega arith))) (lies-inside x.bytes o n)

module _ (s : List ℕ) where
  module _ (l : Lists) where
    abbrev globals_granted : Bool
    globals_granted = granted_of (4 * l.global_opcodes_len) s l.global_opcodes_offset

    abbrev pages_granted : Bool
    pages_granted = granted_of (12 * l.pages_len) s l.pages_offset

    -- lists that were granted are these, and lie in the section
    pub granted : (m : Lists) → grant_of s l ≡ good m → (m ≡ l) × (globals_granted ≡ true) × (pages_granted ≡ true)
    unfolding grant_of
    granted m e = by_tests globals_granted refl pages_granted refl e
      where
        by_tests : (b : Bool) → globals_granted ≡ b → (d : Bool) → pages_granted ≡ d → (◌>>◌ (check 2 b) (◌>>◌ (check 3 d) (good l))) ≡ good m
            → (m ≡ l) × (globals_granted ≡ true) × (pages_granted ≡ true)
        by_tests true p true q r = (cc, p, q)
        by_tests true p false q r = absurd (let z : ◌≡◌ {A = ℕ} 0 1 = cc in omega arith)
        by_tests false p d q r = absurd (let z : ◌≡◌ {A = ℕ} 0 1 = cc in omega arith)

    pub length-pages : pages_granted ≡ true → length (pages_of s l) ≡ 12 * l.pages_len
    unfolding pages_of
    length-pages t = length_part s l.pages_offset (12 * l.pages_len) (fits (12 * l.pages_len) s l.pages_offset t)

  -- so each ends inside it
  module _ (l : Lists) (g : grant_of s l ≡ good l) where
    pub globals-inside : l.global_opcodes_offset + 4 * l.global_opcodes_len ≤ length s
    globals-inside = fits (4 * l.global_opcodes_len) s l.global_opcodes_offset (granted l l g).1

    pub pages-inside : l.pages_offset + 12 * l.pages_len ≤ length s
    pages-inside = fits (12 * l.pages_len) s l.pages_offset (granted l l g).2

  -- and they are granted again
  pub granted-again : (l m : Lists) → grant_of s l ≡ good m → grant_of s m ≡ good m
  granted-again l m e = ap (grant_of s) (granted l m e).0 ∙ e

  pub other-version : granted_of 28 s 0 ≡ true → (version_of s ≡ 1 → ⊥) → refused 15 ≡ parse_of s
  unfolding parse_of
  other-version t h = simp (t, ne_eqb _ _ h)

  pub header_read : (w : Checked Lists) (a g b n : ℕ) → granted_of 28 s 0 ≡ true → version_of s ≡ 1
      → a ≡ word_at 4 s 4 → g ≡ word_at 4 s 8 → b ≡ word_at 4 s 20 → n ≡ word_at 4 s 24
      → w ≡ grant_of s (record { global_opcodes_offset = a; global_opcodes_len = g; pages_offset = b; pages_len = n }) → w ≡ parse_of s
  unfolding parse_of header_of
  header_read w a g b n t h ea eg eb en e = e ∙ simp (t, eq-eqb _ _ h, sym ea, sym eg, sym eb, sym en)

  -- after a parse the version is 1, and the lists are granted
  passed : (l : Lists) → parse_of s ≡ good l → (version_of s ≡ 1) × (grant_of s l ≡ good l)
  unfolding parse_of
  passed l e = by_tests (granted_of 28 s 0) (eqb (version_of s) 1) refl e
    where
      by_tests : (b d : Bool) → eqb (version_of s) 1 ≡ d → (◌>>◌ (check 1 b) (◌>>◌ (check 15 d) (grant_of s (header_of s)))) ≡ good l
          → (version_of s ≡ 1) × (grant_of s l ≡ good l)
      by_tests true true q r =
          let same = (granted (header_of s) l r).0 in
          (eqb-true _ _ q, rw (← same) at r)
      by_tests true false q r = absurd (let z : ◌≡◌ {A = ℕ} 0 1 = cc in omega arith)
      by_tests false d q r = absurd (let z : ◌≡◌ {A = ℕ} 0 1 = cc in omega arith)

  pub version-1 : (l : Lists) → parse_of s ≡ good l → version_of s ≡ 1
  version-1 l e = (passed l e).0

  pub parsed : (l : Lists) → parse_of s ≡ good l → grant_of s l ≡ good l
  parsed l e = (passed l e).1

-- a call on lists: what it answers where they are refused, and where they are there
module _ {B : Type 0} (otherwise : ℕ → B) (f : Lists → B) where
  module _ (w : Result Lists Error) (t : Checked Lists) (e : told w ≡ t) where
    pub where-whole : (m : Lists) (x : B) → w ≡ Ok m → x ≡ f m → x ≡ either otherwise f t
    where-whole m x q o = o ∙ ap (either otherwise f) (ap told (sym q) ∙ e)

    pub where-refused : (k : Error) (x : B) → w ≡ Err k → x ≡ otherwise (number_of k) → x ≡ either otherwise f t
    where-refused k x q o = o ∙ ap (either otherwise f) (ap told (sym q) ∙ e)

  -- after a parse, the call on its lists answers as the call on the bytes alone
  pub as-parsed : (s : List ℕ) (l : Lists) → parse_of s ≡ good l → either otherwise f (grant_of s l) ≡ either otherwise f (parse_of s)
  as-parsed s l e = ap (either otherwise f) (parsed s l e ∙ sym e)
