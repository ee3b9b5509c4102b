-- A function is refused with one of the numbers behind the header's, and so are the pages of a section.
-- Assumes nothing.
use Prim.Native.Nat.{ℕ, ◌*◌, ◌/◌}
use mathlib.Core.Path.{refl}
use mathlib.Core.Bool.{Bool, true, false, ◌||◌}
use mathlib.Core.List.{List}
use lib.Dec.{ltb}
use Rattle.reader.specs.Reader.{granted_of, word_at}
use Rattle.raw.specs.declared.Kind.{Kind}
use Rattle.raw.specs.declared.Lists.{Lists}
use Rattle.raw.specs.declared.Page.{Page}
use Rattle.raw.specs.Checked.{Checked, good, refused, ◌>>=◌, ◌>>◌, check}
use Rattle.raw.proofs.Numbers.{Behind, two, of-opened}
use Rattle.entries.specs.declared.Function.{Function}
use Rattle.entries.specs.Entries.{is_global, opcode_part, start_in, end_in, resolve_of, opcode_in, function_in, function_of}
use Rattle.entries.specs.Section.{opened_at, function_at}

module _ (globals locals : List ℕ) (there : Bool) where
  of-opcode : (kind : Kind) (functions : List ℕ) (i : ℕ) → Behind (opcode_in kind globals locals there functions i)
  unfolding opcode_in resolve_of
  of-opcode Kind.Regular functions i = refl
  of-opcode Kind.Compressed functions i =
      let index = word_at 4 functions (4 * i) / 16777216 in
      two 11 14 refl refl (is_global globals index || there) (granted_of 4 (opcode_part globals locals index) 0) _

  of_function : (p : ℕ) (functions : List ℕ) (pg : Page) (next i : ℕ) → Behind (function_in p globals locals there functions pg next i)
  unfolding function_in
  of_function p functions pg next i =
      by (ltb (start_in functions pg i) 4294967296) (ltb (end_in functions pg next i) 4294967296) (opcode_in pg.kind globals locals there functions i) _ (of-opcode pg.kind functions i)
    where
      by : (b d : Bool) (x : Checked ℕ) (f : ℕ → Function) → Behind x → Behind (◌>>◌ (check 13 b) (◌>>◌ (check 13 d) (◌>>=◌ x (λ opcode. good (f opcode)))))
      by true true (good opcode) f h = refl
      by true true (refused k) f h = h
      by true false x f h = refl
      by false d x f h = refl

module _ (s : List ℕ) (l : Lists) (p : ℕ) where
  pub of-function-at : (pg : Page) (i : ℕ) → Behind (function_at s l p pg i)
  unfolding function_at function_of
  of-function-at pg i = of_function _ _ _ p _ pg _ i

  pub of-opened-at : Behind (opened_at s l p)
  unfolding opened_at
  of-opened-at = of-opened s _ _
