-- A section whose lists lie in it, told: its bytes and its lists.
-- Assumes nothing.
use Prim.Native.Nat.{ℕ}
use mathlib.Core.Path.{◌≡◌}
use native.Mathlib.Omega.{arith}
use Rattle.reader.specs.Reader.{Slice}
use Rattle.raw.specs.declared.Lists.{Lists}
use Rattle.raw.specs.Checked.{Checked, good, refused}
use Rattle.raw.specs.Section.{Standing, standing}

module _ (x : Slice) where
  pub stands : (t : Checked Lists) (m : Standing) → good m ≡ standing x t → (m.bytes ≡ x) × (t ≡ good m.lists)
  stands (good l) m e = (cc, cc)
  stands (refused k) m e = absurd (let z : ◌≡◌ {A = ℕ} 0 1 = cc in omega arith)
