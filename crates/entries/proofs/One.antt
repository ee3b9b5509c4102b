-- Two answers that conform to a contract are one: of functions by `one_told` of `raw`, of origins since the number gives the origin back.
-- Assumes nothing.
use Prim.Native.Nat.{ℕ, ◌<◌}
use mathlib.Core.Path.{◌≡◌, refl}
use mathlib.Core.Bool.{cond}
use mathlib.Mathlib.Logic.Function.Defs.{LeftInverse, LeftInverse-Injective}
use native.Mathlib.Omega.{arith}
use lib.Dec.{eqb}
use Rattle.entries.specs.declared.Origin.{Origin}
use Rattle.entries.specs.Entries.{origin_number}

-- an origin's number says which it is, and is not 0
abbrev origin_for : ℕ → Origin
origin_for k = cond (eqb k 1) Origin.Regular (cond (eqb k 2) Origin.Global Origin.Local)

origin-back : LeftInverse origin_for origin_number
origin-back Origin.Regular = refl
origin-back Origin.Global = refl
origin-back Origin.Local = refl

pub one-origin : (x y : Origin) → origin_number x ≡ origin_number y → x ≡ y
one-origin = LeftInverse-Injective origin_for origin_number origin-back

pub some-origin : (x : Origin) → (0 < origin_number x) × (origin_number x < 4)
some-origin Origin.Regular = (omega arith, omega arith)
some-origin Origin.Global = (omega arith, omega arith)
some-origin Origin.Local = (omega arith, omega arith)
