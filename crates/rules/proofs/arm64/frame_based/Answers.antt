-- `rules::arm64::frame_based` meets its contract: each turn places one more pair, or passes it over.
-- Assumes nothing.
use Prim.Native.Nat.{ℕ}
use mathlib.Core.Path.{◌≡◌, ap}
use mathlib.Core.List.{List}
use native.Mathlib.Omega.{arith}
use borrow.Kind.Array.{good_length, e_bool}
use lib.ListN.{length, set, replicate}
use Rattle.frame.specs.Frame.{register, slot}
use Rattle.rules.specs.Answers.{numbered, Ruling}
use Rattle.rules.proofs.Pairing.{end}
use Rattle.rules.proofs.arm64.frame_based.Goals as goal

pub returns : goal.returns
returns c =
    let a = c.args in
    let e : c.loop-p.p ≡ length a.pairs = omega (arith, (good_length e_bool 9 c.args.pairs _ c.well_formed.0)) in
    ap {B = Ruling} (λ (ds : List ℕ). record { refusal = numbered 0 0; anchor = register 10; distance = 16; return = slot 8; below = ds })
    (end (set (set (replicate 20 0) 10 16) 11 8) a.pairs c.loop-p.below c.loop-p.next (rw e at c.loop-p.invariant.1))
