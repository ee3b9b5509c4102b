-- `lister::list` meets its contract: what was written and what is left are the whole listing, and every block leaves less.
-- Assumes nothing.
use borrow.Author.Tests.{not-true, not-false}
use Prim.Native.Nat.{ℕ, ◌≤◌}
use mathlib.Core.Path.{ap, ◌∙◌}
use mathlib.Core.List.{List}
use native.Mathlib.Omega.{arith}
use lib.ListN.{length}
use Rattle.lister.specs.declared.Place.{Place}
use Rattle.lister.specs.Block.{counted}
use Rattle.lister.proofs.Whole.{text_from, at-the-end, shorter, something, all-from-the-start}
use Rattle.lister.proofs.list.Goals as goal

-- the bytes that are lent are bytes
pub loop-at-init : goal.loop-at-init
loop-at-init g c = (
  c.room_for_text-text.ensures,
  ap (λ (p : Place). counted 0 (length (text_from c.args.s.now p))) c.start_place-at.ensures
      ∙ ap (λ (l : List ℕ). counted 0 (length l)) (all-from-the-start c.args.s.now (λ i. omega (arith, c.type_inv.s i))),
  omega arith,
)

pub loop-at-smaller : goal.loop-at-smaller
loop-at-smaller g c =
    let room : 52 ≤ length c.loop-at.text = omega (arith, c.loop-at.invariant.0) in
    omega (arith, shorter _ _ _ (not-true _ c.loop-at-test.true) room _ _ c.write_block-block.ensures, something _ _ _ (not-true _ c.loop-at-test.true) room _ _ c.write_block-block.ensures)

pub loop-at-preserved : goal.loop-at-preserved
loop-at-preserved g c =
    let before = c.loop-at.invariant in
    let room : 52 ≤ length c.loop-at.text = omega (arith, before.0) in (
      omega (arith, before.0),
      omega (arith, before.1, c.saturating_add-total.ensures, shorter _ _ _ (not-true _ c.loop-at-test.true) room _ _ c.write_block-block.ensures),
      omega (arith, c.saturating_add-total.ensures),
    )

pub returns : goal.returns
returns g c = omega (arith, c.loop-at.invariant.1, ap length (at-the-end c.args.s.now c.loop-at.at (not-false _ c.loop-at-test.false)))
