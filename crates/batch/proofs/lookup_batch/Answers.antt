-- `batch::lookup_batch` meets its contract: the answers that there is room for.
-- Assumes nothing.
use Prim.Native.Nat.{◌<◌, ◌^◌}
use mathlib.Core.Path.{◌≡◌, ap, ◌∙◌}
use borrow.Author.Rules.{rules}
use native.Mathlib.Omega.{arith}
use lib.ListN.{length, get_or, take, length-take}
use Rattle.lookup.specs.Lookup.{probes_of, lookup_on}
use Rattle.lookup.proofs.Probes.{few_on}
use Rattle.batch.specs.Batch.{numbers_of, standing}
use Rattle.batch.proofs.Batches.{one_on, whole}
use Rattle.batch.proofs.lookup_batch.Goals as goal

pub flat-requires : goal.flat-requires
flat-requires c =
    let room : length c.args.s.now < 2 ^ 64 = search rules in
    omega (arith, ap probes_of c.lookup.ensures, few_on c.args.s.now room (get_or (take c.min-n.result c.args.addresses.now) c.loop-k.k 0))

pub loop-k-preserved : goal.loop-k-preserved
loop-k-preserved c =
    let there : c.loop-k.k < c.min-n.result = c.loop-k-test.true in
    one_on _ _ _ _ _ _ c.loop-k.invariant (omega (arith, length-take c.min-n.result c.args.addresses.now)) (omega arith) _ (c.flat.ensures ∙ ap numbers_of c.lookup.ensures) c.put.ensures

pub returns : goal.returns
returns c =
    let end : c.loop-k.k ≡ c.min-n.result = omega (arith, length-take c.min-n.result c.args.addresses.now) in
    whole _ _ _ _ _ c.min-n.ensures (c.loop-k.invariant ∙ ap (standing (lookup_on c.args.s.now) (take c.min-n.result c.args.addresses.now) c.args.out.now) end)
