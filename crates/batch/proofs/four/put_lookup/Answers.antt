-- `batch::four::put_lookup` meets its contract: a lookup's probes are few.
-- Assumes nothing.
use borrow.Author.Rules.{rules}
use mathlib.Core.Path.{ap}
use native.Mathlib.Omega.{arith}
use Prim.Native.Nat.{◌<◌, ◌^◌}
use lib.ListN.{length}
use Rattle.lookup.specs.Lookup.{probes_of}
use Rattle.lookup.proofs.Probes.{few-in}
use Rattle.batch.proofs.four.put_lookup.Goals as goal

pub flat-requires : goal.flat-requires
flat-requires c =
    let room : length c.args.section.bytes.now < 2 ^ 64 = search rules in
    omega (arith, ap probes_of c.lookup_in-found.ensures, few-in _ room c.args.section.lists c.args.address)
