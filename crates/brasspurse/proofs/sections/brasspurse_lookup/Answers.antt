-- `brasspurse::sections::brasspurse_lookup` meets its contract: what was told, flat; its probes are few.
-- Assumes nothing.
use borrow.Author.Rules.{rules}
use Prim.Native.Nat.{◌<◌, ◌^◌}
use mathlib.Core.Path.{ap, ◌∙◌}
use native.Mathlib.Omega.{arith}
use lib.ListN.{length}
use Rattle.lookup.specs.Lookup.{probes_of}
use Rattle.lookup.proofs.Probes.{few_on}
use Rattle.brasspurse.specs.Sections.{lookup_answer}
use Rattle.brasspurse.proofs.sections.brasspurse_lookup.Goals as goal

pub flat_lookup-requires : goal.flat_lookup-requires
flat_lookup-requires c =
    let room : length c.args.section.now < 2 ^ 64 = search rules in
    omega (arith, ap probes_of c.lookup.ensures, few_on c.args.section.now room c.args.address)

pub returns : goal.returns
returns c = c.flat_lookup.ensures ∙ ap lookup_answer c.lookup.ensures
