-- `records::is_recorded` meets its contract: it asks of each number whether it stands at its place.
-- Assumes nothing.
use Rattle.std.proofs.Common.{◌∙◌, rules}
use Rattle.std.proofs.lemmas.Iterator.{YieldsList-from_slice}
use Rattle.std.proofs.lemmas.Iterator.Consumers.{YieldsList-from_enumerate}
use Rattle.std.proofs.lemmas.Iterator.Search.{all_from_yields_List}
use Rattle.records.proofs.Turns.{stands, all_stand}
use Rattle.records.proofs.is_recorded.Goals as goal

pub returns : goal.returns
returns g c =
    all_from_yields_List (stands g.N.Number.value g.N.Number.bytes c.args.numbers.now) _ _ _ c.all.ensures.ran (YieldsList-from_enumerate (YieldsList-from_slice c.args.ours.now cc) cc) (λ x b q k. (search rules, search (rules, g.met.N.Recorded.equal)))
    ∙ all_stand _ _ _ c.args.ours.now
