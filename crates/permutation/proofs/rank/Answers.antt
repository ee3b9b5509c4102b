-- `permutation::rank` meets its contract.
-- Assumes nothing.
use Rattle.std.proofs.Common.{◌≡◌, ◌∙◌, sym, not, rules, arith}
use Rattle.std.specs.List.{count_by}
use Rattle.std.proofs.lemmas.List.Sums.{count_by-le-length}
use Rattle.permutation.proofs.Flagged.{unset-counted}
use Rattle.permutation.proofs.rank.Goals as goal

pub returns : goal.returns
returns c =
    let h : c.count.result ≡ count_by not c.args.used.now = search rules in
    (h ∙ sym (unset-counted c.args.used.now), omega (arith, h, count_by-le-length not c.args.used.now))
