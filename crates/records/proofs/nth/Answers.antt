-- `records::nth` meets its contract: a place too large for a number is past the end too.
-- Assumes nothing.
use Rattle.std.proofs.Common.{◌∙◌, ◌*◌, arith}
use Rattle.records.proofs.Turns.{saturated}
use Rattle.records.proofs.nth.Goals as goal

pub returns : goal.returns
returns g c =
    let bytes = g.met.N.Recorded.has_bytes in
    c.read_or_0.ensures ∙ saturated _ c.args.numbers.now (g.N.Number.bytes * c.args.k) _ bytes.1 (omega arith) (cc)
