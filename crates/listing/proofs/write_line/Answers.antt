-- `listing::write_line` meets its contract: six pieces, each right after the one before.
-- Assumes nothing.
use Rattle.listing.proofs.Lines.{line-written}
use Rattle.listing.proofs.write_line.Goals as goal

pub returns : goal.returns
returns c =
    let a = c.args in
    line-written a.out.now a.a a.b a.c c.requires c.write_hex.ensures c.write_hex-2.ensures c.write_hex-3.ensures
