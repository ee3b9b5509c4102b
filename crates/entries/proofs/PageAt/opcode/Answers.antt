-- `entries::PageAt::opcode` meets its contract: the entry's own opcode, or the one that its index names.
-- Assumes nothing.
use native.Mathlib.Omega.{arith}
use Rattle.raw.specs.declared.Kind.{Kind}
use Rattle.entries.proofs.Cases.{regular-opcode, compressed-opcode}
use Rattle.entries.proofs.Placed.{entry-there, word-by, word_of}
use Rattle.entries.proofs.PageAt.opcode.Goals as goal

pub word-requires : goal.word-requires
word-requires c = omega (arith, entry-there Kind.Regular _ _ _ _ c.in-Regular.is c.requires.1 c.requires.2)

pub returns-in-Regular : goal.returns-in-Regular
returns-in-Regular c = regular-opcode _ _ _ _ _ _ _ c.in-Regular.is (word_of _ _ _ _ c.requires.0 c.word.ensures)

pub returns-in-Compressed : goal.returns-in-Compressed
returns-in-Compressed c =
    let kind = c.in-Compressed.is in
    compressed-opcode _ _ _ _ _ _ _ _ kind (word_of _ _ _ _ c.requires.0 (word-by Kind.Compressed _ _ _ _ kind c.requires.3)) c.named.ensures
