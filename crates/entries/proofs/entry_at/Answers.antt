-- `entries::entry_at` meets its contract: an entry that is there, by the page's kind, or none.
-- Assumes nothing.
use native.Mathlib.Omega.{arith}
use Rattle.raw.specs.declared.Kind.{Kind}
use Rattle.entries.proofs.Placed.{entry-there, no-entry, regular-entry, compressed-entry}
use Rattle.entries.proofs.entry_at.Goals as goal

pub returns-then-pg-i : goal.returns-then-pg-i
returns-then-pg-i c = no-entry _ _ _ _ c.if-pg-i.true

pub word-word-requires : goal.word-word-requires
word-word-requires c = omega (arith, entry-there Kind.Regular _ _ _ _ c.in-Regular.is c.requires c.if-pg-i.false)

pub word-word-requires-in-Compressed : goal.word-word-requires-in-Compressed
word-word-requires-in-Compressed c = omega (arith, entry-there Kind.Compressed _ _ _ _ c.in-Compressed.is c.requires c.if-pg-i.false)

pub returns-in-Regular : goal.returns-in-Regular
returns-in-Regular c = regular-entry _ _ _ _ c.in-Regular.is c.if-pg-i.false _ c.word-word.ensures

pub returns-in-Compressed : goal.returns-in-Compressed
returns-in-Compressed c = compressed-entry _ _ _ _ c.in-Compressed.is c.if-pg-i.false _ c.word-word-in-Compressed.ensures
