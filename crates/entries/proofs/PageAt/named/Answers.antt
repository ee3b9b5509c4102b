-- `entries::PageAt::named` meets its contract: what there is no part of is refused, by whether the local opcodes are there.
-- Assumes nothing.
use mathlib.Core.Path.{ap, ◌∙◌}
use Rattle.reader.proofs.Laws.{bytes_of}
use Rattle.raw.specs.Checked.{good}
use Rattle.entries.specs.declared.Origin.{Origin}
use Rattle.entries.specs.Entries.{sourced}
use Rattle.entries.proofs.Cases.{part_bytes}
use Rattle.entries.proofs.Placed.{names-none, names-one}
use Rattle.entries.proofs.PageAt.named.Goals as goal

pub returns-then-bytes-lt4 : goal.returns-then-bytes-lt4
returns-then-bytes-lt4 c =
    ap (sourced _) (names-none _ _ _ _ _ c.has_local_opcodes-there.ensures _ c.local_opcodes.ensures _ (bytes_of c.opcode_part-bytes.ensures ∙ part_bytes _ _ _) _ c.if-bytes-lt4.true c.unnamed.ensures)

pub returns : goal.returns
returns c =
    ap (λ (o : Origin). good (c.word.result, o)) c.palette_of.ensures
    ∙ ap (sourced _) (names-one _ _ _ _ _ c.has_local_opcodes-there.ensures _ c.local_opcodes.ensures _ (bytes_of c.opcode_part-bytes.ensures ∙ part_bytes _ _ _) _ c.if-bytes-lt4.false c.word.ensures)
