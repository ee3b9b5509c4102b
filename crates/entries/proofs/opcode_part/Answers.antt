-- `entries::opcode_part` meets its contract: of the one palette or of the other, by the index.
-- Assumes nothing.
use mathlib.Core.Path.{sym, ◌∙◌}
use native.Mathlib.Omega.{arith}
use Rattle.entries.proofs.Cases.{global-below, local-above}
use Rattle.entries.proofs.Placed.{global-part, local-part, no_part}
use Rattle.entries.proofs.opcode_part.Goals as goal

pub returns-then-i-n : goal.returns-then-i-n
returns-then-i-n c = no_part _ _ _ c.if-i-n.true

pub inside-requires : goal.inside-requires
inside-requires c = omega (arith, global-below _ _ (sym c.is_global.ensures ∙ c.if-is_global.true))

pub returns-then-is_global : goal.returns-then-is_global
returns-then-is_global c = global-part _ _ _ _ (global-below _ _ (sym c.is_global.ensures ∙ c.if-is_global.true)) c.inside.ensures

pub overflow_sub-i : goal.overflow_sub-i
overflow_sub-i c = omega (arith, local-above _ _ (sym c.is_global.ensures ∙ c.if-is_global.false))

pub inside-requires-2 : goal.inside-requires-2
inside-requires-2 c =
    let local = local-above _ _ (sym c.is_global.ensures ∙ c.if-is_global.false) in
    omega (arith, local, c.if-i-n.false)

pub returns : goal.returns
returns c =
    let local = local-above _ _ (sym c.is_global.ensures ∙ c.if-is_global.false) in
    local-part _ _ _ _ _ (omega (arith, local)) local c.if-i-n.false c.inside-2.ensures
