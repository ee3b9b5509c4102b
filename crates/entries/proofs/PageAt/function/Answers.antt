-- `entries::PageAt::function` meets its contract: 8 or 10 for the entry, 13 for start or end, then the opcode's.
-- Assumes nothing.
use mathlib.Core.Path.{refl, ap, sym, ◌∙◌}
use Rattle.raw.specs.Checked.{refused}
use Rattle.raw.proofs.Checks.{passes, fails, passed_on}
use Rattle.entries.proofs.Placed.{above0, none-above, list-is, list-long, word-is, entry_listed, not_there_lem, too-high, is_read}
use Rattle.entries.proofs.PageAt.function.Goals as goal

pub returns-in_err-check : goal.returns-in_err-check
returns-in_err-check c =
    let f = fails _ _ _ c.in_err-check.ensures in
    passed_on _ _ c.from_residual.ensures.1 ∙ ap refused f.1 ∙ not_there_lem _ _ _ _ (sym c.has_entry.ensures ∙ f.0) _ c.no_entry.ensures

pub list_there-list-requires : goal.list_there-list-requires
list_there-list-requires c = (entry_listed _ _ _ (sym c.has_entry.ensures ∙ passes _ _ c.in_ok-check.ensures)).0

pub entry_at-here-requires : goal.entry_at-here-requires
entry_at-here-requires c =
    let listed = entry_listed _ _ _ (sym c.has_entry.ensures ∙ passes _ _ c.in_ok-check.ensures) in
    list-long _ _ _ listed.0 (list-is _ _ _ _ refl c.list_there-list.ensures)

pub entry_at-after-requires : goal.entry_at-after-requires
entry_at-after-requires c =
    let listed = entry_listed _ _ _ (sym c.has_entry.ensures ∙ passes _ _ c.in_ok-check.ensures) in
    list-long _ _ _ listed.0 (list-is _ _ _ _ refl c.list_there-list.ensures)

pub returns-in_err-check-2 : goal.returns-in_err-check-2
returns-in_err-check-2 c =
    let listed = entry_listed _ _ _ (sym c.has_entry.ensures ∙ passes _ _ c.in_ok-check.ensures) in
    let f = fails _ _ _ c.in_err-check-2.ensures in
    passed_on _ _ c.from_residual-in_err-check-2.ensures.1
    ∙ ap refused f.1
    ∙ too-high _ _ _ _ listed.0 listed.1 _ (list-is _ _ _ _ refl c.list_there-list.ensures) _ c.entry_at-here.ensures _ c.entry_at-after.ensures (above0 _ f.0)

pub opcode-requires : goal.opcode-requires
opcode-requires c =
    let listed = entry_listed _ _ _ (sym c.has_entry.ensures ∙ passes _ _ c.in_ok-check.ensures) in
    let list = list-is _ _ _ _ refl c.list_there-list.ensures in
    (list, list-long _ _ _ listed.0 list, listed.1, word-is _ _ _ _ listed.1 _ c.entry_at-here.ensures)

pub returns-in_err-opcode : goal.returns-in_err-opcode
returns-in_err-opcode c =
    let listed = entry_listed _ _ _ (sym c.has_entry.ensures ∙ passes _ _ c.in_ok-check.ensures) in
    passed_on _ _ c.from_residual-in_err-opcode.ensures.1
    ∙ is_read _ _ _ _ listed.0 listed.1 _ (list-is _ _ _ _ refl c.list_there-list.ensures) _ c.entry_at-here.ensures _ c.entry_at-after.ensures
    (none-above _ _ (passes _ _ c.in_ok-check-2.ensures)).0 (none-above _ _ (passes _ _ c.in_ok-check-2.ensures)).1 _ c.in_err-opcode.ensures

pub returns : goal.returns
returns c =
    let listed = entry_listed _ _ _ (sym c.has_entry.ensures ∙ passes _ _ c.in_ok-check.ensures) in
    is_read _ _ _ _ listed.0 listed.1 _ (list-is _ _ _ _ refl c.list_there-list.ensures) _ c.entry_at-here.ensures _ c.entry_at-after.ensures
    (none-above _ _ (passes _ _ c.in_ok-check-2.ensures)).0 (none-above _ _ (passes _ _ c.in_ok-check-2.ensures)).1 _ c.in_ok-opcode.ensures
