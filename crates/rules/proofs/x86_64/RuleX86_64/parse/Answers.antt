-- `rules::x86_64::RuleX86_64::parse` meets its contract: the rule goes by what parsing tells, case by case.
-- Assumes nothing.
use mathlib.Core.Path.{sym, ◌∙◌}
use Prim.Native.Nat.{◌/◌, ◌%◌}
use native.Mathlib.Omega.{arith}
use lib.ListN.{length-take}
use Rattle.rules.proofs.SaysX86.{fit_told, rule_of_told}
use Rattle.rules.proofs.x86_64.RuleX86_64.parse.Goals as goal

pub frame_based-requires : goal.frame_based-requires
frame_based-requires c = fit_told c.args.opcode _ c.in-FrameBased.ensures

pub slice_bounds-saved_regs-end : goal.slice_bounds-saved_regs-end
slice_bounds-saved_regs-end c =
    let f = fit_told c.args.opcode _ c.in-FramelessImmediate.ensures in
    omega (arith, f.1, length-take (c.args.opcode / 1024 % 8) c.in-FramelessImmediate.saved_regs)

pub slice_bounds-frameless-end : goal.slice_bounds-frameless-end
slice_bounds-frameless-end c = sym (fit_told c.args.opcode _ c.in-FramelessImmediate.ensures).1

pub frameless-requires : goal.frameless-requires
frameless-requires c =
    let f = fit_told c.args.opcode _ c.in-FramelessImmediate.ensures in
    (omega (arith, f.0, f.1), f.2)

pub returns-in-FramelessImmediate : goal.returns-in-FramelessImmediate
returns-in-FramelessImmediate c = c.frameless.ensures ∙ rule_of_told c.args.opcode _ c.in-FramelessImmediate.ensures
