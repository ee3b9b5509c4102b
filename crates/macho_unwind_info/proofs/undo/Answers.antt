-- `macho_unwind_info::undo` meets its contract: what was looked up is passed on, or stepped.
-- Assumes nothing.
use mathlib.Core.Path.{ap, ◌∙◌}
use Rattle.std.specs.Prelude.{Ok}
use Rattle.rules.specs.Answers.{Number}
use Rattle.macho_unwind_info.specs.declared.UnwindError.{UnwindError}
use Rattle.macho_unwind_info.specs.Unwind.{error_of, unwound}
use Rattle.macho_unwind_info.proofs.Unwinding.{became, passed_on, none_found, stepped_by}
use Rattle.macho_unwind_info.proofs.undo.Goals as goal

pub returns-in_err-function : goal.returns-in_err-function
returns-in_err-function g c = λ n.
    ap (λ (k : Number). unwound k n (g.R.Registers.told c.args.registers.now)) (became _ _ c.from_residual.ensures.1)
    ∙ passed_on _ (g.R.Registers.told c.args.registers.now) n _ _ c.in_err-function.was

pub returns-in_default : goal.returns-in_default
returns-in_default g c = λ n.
    ap (λ (e : UnwindError). unwound (error_of e) n (g.R.Registers.told c.args.registers.now)) c.from.ensures
    ∙ none_found _ (g.R.Registers.told c.args.registers.now) n _ (c.in_ok-function.was ∙ ap Ok c.in_default.is)

pub returns-in_err-step : goal.returns-in_err-step
returns-in_err-step g c = λ n.
    ap (λ (k : Number). unwound k n (g.R.Registers.told c.step.new.self)) (became _ _ c.from_residual-in_err-step.ensures.1)
    ∙ stepped_by _ (g.R.Registers.told c.args.registers.now) n _ _ _ (c.in_ok-function.was ∙ ap Ok c.in-Some.is) c.in_err-step.ensures

pub returns : goal.returns
returns g c = λ n.
    stepped_by _ (g.R.Registers.told c.args.registers.now) n _ _ _ (c.in_ok-function.was ∙ ap Ok c.in-Some.is) c.in_ok-step.ensures
