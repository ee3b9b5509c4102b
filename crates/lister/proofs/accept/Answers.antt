-- `lister::accept` meets its contract: 30 for an input that is too long, and otherwise as it parses.
-- Assumes nothing.
use mathlib.Core.Path.{ap, refl, ◌∙◌}
use native.Mathlib.Omega.{arith}
use Rattle.raw.specs.Section.{standing}
use Rattle.lister.proofs.Cases.{too_long, short, passed_on}
use Rattle.lister.proofs.accept.Goals as goal

pub returns-then-s-gt65536 : goal.returns-then-s-gt65536
returns-then-s-gt65536 c = ap (standing _) (too_long _ (omega arith))

pub returns-in_err-parse : goal.returns-in_err-parse
returns-in_err-parse c = passed_on _ _ c.from_residual.ensures.1 ∙ c.in_err-parse.ensures ∙ ap (standing _) (short _ (omega arith) refl)

pub returns : goal.returns
returns c = c.in_ok-parse.ensures ∙ ap (standing _) (short _ (omega arith) refl)
