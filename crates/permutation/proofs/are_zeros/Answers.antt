-- `permutation::are_zeros` meets its contract.
-- Assumes nothing.
use Rattle.std.proofs.Common.{ℕ, ◌∙◌, sym, eqb, rules, tests}
use Rattle.std.proofs.lemmas.Iterator.{YieldsList-from_slice}
use Rattle.std.proofs.lemmas.Iterator.Search.{all_from_yields_List}
use Rattle.permutation.proofs.Tests.{every-zero}
use Rattle.permutation.proofs.are_zeros.Goals as goal

pub returns : goal.returns
returns c =
    let xs = c.args.registers.now in
    all_from_yields_List (λ (x : ℕ). eqb x 0) _ _ _ c.all.ensures.ran (YieldsList-from_slice xs cc) (λ x b q k. search (rules, tests)) ∙ sym (every-zero xs)
