-- `batch::four::answer_four` meets its contract: the pages' searches end in the list; then by the first page's kind.
-- Assumes nothing.
use Prim.Native.Nat.{◌<◌}
use borrow.Author.Rules.{rules}
use native.Mathlib.Omega.{arith}
use Rattle.batch.proofs.Paging.{ends-in}
use Rattle.batch.proofs.four.answer_four.Goals as goal

pub is_regular-requires : goal.is_regular-requires
is_regular-requires c =
    let few : c.args.opened.section.lists.pages_len < 4294967296 = search rules in
    omega (arith, (ends-in _ _ _ c.args.opened.pages_are _ _ c.search_in-p.ensures).0)
