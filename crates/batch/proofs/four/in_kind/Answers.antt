-- `batch::four::in_kind` meets its contract: the searches of pages end in the list.
-- Assumes nothing.
use Rattle.batch.proofs.Paging.{ends-in}
use Rattle.batch.proofs.four.in_kind.Goals as goal

pub four-requires : goal.four-requires
four-requires g c = ends-in _ _ _ c.args.opened.pages_are _ _ c.requires.0
