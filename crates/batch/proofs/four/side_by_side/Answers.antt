-- `batch::four::side_by_side` meets its contract: each answer is put before the next is read.
-- Assumes nothing.
use Prim.Native.Nat.{◌<◌}
use mathlib.Core.Path.{refl, ◌∙◌}
use borrow.Author.Rules.{rules}
use Rattle.reader.specs.Reader.{slice_told}
use Rattle.lookup.specs.Lookup.{lookup_in}
use Rattle.batch.proofs.Paging.{Fines, fines, four-puts}
use Rattle.batch.proofs.four.side_by_side.Goals as goal
use Rattle.batch.proofs.four.side_by_side.Goals.{After-search-q}

fined : (g : _) (c : After-search-q g) → Fines c.args.opened.section.bytes.now c.args.opened.section.lists c.args.opened.globals.now c.args.m c.args.x c.search-q.result
fined g c =
    let few : c.args.opened.section.lists.pages_len < 4294967296 = search rules in
    let o = c.args.opened in
    fines _ _ _ _ o.globals_are o.section.granted few (slice_told o.section.bytes) refl _ _ c.requires.0 _ c.lists_in.ensures _ c.keys_in.ensures _ g.met.K.PageKind.laid _ c.search-q.ensures

pub answer-requires : goal.answer-requires
answer-requires g c = (fined g (goal.at.answer-requires g c).After-search-q).0.0

pub answer-requires-2 : goal.answer-requires-2
answer-requires-2 g c = (fined g (goal.at.answer-requires-2 g c).After-search-q).1.0

pub answer-requires-3 : goal.answer-requires-3
answer-requires-3 g c = (fined g (goal.at.answer-requires-3 g c).After-search-q).2.0

pub answer-requires-4 : goal.answer-requires-4
answer-requires-4 g c = (fined g (goal.at.answer-requires-4 g c).After-search-q).3.0

pub returns : goal.returns
returns g c =
    let f = fined g (goal.at.returns g c).After-search-q in
    let section = c.args.opened.section in
    four-puts (lookup_in section.bytes.now section.lists) c.args.x c.args.k _ _ _ _ _ _ _ _ _ (c.answer.ensures ∙ f.0.1) (c.answer-2.ensures ∙ f.1.1) (c.answer-3.ensures ∙ f.2.1) (c.answer-4.ensures ∙ f.3.1)
    c.put.ensures c.put-2.ensures c.put-3.ensures c.put-4.ensures
