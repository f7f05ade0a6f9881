use Rattle.flat_tree.proofs.Messages.{placed_at}
use Rattle.flat_tree.proofs.report.placed.Goals as goal

pub returns-in-Some : goal.returns-in-Some
returns-in-Some c = λ f root r is.
    placed_at root c.args.elements.now _ c.in-Some.index _ _ c.args.report _ is c.position-at.ensures (c.in-Some.ensures f root r is) c.place_of-range.ensures.start c.place_of-range.ensures.end
    c.placed.ensures
