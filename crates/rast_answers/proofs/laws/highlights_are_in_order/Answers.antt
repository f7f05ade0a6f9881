use Rattle.rast_answers.proofs.HighlightOrders.{highlights_in_order}
use Rattle.rast_answers.proofs.laws.highlights_are_in_order.Goals as goal

pub returns : goal.returns
returns c = highlights_in_order
