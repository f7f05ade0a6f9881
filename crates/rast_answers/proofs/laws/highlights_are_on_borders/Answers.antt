use Rattle.rast_answers.proofs.HighlightOrders.{highlights_on_borders}
use Rattle.rast_answers.proofs.laws.highlights_are_on_borders.Goals as goal

pub returns : goal.returns
returns c = highlights_on_borders
