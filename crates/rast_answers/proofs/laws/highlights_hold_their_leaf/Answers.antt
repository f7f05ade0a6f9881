use Rattle.rast_answers.proofs.TogetherLaws.{highlights_hold}
use Rattle.rast_answers.proofs.laws.highlights_hold_their_leaf.Goals as goal

pub returns : goal.returns
returns c = highlights_hold
