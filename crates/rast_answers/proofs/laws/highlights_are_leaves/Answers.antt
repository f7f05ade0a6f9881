use Rattle.rast_answers.proofs.TogetherLaws.{highlights_leaves}
use Rattle.rast_answers.proofs.laws.highlights_are_leaves.Goals as goal

pub returns : goal.returns
returns c = highlights_leaves
