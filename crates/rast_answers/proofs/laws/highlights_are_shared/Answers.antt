use Rattle.rast_answers.proofs.TogetherLaws.{highlights_shared}
use Rattle.rast_answers.proofs.laws.highlights_are_shared.Goals as goal

pub returns : goal.returns
returns c = highlights_shared
