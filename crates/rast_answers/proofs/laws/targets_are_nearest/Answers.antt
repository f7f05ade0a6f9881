use Rattle.rast_answers.proofs.TogetherLaws.{targets_nearest}
use Rattle.rast_answers.proofs.laws.targets_are_nearest.Goals as goal

pub returns : goal.returns
returns c = targets_nearest
