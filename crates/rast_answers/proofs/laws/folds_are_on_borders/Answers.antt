use Rattle.rast_answers.proofs.BorderLaws.{folds_on_borders}
use Rattle.rast_answers.proofs.laws.folds_are_on_borders.Goals as goal

pub returns : goal.returns
returns c = folds_on_borders
