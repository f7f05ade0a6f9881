use Rattle.rast_answers.proofs.NestLaws.{folds_in_order}
use Rattle.rast_answers.proofs.laws.folds_are_in_order.Goals as goal

pub returns : goal.returns
returns c = folds_in_order
