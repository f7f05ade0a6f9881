use Rattle.rast_answers.proofs.BorderLaws.{selections_on_borders}
use Rattle.rast_answers.proofs.laws.selections_are_on_borders.Goals as goal

pub returns : goal.returns
returns c = selections_on_borders
