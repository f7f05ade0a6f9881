use Rattle.rast_answers.proofs.NestLaws.{elements_on_borders}
use Rattle.rast_answers.proofs.laws.elements_are_on_borders.Goals as goal

pub returns : goal.returns
returns c = elements_on_borders
