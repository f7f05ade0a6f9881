use Rattle.rast_answers.proofs.BorderLaws.{symbols_on_borders}
use Rattle.rast_answers.proofs.laws.symbols_are_on_borders.Goals as goal

pub returns : goal.returns
returns c = symbols_on_borders
