use Rattle.rast_answers.proofs.NestLaws.{symbols_nest}
use Rattle.rast_answers.proofs.laws.symbols_nest.Goals as goal

pub returns : goal.returns
returns c = symbols_nest
