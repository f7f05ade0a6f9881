use Rattle.rast_answers.proofs.NestLaws.{selections_go_outwards}
use Rattle.rast_answers.proofs.laws.selections_go_outwards.Goals as goal

pub returns : goal.returns
returns c = selections_go_outwards
