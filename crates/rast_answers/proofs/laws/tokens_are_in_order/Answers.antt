use Rattle.rast_answers.proofs.NestLaws.{tokens_in_order}
use Rattle.rast_answers.proofs.laws.tokens_are_in_order.Goals as goal

pub returns : goal.returns
returns c = tokens_in_order
