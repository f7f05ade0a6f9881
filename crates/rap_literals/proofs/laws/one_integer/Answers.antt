use Rattle.rap_literals.proofs.OneCut.{integer_once}
use Rattle.rap_literals.proofs.laws.one_integer.Goals as goal

pub returns : goal.returns
returns c = integer_once
