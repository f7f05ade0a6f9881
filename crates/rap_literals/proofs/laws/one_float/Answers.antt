use Rattle.rap_literals.proofs.OneCut.{float_once}
use Rattle.rap_literals.proofs.laws.one_float.Goals as goal

pub returns : goal.returns
returns c = float_once
