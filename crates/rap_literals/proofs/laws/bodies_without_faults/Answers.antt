use Rattle.rap_literals.proofs.StringValues.{string_has_value}
use Rattle.rap_literals.proofs.laws.bodies_without_faults.Goals as goal

pub returns : goal.returns
returns c = string_has_value
