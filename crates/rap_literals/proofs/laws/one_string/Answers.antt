use Rattle.rap_literals.proofs.OneReading.{string_once}
use Rattle.rap_literals.proofs.laws.one_string.Goals as goal

pub returns : goal.returns
returns c = string_once
