use Rattle.rap_literals.proofs.Literals.{literal_has_value}
use Rattle.rap_literals.proofs.laws.strings_without_faults.Goals as goal

pub returns : goal.returns
returns c = literal_has_value
