use Rattle.rap_literals.proofs.OneReading.{literal_once}
use Rattle.rap_literals.proofs.laws.one_character.Goals as goal

pub returns : goal.returns
returns c = literal_once
