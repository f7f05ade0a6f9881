use Rattle.rap_literals.proofs.Literals.{character_literal_has_value}
use Rattle.rap_literals.proofs.laws.characters_without_faults.Goals as goal

pub returns : goal.returns
returns c = character_literal_has_value
