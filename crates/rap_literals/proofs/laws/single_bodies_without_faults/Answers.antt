use Rattle.rap_literals.proofs.CharacterValues.{character_has_value}
use Rattle.rap_literals.proofs.laws.single_bodies_without_faults.Goals as goal

pub returns : goal.returns
returns c = λ mode body faults single t. character_has_value mode single body faults t
