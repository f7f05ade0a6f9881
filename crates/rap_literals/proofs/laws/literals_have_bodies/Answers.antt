use Rattle.rap_literals.proofs.Cuts.{quoted_parts}
use Rattle.rap_literals.proofs.laws.literals_have_bodies.Goals as goal

pub returns : goal.returns
returns c = quoted_parts
