use Rattle.rap_literals.proofs.OneCut.{suffix_once}
use Rattle.rap_literals.proofs.laws.one_suffix.Goals as goal

pub returns : goal.returns
returns c = suffix_once
