use Rattle.rap_base.specs.TokenSet.{member}
use Rattle.rap_base.proofs.TokenSets.{without_kinds}
use Rattle.rap_tests.proofs.token_set.empty.Goals as goal

pub returns : goal.returns
unfolding member
returns c = without_kinds
