use Rattle.rap_base.specs.TokenSet.{member}
use Rattle.rap_base.proofs.TokenSets.{without_kinds}
use Rattle.rap_base.proofs.token_set.TokenSet.empty_has_no_kind.Goals as goal

pub returns : goal.returns
unfolding member
returns c = without_kinds
