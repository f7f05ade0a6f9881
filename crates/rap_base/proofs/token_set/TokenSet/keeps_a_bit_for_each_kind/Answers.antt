use Rattle.std.proofs.Common.{refl}
use Rattle.rap_base.specs.Bits.{bit}
use Rattle.rap_base.specs.TokenSet.{member}
use Rattle.rap_base.proofs.token_set.TokenSet.keeps_a_bit_for_each_kind.Goals as goal

pub returns-clause-first : goal.returns-clause-first
unfolding member bit
returns-clause-first c = λ set. refl

pub returns-clause-number : goal.returns-clause-number
unfolding member bit
returns-clause-number c = λ set. refl
