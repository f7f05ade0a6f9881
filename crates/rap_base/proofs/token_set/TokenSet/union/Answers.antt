use Rattle.std.proofs.Common.{rules}
use Rattle.rap_base.specs.TokenSet.{member}
use Rattle.rap_base.proofs.Bits.{bit-joined}
use Rattle.rap_base.proofs.token_set.TokenSet.union.Goals as goal

pub returns : goal.returns
unfolding member
returns c = λ k. bit-joined c.args.self.words c.args.other.words k (search rules) (search rules)
