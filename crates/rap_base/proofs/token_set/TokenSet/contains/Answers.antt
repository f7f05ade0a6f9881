use Rattle.rap_base.specs.TokenSet.{member}
use Rattle.rap_base.proofs.Bits.{bit-read}
use Rattle.rap_base.proofs.token_set.TokenSet.contains.Goals as goal

pub returns : goal.returns
unfolding member
returns c = bit-read c.args.self.now.words c.from-number.result c.args.kind c.from-number.ensures.0
