use Rattle.rap_lexer.proofs.CommonClasses.{alone_row}
use Rattle.rap_lexer.proofs.lexer.common.last_alone.Goals as goal

pub returns : goal.returns
returns c = rw c.from.ensures (alone_row c.args.b c.ranges.b.fits)
