use Rattle.rap_lexer.proofs.CommonClasses.{hexadecimal_row}
use Rattle.rap_lexer.proofs.lexer.run.is_hexadecimal.Goals as goal

pub returns : goal.returns
returns c = rw c.from.ensures (hexadecimal_row c.args.b c.ranges.b.fits)
