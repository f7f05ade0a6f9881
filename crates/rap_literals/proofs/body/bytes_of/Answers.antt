use Rattle.std.proofs.Common.{chars}
use Rattle.rap_literals.proofs.Pieces.{finish}
use Rattle.rap_literals.proofs.body.bytes_of.Goals as goal

pub returns : goal.returns
returns c = finish c.args.mode (chars c.args.body.now) c.body.bytes.items c.body.rest c.in_default.ensures.0 c.body.invariant
