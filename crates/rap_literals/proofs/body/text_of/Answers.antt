use Rattle.std.proofs.Common.{chars, string_bytes}
use Rattle.rap_lexer.specs.declared.escape.Mode.TheVariants.{Str}
use Rattle.rap_literals.proofs.Pieces.{finish}
use Rattle.rap_literals.proofs.body.text_of.Goals as goal

pub returns : goal.returns
returns c = finish Str (chars c.args.body.now) (string_bytes c.body.text) c.body.rest c.in_default.ensures.0 c.body.invariant
