use Rattle.std.proofs.Common.{chars, length, string_bytes}
use Rattle.rap_lexer.specs.declared.escape.Mode.TheVariants.{Str}
use Rattle.rap_literals.specs.Piece.{Continues}
use Rattle.rap_literals.proofs.body.text_of.Given as goal

abbrev pub invariant-body : goal.invariant-body
invariant-body l = Continues Str (chars l.fn.body) (string_bytes l.text) l.rest

abbrev pub decreases-body : goal.decreases-body
decreases-body l = length l.rest
