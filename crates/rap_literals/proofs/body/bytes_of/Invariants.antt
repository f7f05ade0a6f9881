use Rattle.std.proofs.Common.{chars, length}
use Rattle.rap_literals.specs.Piece.{Continues}
use Rattle.rap_literals.proofs.body.bytes_of.Given as goal

abbrev pub invariant-body : goal.invariant-body
invariant-body l = Continues l.mode (chars l.fn.body) l.bytes.items l.rest

abbrev pub decreases-body : goal.decreases-body
decreases-body l = length l.rest
