use Rattle.std.proofs.Common.{◌<◌, ◌≤◌, ◌+◌, ◌^◌, length}
use Rattle.rap_lexer.proofs.Nesting.{Keeps}
use Rattle.rap_lexer.proofs.lexer.comment.eat_body.Given as goal

abbrev pub invariant-body : goal.invariant-body
invariant-body l = record { inside : 0 < l.depth; room : l.depth + length l.cursor ≤ 2 ^ 63; keeps : Keeps l.depth l.initial.cursor l.cursor }

abbrev pub decreases-body : goal.decreases-body
decreases-body l = length l.cursor
