use Rattle.std.proofs.Common.{length}
use Rattle.rap_lexer.specs.Quoted.{StringRun}
use Rattle.rap_lexer.proofs.Leads.{Leads}
use Rattle.rap_lexer.proofs.lexer.quoted.eat_string.Given as goal

abbrev pub invariant-body : goal.invariant-body
invariant-body l = Leads StringRun l.initial.cursor l.cursor

abbrev pub decreases-body : goal.decreases-body
decreases-body l = length l.cursor
