use Rattle.std.proofs.Common.{length}
use Rattle.rap_lexer.proofs.RawWalk.{RawWalk}
use Rattle.rap_lexer.proofs.Leads.{Leads}
use Rattle.rap_lexer.proofs.lexer.raw_string.eat_raw.Given as goal

abbrev pub invariant-body : goal.invariant-body
invariant-body l = Leads (RawWalk l.hashes) l.initial.cursor l.cursor

abbrev pub decreases-body : goal.decreases-body
decreases-body l = length l.cursor
