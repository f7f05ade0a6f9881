use Rattle.std.proofs.Common.{length}
use Rattle.rap_lexer.specs.Quoted.{CharacterRun}
use Rattle.rap_lexer.proofs.Leads.{Leads}
use Rattle.rap_lexer.proofs.lexer.quoted.eat_character_run.Given as goal

abbrev pub invariant-body : goal.invariant-body
invariant-body l = Leads CharacterRun l.initial.cursor l.cursor

abbrev pub decreases-body : goal.decreases-body
decreases-body l = length l.cursor
