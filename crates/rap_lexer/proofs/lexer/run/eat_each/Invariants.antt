use Rattle.std.proofs.Common.{◌≡◌, length}
use Rattle.rap_lexer.specs.Class.{is_in}
use Rattle.rap_lexer.specs.Run.{after_run}
use Rattle.rap_lexer.proofs.lexer.run.eat_each.Given as goal

abbrev pub invariant-run : goal.invariant-run
invariant-run l = after_run (is_in l.class) l.cursor ≡ after_run (is_in l.class) l.initial.cursor

abbrev pub decreases-run : goal.decreases-run
decreases-run l = length l.cursor
