use Rattle.std.proofs.Common.{◌-◌}
use Rattle.rap_lexer.proofs.RawStrings.{Ahead}
use Rattle.rap_lexer.proofs.lexer.raw_string.eat_hashes.Given as goal

abbrev pub invariant-loop : goal.invariant-loop
invariant-loop l = Ahead l.hashes (l.hashes - l.counter) l.cursor l.ahead
