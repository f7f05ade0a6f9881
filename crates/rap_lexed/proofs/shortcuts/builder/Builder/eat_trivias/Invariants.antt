use Rattle.std.proofs.Common.{◌-◌, length}
use Rattle.rap_lexed.proofs.Eating.{Eats}
use Rattle.rap_lexed.proofs.shortcuts.builder.Builder.eat_trivias.Given as goal

abbrev pub invariant-trivia : goal.invariant-trivia
invariant-trivia g l = Eats g.S.StrSink.takes l.initial.self l.initial.sink l.self l.sink

abbrev pub decreases-trivia : goal.decreases-trivia
decreases-trivia g l = length l.self.lexed.now.tokens - l.self.pos
