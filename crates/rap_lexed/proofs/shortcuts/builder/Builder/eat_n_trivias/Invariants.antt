use Rattle.rap_lexed.proofs.Eating.{EatsSome}
use Rattle.rap_lexed.proofs.shortcuts.builder.Builder.eat_n_trivias.Given as goal

abbrev pub invariant-tokens : goal.invariant-tokens
invariant-tokens g l = EatsSome g.S.StrSink.takes l.initial.self l.initial.sink l.n l.counter l.self l.sink
