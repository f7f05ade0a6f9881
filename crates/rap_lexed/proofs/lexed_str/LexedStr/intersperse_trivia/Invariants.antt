use Rattle.std.proofs.Common.{length}
use Rattle.rap_lexed.proofs.Walk.{Stands}
use Rattle.rap_lexed.proofs.lexed_str.LexedStr.intersperse_trivia.Given as goal

abbrev pub invariant-steps : goal.invariant-steps
invariant-steps g l = Stands g.S.StrSink.takes l.self.tokens l.output l.initial.sink l.builder l.steps l.sink

abbrev pub decreases-steps : goal.decreases-steps
decreases-steps g l = length l.steps
