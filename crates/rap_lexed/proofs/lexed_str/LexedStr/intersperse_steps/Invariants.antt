use Rattle.std.proofs.Common.{drop, map}
use Rattle.rap_events.specs.Reading.{forest_of}
use Rattle.rap_events.specs.Step.{step_value}
use Rattle.rap_lexed.proofs.Walk.{Stands}
use Rattle.rap_lexed.proofs.lexed_str.LexedStr.intersperse_steps.Given as goal

abbrev pub invariant-loop-step : goal.invariant-loop-step
invariant-loop-step g l = Stands g.S.StrSink.takes l.self.tokens (forest_of (map step_value l.steps)) l.initial.sink l.builder (map step_value (drop l.step-index l.steps)) l.sink
