use Rattle.std.proofs.Common.{drop, map}
use Rattle.rap_lexed.specs.StrStep.{str_step_value}
use Rattle.rap_lexed.proofs.Handed.{Reached}
use Rattle.rap_lexed.proofs.shortcuts.builder.hand_out.Given as goal

abbrev pub invariant-steps : goal.invariant-steps
invariant-steps g l = Reached g.S.StrSink.takes (map str_step_value l.steps) l.initial.sink (map str_step_value (drop l.step-index l.steps)) l.sink
