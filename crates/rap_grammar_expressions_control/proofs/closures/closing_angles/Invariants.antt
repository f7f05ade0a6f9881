use Rattle.std.proofs.Common.{false}
use Rattle.rap_events.specs.State.{state}
use Rattle.rap_grammar_scripts.specs.Closures.{angles_turn}
use Rattle.rap_grammar_frame.proofs.Steps.{Turns}
use Rattle.rap_grammar_expressions_control.proofs.closures.closing_angles.Given as goal

abbrev pub invariant-angles : goal.invariant-angles
invariant-angles l = Turns 0 angles_turn false false false false l.initial.p l.p

abbrev pub decreases-angles : goal.decreases-angles
decreases-angles l = (state l.p).left
