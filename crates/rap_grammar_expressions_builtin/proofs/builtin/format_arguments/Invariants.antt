use Rattle.std.proofs.Common.{◌≤◌, false}
use Rattle.rap_events.specs.State.{state}
use Rattle.rap_grammar_scripts.specs.Builtin.{arguments_turn}
use Rattle.rap_grammar_frame.proofs.Steps.{Turns}
use Rattle.rap_grammar_expressions_builtin.proofs.builtin.format_arguments.Given as goal

abbrev pub invariant-arguments : goal.invariant-arguments
invariant-arguments g l = record {
  left : (state l.p).left ≤ (state l.initial.p).left;
  script : Turns (g.G.Grammar.left l.g) arguments_turn false false false false l.initial.p l.p;
}

abbrev pub decreases-arguments : goal.decreases-arguments
decreases-arguments g l = (state l.p).left
