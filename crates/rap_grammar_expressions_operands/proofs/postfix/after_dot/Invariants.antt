use Rattle.std.proofs.Common.{◌≡◌, ◌≤◌, Some, false}
use Rattle.rap_events.specs.State.{state}
use Rattle.rap_grammar_scripts.specs.Postfix.{after_dot_turn}
use Rattle.rap_grammar_frame.proofs.Steps.{Turns}
use Rattle.rap_grammar_expressions_operands.proofs.postfix.after_dot.Given as goal

abbrev pub invariant-fields : goal.invariant-fields
invariant-fields g l = record {
  newest : (state l.p).marker ≡ Some l.m.pos.value;
  left : (state l.p).left ≤ (state l.fn.p).left;
  script : Turns (g.G.Grammar.left l.g) after_dot_turn false false false false l.fn.p l.p;
}

abbrev pub decreases-fields : goal.decreases-fields
decreases-fields g l = (state l.p).left
