use Rattle.std.proofs.Common.{◌≤◌, false}
use Rattle.rap_events.specs.State.{state}
use Rattle.rap_grammar_scripts.specs.Atom.{tuple_turn}
use Rattle.rap_grammar_frame.proofs.Steps.{Turns}
use Rattle.rap_grammar_expressions.proofs.expressions.atom.tuple_elements.Given as goal

abbrev pub invariant-elements : goal.invariant-elements
invariant-elements g l = record {
  left : (state l.p).left ≤ (state l.initial.p).left;
  script : Turns (g.G.Grammar.left l.g) tuple_turn false false l.saw_comma l.saw_expr l.initial.p l.p;
}

abbrev pub decreases-elements : goal.decreases-elements
decreases-elements g l = (state l.p).left
