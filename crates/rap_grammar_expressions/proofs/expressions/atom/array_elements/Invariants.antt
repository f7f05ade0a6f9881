use Rattle.std.proofs.Common.{◌≤◌, true, false}
use Rattle.rap_events.specs.State.{state}
use Rattle.rap_grammar_scripts.specs.Atom.{array_turn}
use Rattle.rap_grammar_frame.proofs.Steps.{Turns}
use Rattle.rap_grammar_expressions.proofs.expressions.atom.array_elements.Given as goal

abbrev pub invariant-elements : goal.invariant-elements
invariant-elements g l = record {
  left : (state l.p).left ≤ (state l.initial.p).left;
  script : Turns (g.G.Grammar.left l.g) array_turn true false l.is_first l.has_semi l.initial.p l.p;
}

abbrev pub decreases-elements : goal.decreases-elements
decreases-elements g l = (state l.p).left
