use Rattle.std.proofs.Common.{◌≤◌, false}
use Rattle.rap_events.specs.State.{state}
use Rattle.rap_grammar_scripts.specs.GenericParams.{where_turn}
use Rattle.rap_grammar_frame.proofs.Steps.{Turns}
use Rattle.rap_grammar_generics.proofs.generic_params.where_predicates.Given as goal

abbrev pub invariant-predicates : goal.invariant-predicates
invariant-predicates g l = record {
  left : (state l.p).left ≤ (state l.initial.p).left;
  script : Turns (g.G.Grammar.left l.g) where_turn false false false false l.initial.p l.p;
}

abbrev pub decreases-predicates : goal.decreases-predicates
decreases-predicates g l = (state l.p).left
