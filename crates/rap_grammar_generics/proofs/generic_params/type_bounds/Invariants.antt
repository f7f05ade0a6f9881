use Rattle.std.proofs.Common.{◌≤◌, false}
use Rattle.rap_events.specs.State.{state}
use Rattle.rap_grammar_scripts.specs.GenericParams.{bound_turn}
use Rattle.rap_grammar_frame.proofs.Steps.{Turns}
use Rattle.rap_grammar_generics.proofs.generic_params.type_bounds.Given as goal

abbrev pub invariant-bounds : goal.invariant-bounds
invariant-bounds g l = record {
  left : (state l.p).left ≤ (state l.initial.p).left;
  script : Turns (g.G.Grammar.left l.g) bound_turn false false false false l.initial.p l.p;
}

abbrev pub decreases-bounds : goal.decreases-bounds
decreases-bounds g l = (state l.p).left
