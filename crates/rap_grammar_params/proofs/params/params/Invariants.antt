use Rattle.std.proofs.Common.{◌≤◌, false}
use Rattle.rap_events.specs.State.{state}
use Rattle.rap_grammar_scripts.specs.Params.{param_turn}
use Rattle.rap_grammar_frame.proofs.Steps.{Turns}
use Rattle.rap_grammar_params.proofs.params.params.Given as goal

abbrev pub invariant-params : goal.invariant-params
invariant-params g l = record {
  left : (state l.p).left ≤ (state l.initial.p).left;
  script : Turns (g.G.Grammar.left l.g) (param_turn l.flavor) false false false false l.initial.p l.p;
}

abbrev pub decreases-params : goal.decreases-params
decreases-params g l = (state l.p).left
