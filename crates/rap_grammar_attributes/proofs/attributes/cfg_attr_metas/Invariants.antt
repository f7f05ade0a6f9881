use Rattle.std.proofs.Common.{◌≤◌, false}
use Rattle.rap_events.specs.State.{state}
use Rattle.rap_grammar_scripts.specs.Attributes.{metas_turn}
use Rattle.rap_grammar_frame.proofs.Steps.{Turns}
use Rattle.rap_grammar_attributes.proofs.attributes.cfg_attr_metas.Given as goal

abbrev pub invariant-metas : goal.invariant-metas
invariant-metas g l = record {
  left : (state l.p).left ≤ (state l.initial.p).left;
  script : Turns (g.G.Grammar.left l.g) metas_turn false false false false l.initial.p l.p;
}

abbrev pub decreases-metas : goal.decreases-metas
decreases-metas g l = (state l.p).left
