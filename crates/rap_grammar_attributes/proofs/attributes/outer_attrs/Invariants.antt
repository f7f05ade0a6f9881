use Rattle.std.proofs.Common.{◌≡◌, ◌≤◌, false}
use Rattle.rap_events.specs.State.{state, next}
use Rattle.rap_grammar_scripts.specs.Attributes.{outer_turn}
use Rattle.rap_grammar_scripts.specs.First.{is_outer_attr_first}
use Rattle.rap_grammar_frame.proofs.Steps.{Turns}
use Rattle.rap_grammar_attributes.proofs.attributes.outer_attrs.Given as goal

abbrev pub invariant-attrs : goal.invariant-attrs
invariant-attrs g l = record {
  left : (state l.p).left ≤ (state l.initial.p).left;
  stays : is_outer_attr_first (next (state l.initial.p)) ≡ false → state l.p ≡ state l.initial.p;
  script : Turns (g.G.Grammar.left l.g) outer_turn false false false false l.initial.p l.p;
}

abbrev pub decreases-attrs : goal.decreases-attrs
decreases-attrs g l = (state l.p).left
