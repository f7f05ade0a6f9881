use Rattle.std.proofs.Common.{◌≡◌, ◌≤◌, false}
use Rattle.rap_events.specs.State.{state}
use Rattle.rap_grammar_scripts.specs.Attributes.{inner_turn, is_inner_attr_start}
use Rattle.rap_grammar_scripts.specs.Test.{holds}
use Rattle.rap_grammar_frame.proofs.Steps.{Turns}
use Rattle.rap_grammar_attributes.proofs.attributes.inner_attrs.Given as goal

abbrev pub invariant-attrs : goal.invariant-attrs
invariant-attrs g l = record {
  left : (state l.p).left ≤ (state l.initial.p).left;
  stays : holds is_inner_attr_start (state l.initial.p).rest ≡ false → state l.p ≡ state l.initial.p;
  script : Turns (g.G.Grammar.left l.g) inner_turn false false false false l.initial.p l.p;
}

abbrev pub decreases-attrs : goal.decreases-attrs
decreases-attrs g l = (state l.p).left
