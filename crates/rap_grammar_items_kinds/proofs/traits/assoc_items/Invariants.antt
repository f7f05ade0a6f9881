use Rattle.std.proofs.Common.{◌≤◌, false}
use Rattle.rap_events.specs.State.{state}
use Rattle.rap_grammar_scripts.specs.Traits.{assoc_turn}
use Rattle.rap_grammar_frame.proofs.Steps.{Turns}
use Rattle.rap_grammar_items_kinds.proofs.traits.assoc_items.Given as goal

abbrev pub invariant-items : goal.invariant-items
invariant-items g l = record {
  left : (state l.p).left ≤ (state l.initial.p).left;
  script : Turns (g.G.Grammar.left l.g) assoc_turn false false false false l.initial.p l.p;
}

abbrev pub decreases-items : goal.decreases-items
decreases-items g l = (state l.p).left
