use Rattle.std.proofs.Common.{◌≤◌, suc, false}
use Rattle.rap_events.specs.State.{state}
use Rattle.rap_grammar_scripts.specs.Modules.{item_turn}
use Rattle.rap_grammar_frame.proofs.Steps.{Turns}
use Rattle.rap_grammar.proofs.entry.items.Given as goal

abbrev pub invariant-items : goal.invariant-items
invariant-items l = record {
  left : (state l.p).left ≤ (state l.initial.p).left;
  script : Turns (suc l.g.left) (item_turn false) false false false false l.initial.p l.p;
}

abbrev pub decreases-items : goal.decreases-items
decreases-items l = (state l.p).left
