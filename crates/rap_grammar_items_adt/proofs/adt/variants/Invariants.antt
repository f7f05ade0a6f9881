use Rattle.std.proofs.Common.{◌≤◌, false}
use Rattle.rap_events.specs.State.{state}
use Rattle.rap_grammar_scripts.specs.Adt.{variant_turn}
use Rattle.rap_grammar_frame.proofs.Steps.{Turns}
use Rattle.rap_grammar_items_adt.proofs.adt.variants.Given as goal

abbrev pub invariant-variants : goal.invariant-variants
invariant-variants g l = record {
  left : (state l.p).left ≤ (state l.initial.p).left;
  script : Turns (g.G.Grammar.left l.g) variant_turn false false false false l.initial.p l.p;
}

abbrev pub decreases-variants : goal.decreases-variants
decreases-variants g l = (state l.p).left
