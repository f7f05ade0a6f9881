use Rattle.std.proofs.Common.{◌≤◌, false}
use Rattle.rap_events.specs.State.{state}
use Rattle.rap_grammar_scripts.specs.Types.{types_turn}
use Rattle.rap_grammar_frame.proofs.Steps.{Turns}
use Rattle.rap_grammar_types.proofs.types.tuple_types.Given as goal

abbrev pub invariant-types : goal.invariant-types
invariant-types g l = record {
  left : (state l.p).left ≤ (state l.initial.p).left;
  script : Turns (g.G.Grammar.left l.g) types_turn false false l.seen false l.initial.p l.p;
}

abbrev pub decreases-types : goal.decreases-types
decreases-types g l = (state l.p).left
