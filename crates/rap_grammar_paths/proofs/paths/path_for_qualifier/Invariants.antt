use Rattle.std.proofs.Common.{◌≤◌, false}
use Rattle.rap_base.specs.NodeKind.{PATH}
use Rattle.rap_events.specs.State.{state, IsLast}
use Rattle.rap_grammar_scripts.specs.Paths.{segment_turn}
use Rattle.rap_grammar_frame.proofs.Steps.{Turns}
use Rattle.rap_grammar_paths.proofs.paths.path_for_qualifier.Given as goal

abbrev pub invariant-segments : goal.invariant-segments
invariant-segments g l = record {
  left : (state l.p).left ≤ (state l.initial.p).left;
  last : IsLast (state l.p) l.qual PATH;
  script : Turns (g.G.Grammar.left l.g) (segment_turn l.mode) false false false false l.initial.p l.p;
}

abbrev pub decreases-segments : goal.decreases-segments
decreases-segments g l = (state l.p).left
