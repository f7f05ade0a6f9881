use Rattle.std.proofs.Common.{◌≤◌, false}
use Rattle.rap_events.specs.State.{state}
use Rattle.rap_grammar_scripts.specs.Patterns.{alternative_turn}
use Rattle.rap_grammar_frame.proofs.Steps.{Turns}
use Rattle.rap_grammar_patterns.proofs.patterns.alternatives.Given as goal

abbrev pub invariant-alternatives : goal.invariant-alternatives
invariant-alternatives g l = record {
  left : (state l.p).left ≤ (state l.fn.p).left;
  script : Turns (g.G.Grammar.left l.g) (alternative_turn l.in_arm) false false false false l.fn.p l.p;
}

abbrev pub decreases-alternatives : goal.decreases-alternatives
decreases-alternatives g l = (state l.p).left
