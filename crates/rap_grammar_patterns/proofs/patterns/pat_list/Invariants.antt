use Rattle.std.proofs.Common.{◌≤◌, false}
use Rattle.rap_events.specs.State.{state}
use Rattle.rap_grammar_scripts.specs.Patterns.{pat_turn}
use Rattle.rap_grammar_frame.proofs.Steps.{Turns}
use Rattle.rap_grammar_patterns.proofs.patterns.pat_list.Given as goal

abbrev pub invariant-patterns : goal.invariant-patterns
invariant-patterns g l = record {
  left : (state l.p).left ≤ (state l.fn.p).left;
  script : Turns (g.G.Grammar.left l.g) (pat_turn l.ket) false false false false l.fn.p l.p;
}

abbrev pub decreases-patterns : goal.decreases-patterns
decreases-patterns g l = (state l.p).left
