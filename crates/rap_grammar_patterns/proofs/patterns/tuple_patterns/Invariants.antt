use Rattle.std.proofs.Common.{◌≤◌, false}
use Rattle.rap_events.specs.State.{state}
use Rattle.rap_grammar_scripts.specs.Patterns.{tuple_pat_turn}
use Rattle.rap_grammar_frame.proofs.Steps.{Turns}
use Rattle.rap_grammar_patterns.proofs.patterns.tuple_patterns.Given as goal

abbrev pub invariant-patterns : goal.invariant-patterns
invariant-patterns g l = record {
  left : (state l.p).left ≤ (state l.fn.p).left;
  script : Turns (g.G.Grammar.left l.g) tuple_pat_turn l.fn.is_tuple false l.is_tuple l.has_pat l.fn.p l.p;
}

abbrev pub decreases-patterns : goal.decreases-patterns
decreases-patterns g l = (state l.p).left
