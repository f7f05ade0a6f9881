use Rattle.std.proofs.Common.{◌≤◌, false}
use Rattle.rap_events.specs.State.{state}
use Rattle.rap_grammar_scripts.specs.Matches.{arms_turn}
use Rattle.rap_grammar_frame.proofs.Steps.{Turns}
use Rattle.rap_grammar_expressions_control.proofs.matches.match_arms.Given as goal

abbrev pub invariant-arms : goal.invariant-arms
invariant-arms g l = record {
  left : (state l.p).left ≤ (state l.initial.p).left;
  script : Turns (g.G.Grammar.left l.g) arms_turn false false false false l.initial.p l.p;
}

abbrev pub decreases-arms : goal.decreases-arms
decreases-arms g l = (state l.p).left
