use Rattle.std.proofs.Common.{ℕ, false}
use Rattle.rap_events.specs.State.{state}
use Rattle.rap_grammar_scripts.specs.Functions.{bracket_turn}
use Rattle.rap_grammar_frame.proofs.Steps.{Turns}
use Rattle.rap_grammar_items_kinds.proofs.functions.unbalanced_brackets.Given as goal

abbrev pub invariant-brackets : goal.invariant-brackets
invariant-brackets l = record {
  script : (depth : ℕ) → Turns depth bracket_turn false false false false l.initial.p l.p;
}

abbrev pub decreases-brackets : goal.decreases-brackets
decreases-brackets l = (state l.p).left
