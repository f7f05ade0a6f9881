use Rattle.std.proofs.Common.{◌≤◌, suc, false}
use Rattle.rap_events.specs.State.{state}
use Rattle.rap_grammar_scripts.specs.Entry.{macro_turn}
use Rattle.rap_grammar_frame.proofs.Steps.{Turns}
use Rattle.rap_grammar.proofs.entry.macro_stmts.Given as goal

abbrev pub invariant-statements : goal.invariant-statements
invariant-statements l = record {
  left : (state l.p).left ≤ (state l.initial.p).left;
  script : Turns (suc l.g.left) macro_turn false false false false l.initial.p l.p;
}

abbrev pub decreases-statements : goal.decreases-statements
decreases-statements l = (state l.p).left
