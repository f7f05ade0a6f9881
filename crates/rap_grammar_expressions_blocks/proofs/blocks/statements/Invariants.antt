use Rattle.std.proofs.Common.{false}
use Rattle.rap_events.specs.State.{state}
use Rattle.rap_grammar_scripts.specs.Blocks.{contents_turn}
use Rattle.rap_grammar_frame.specs.Grew.{Grew}
use Rattle.rap_grammar_frame.proofs.Steps.{Turns}
use Rattle.rap_grammar_expressions_blocks.proofs.blocks.statements.Given as goal

abbrev pub invariant-statements : goal.invariant-statements
invariant-statements g l = record {
  grew : Grew (state l.initial.p) (state l.p) 0;
  script : Turns (g.G.Grammar.left l.g) contents_turn false false false false l.initial.p l.p;
}

abbrev pub decreases-statements : goal.decreases-statements
decreases-statements g l = (state l.p).left
