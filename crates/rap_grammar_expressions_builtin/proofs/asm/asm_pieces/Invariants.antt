use Rattle.std.proofs.Common.{◌≤◌, true, false}
use Rattle.rap_events.specs.State.{state}
use Rattle.rap_grammar_scripts.specs.Asm.{pieces_turn}
use Rattle.rap_grammar_frame.proofs.Steps.{Turns}
use Rattle.rap_grammar_expressions_builtin.proofs.asm.asm_pieces.Given as goal

abbrev pub invariant-pieces : goal.invariant-pieces
invariant-pieces g l = record {
  left : (state l.p).left ≤ (state l.initial.p).left;
  script : Turns (g.G.Grammar.left l.g) pieces_turn true false l.allow_templates false l.initial.p l.p;
}

abbrev pub decreases-pieces : goal.decreases-pieces
decreases-pieces g l = (state l.p).left
