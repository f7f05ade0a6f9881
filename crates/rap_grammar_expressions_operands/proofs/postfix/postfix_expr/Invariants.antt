use Rattle.std.proofs.Common.{◌≤◌}
use Rattle.rap_events.specs.State.{state}
use Rattle.rap_grammar_scripts.specs.Postfix.{postfix_turn}
use Rattle.rap_grammar_scripts.specs.Words.{is_block, of_like}
use Rattle.rap_grammar_frame.proofs.Steps.{Turns}
use Rattle.rap_grammar_facts.specs.Nodes.{IsOperand}
use Rattle.rap_grammar_expressions_operands.proofs.postfix.postfix_expr.Given as goal

abbrev pub invariant-postfixes : goal.invariant-postfixes
invariant-postfixes g l = record {
  left : (state l.p).left ≤ (state l.fn.p).left;
  operand : IsOperand (state l.p) l.lhs;
  script : Turns (g.G.Grammar.left l.g) postfix_turn l.fn.allow_calls (is_block (of_like l.fn.block_like)) l.allow_calls
      (is_block (of_like l.block_like)) l.fn.p l.p;
}

abbrev pub decreases-postfixes : goal.decreases-postfixes
decreases-postfixes g l = (state l.p).left
