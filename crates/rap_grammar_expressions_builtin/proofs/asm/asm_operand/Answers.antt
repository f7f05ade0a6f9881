use Rattle.rap_grammar_scripts.specs.Asm.{asm_operand}
use Rattle.rap_grammar_scripts.proofs.Ends.{gives}
use Rattle.rap_grammar_frame.proofs.Steps.{by_start, by_rule, by_abandon, not_ate, not_ate_as}
use Rattle.rap_grammar_expressions_builtin.proofs.asm.asm_operand.Goals as goal

pub returns : goal.returns
unfolding asm_operand
returns g c = record {
  script = by_start c.in_ok-op.ensures.state
      (by_rule (rw c.in_default.is at (c.in_ok-goes_both_ways.ensures.script.at (g.G.Grammar.left c.args.g.now)))
      (not_ate_as c.in_ok-eat_contextual_kw.ensures.state c.if-branch.false
      (not_ate c.in_ok-eat.ensures.state c.if-branch-2.false
      (not_ate_as c.in_ok-eat_contextual_kw-2.ensures.state c.if-branch-3.false
      (by_abandon c.in_ok-abandon.ensures.state gives)))));
}
