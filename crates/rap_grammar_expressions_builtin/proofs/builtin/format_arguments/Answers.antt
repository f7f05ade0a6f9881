use Rattle.std.proofs.Common.{rules, arith}
use Rattle.rap_grammar_scripts.proofs.Ends.{gives}
use Rattle.rap_grammar_frame.proofs.Steps.{else_by, by_start, by_rule, by_expect, by_complete, turn, answers_something}
use Rattle.rap_grammar_facts.proofs.Builtin.{facts}
use Rattle.rap_grammar_expressions_builtin.proofs.builtin.format_arguments.Goals as goal

pub arguments-preserved-in_ok-expect : goal.arguments-preserved-in_ok-expect
arguments-preserved-in_ok-expect g c = record {
  left = grind (arith, facts);
  script = turn c.arguments.invariant.script
      (else_by c.at.ensures c.arguments-test.true
      (else_by c.at-in-arguments.ensures c.if-not-at.true
      (by_start c.in_ok-m.ensures.state
      (by_rule (c.in_ok-opt_arg_name.ensures.script.at _)
      (by_rule (answers_something (search rules) c.in_ok-expr.ensures.script)
      (by_complete c.in_ok-complete.ensures.state.0
      (else_by c.at-in-arguments-2.ensures c.if-not-at-2.true
      (by_expect c.in_ok-expect.ensures.state gives)))))))) (grind (arith, facts));
}
