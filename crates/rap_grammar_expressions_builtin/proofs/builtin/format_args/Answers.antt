use Rattle.rap_grammar_scripts.specs.Builtin.{format_args}
use Rattle.rap_grammar_scripts.proofs.Ends.{gives}
use Rattle.rap_grammar_frame.proofs.Steps.{by_rule, by_expect, ate, not_ate}
use Rattle.rap_grammar_expressions_builtin.proofs.builtin.format_args.Goals as goal

pub returns-then-branch : goal.returns-then-branch
unfolding format_args
returns-then-branch g c = record {
  script = by_expect c.in_ok-expect.ensures.state
      (by_rule c.in_ok-expr.ensures.script
      (ate c.in_ok-eat.ensures.state c.if-branch.true
      (by_rule c.in_ok-format_arguments.ensures.script
      (by_expect c.in_ok-expect-2.ensures.state gives))));
}

pub returns : goal.returns
unfolding format_args
returns g c = record {
  script = by_expect c.in_ok-expect.ensures.state
      (by_rule c.in_ok-expr.ensures.script
      (not_ate c.in_ok-eat.ensures.state c.if-branch.false
      (by_expect c.in_ok-expect-3.ensures.state gives)));
}
