use Rattle.rap_grammar_scripts.specs.Builtin.{offset_of}
use Rattle.rap_grammar_scripts.proofs.Ends.{gives}
use Rattle.rap_grammar_frame.proofs.Steps.{by_rule, by_expect, ate, not_ate}
use Rattle.rap_grammar_expressions_builtin.proofs.builtin.offset_of.Goals as goal

pub returns-then-branch : goal.returns-then-branch
unfolding offset_of
returns-then-branch g c = record {
  script = by_expect c.in_ok-expect.ensures.state
      (by_rule c.in_ok-type_.ensures.script
      (by_expect c.in_ok-expect-2.ensures.state
      (ate c.in_ok-eat.ensures.state c.if-branch.true
      (by_rule (c.in_ok-offset_of_fields.ensures.script.at _)
      (by_expect c.in_ok-expect-3.ensures.state
      (by_expect c.in_ok-expect-4.ensures.state gives))))));
}

pub returns : goal.returns
unfolding offset_of
returns g c = record {
  script = by_expect c.in_ok-expect.ensures.state
      (by_rule c.in_ok-type_.ensures.script
      (by_expect c.in_ok-expect-2.ensures.state
      (not_ate c.in_ok-eat.ensures.state c.if-branch.false
      (by_rule (c.in_ok-offset_of_fields-2.ensures.script.at _)
      (by_expect c.in_ok-expect-5.ensures.state gives)))));
}
