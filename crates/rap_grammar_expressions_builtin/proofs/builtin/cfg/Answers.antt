use Rattle.rap_grammar_scripts.specs.Builtin.{cfg}
use Rattle.rap_grammar_scripts.proofs.Ends.{gives}
use Rattle.rap_grammar_frame.proofs.Steps.{by_expect, by_eat, by_part}
use Rattle.rap_grammar_scripts.specs.declared.rule.Rule.TheVariants as knot
use Rattle.rap_grammar_expressions_builtin.proofs.builtin.cfg.Goals as goal

pub returns : goal.returns
unfolding cfg
returns g c = record {
  script = by_expect c.in_ok-expect.ensures.state
      (by_part knot.CfgPredicate c.in_ok-run.ensures.1
      (by_eat c.in_ok-eat.ensures.state
      (by_expect c.in_ok-expect-2.ensures.state gives)));
}
