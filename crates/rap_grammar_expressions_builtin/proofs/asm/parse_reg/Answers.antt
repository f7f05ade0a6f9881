use Rattle.rap_grammar_scripts.specs.Asm.{parse_reg}
use Rattle.rap_grammar_scripts.proofs.Ends.{gives}
use Rattle.rap_grammar_frame.proofs.Steps.{by_rule, by_expect}
use Rattle.rap_grammar_expressions_builtin.proofs.asm.parse_reg.Goals as goal

pub returns : goal.returns
unfolding parse_reg
returns c = record {
  script = record {
    at = λ depth.
        by_expect c.in_ok-expect.ensures.state
        (by_rule (c.in_ok-reg_spec.ensures.script.at _)
        (by_expect c.in_ok-expect-2.ensures.state gives));
  };
}
