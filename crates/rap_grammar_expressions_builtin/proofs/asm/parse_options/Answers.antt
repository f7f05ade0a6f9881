use Rattle.rap_grammar_scripts.specs.Asm.{parse_options}
use Rattle.rap_grammar_frame.proofs.Steps.{by_expect, to_end}
use Rattle.rap_grammar_expressions_builtin.proofs.asm.parse_options.Goals as goal

pub returns : goal.returns
unfolding parse_options
returns c = record {
  script = record { at = λ depth. by_expect c.in_ok-expect.ensures.state (to_end (c.in_ok-asm_options.ensures.script.at _)) };
}
