use Rattle.std.proofs.Common.{rules}
use Rattle.rap_grammar_scripts.specs.Macros.{macro_rules}
use Rattle.rap_grammar_scripts.proofs.Ends.{gives}
use Rattle.rap_grammar_frame.proofs.Steps.{by_bear, by_expect, by_rule, by_complete}
use Rattle.rap_grammar_items_kinds.proofs.macros.macro_rules.Goals as goal

pub returns : goal.returns
unfolding macro_rules
returns c = record {
  script = record {
    at = λ depth h.
        by_bear c.requires.here c.in_ok-bump_remap.ensures.state
        (by_expect c.in_ok-expect.ensures.state
        (by_rule (c.in_ok-name.ensures.script _)
        (by_rule (c.in_ok-rules_in_brackets.ensures.script.at _ (search rules))
        (by_complete c.in_ok-complete.ensures.state.0 gives))));
  };
}
