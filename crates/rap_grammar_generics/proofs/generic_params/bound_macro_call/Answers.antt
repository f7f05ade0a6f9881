use Rattle.std.proofs.Common.{rules}
use Rattle.rap_grammar_scripts.specs.GenericParams.{bound_macro_call}
use Rattle.rap_grammar_scripts.proofs.Ends.{gives, passes}
use Rattle.rap_grammar_frame.proofs.Steps.{by_start, by_bump, by_report, by_rule, by_complete}
use Rattle.rap_grammar_generics.proofs.generic_params.bound_macro_call.Goals as goal

pub returns-then-matches : goal.returns-then-matches
unfolding bound_macro_call
returns-then-matches c = record {
  script = record {
    at = λ depth h.
        by_start c.in_ok-m.ensures.state
        (by_bump (search rules) c.in_ok-bump.ensures.state
        (by_report c.in_ok-error.ensures.state
        (passes (search rules)
        (by_rule (c.in_ok-token_tree.ensures.script _ (search rules))
        (by_complete c.in_ok-complete.ensures.state.0 gives)))));
  };
}
