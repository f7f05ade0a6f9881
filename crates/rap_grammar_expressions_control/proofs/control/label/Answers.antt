use Rattle.rap_grammar_scripts.specs.Control.{label}
use Rattle.rap_grammar_scripts.proofs.Ends.{gives}
use Rattle.rap_grammar_frame.proofs.Steps.{by_start, by_rule, by_bump, by_complete}
use Rattle.rap_grammar_expressions_control.proofs.Labels.{colon_left}
use Rattle.rap_grammar_expressions_control.proofs.control.label.Goals as goal

pub bump-requires-clause-here : goal.bump-requires-clause-here
bump-requires-clause-here c = colon_left c.in_ok-m.ensures.state c.in_ok-lifetime.ensures.script c.requires.colon

pub returns : goal.returns
unfolding label
returns c = record {
  script = record {
    at = λ depth.
        by_start c.in_ok-m.ensures.state
        (by_rule (c.in_ok-lifetime.ensures.script _)
        (by_bump
        (colon_left c.in_ok-m.ensures.state c.in_ok-lifetime.ensures.script c.requires.colon)
        c.in_ok-bump.ensures.state
        (by_complete c.in_ok-complete.ensures.state.0 gives)));
  };
}
