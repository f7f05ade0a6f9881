use Rattle.std.proofs.Common.{rules}
use Rattle.rap_grammar_scripts.specs.Names.{name_r}
use Rattle.rap_grammar_scripts.specs.Patterns.{binding}
use Rattle.rap_grammar_scripts.specs.Recovery.{is_pattern_recovery}
use Rattle.rap_grammar_frame.proofs.Steps.{by_eat, then_by, to_end}
use Rattle.rap_grammar_patterns.proofs.patterns.binding.Goals as goal

pub returns-then-at : goal.returns-then-at
unfolding binding name_r
returns-then-at c = record {
  script = record {
    at = λ depth.
        by_eat c.in_ok-eat.ensures.state
        (by_eat c.in_ok-eat-2.ensures.state
        (then_by c.at.ensures c.if-at.true (to_end (c.in_ok-given_name.ensures.script _))));
  };
}

pub returns : goal.returns
unfolding binding
returns c = record {
  script = record {
    at = λ depth.
        by_eat c.in_ok-eat.ensures.state
        (by_eat c.in_ok-eat-2.ensures.state
        (to_end ((c.in_ok-name_r.ensures.script _) is_pattern_recovery (search rules))));
  };
}
