use Rattle.std.proofs.Common.{rules}
use Rattle.rap_grammar_scripts.specs.Attributes.{cfg_meta}
use Rattle.rap_grammar_scripts.proofs.Ends.{gives}
use Rattle.rap_grammar_frame.proofs.Steps.{by_start, by_bear, by_bump, by_rule, by_eat, by_expect, by_complete}
use Rattle.rap_grammar_attributes.proofs.attributes.cfg_meta.Goals as goal

pub returns : goal.returns
unfolding cfg_meta
returns g c = record {
  script = by_start c.in_ok-m.ensures.state
      (by_bear (search rules) c.in_ok-bump_remap.ensures.state
      (by_bump (search rules) c.in_ok-bump.ensures.state
      (by_rule c.in_ok-cfg_predicate.ensures.script
      (by_eat c.in_ok-eat.ensures.state
      (by_expect c.in_ok-expect.ensures.state
      (by_complete c.in_ok-complete.ensures.state.0 gives))))));
}
