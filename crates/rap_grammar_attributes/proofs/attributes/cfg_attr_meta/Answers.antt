use Rattle.std.proofs.Common.{rules}
use Rattle.rap_grammar_scripts.specs.Attributes.{cfg_attr_meta}
use Rattle.rap_grammar_scripts.proofs.Ends.{gives}
use Rattle.rap_grammar_frame.proofs.Done.{marker_kept}
use Rattle.rap_grammar_frame.proofs.Steps.{by_start, by_bear, by_bump, by_rule, by_expect, by_complete}
use Rattle.rap_grammar_facts.proofs.Attributes.{level_cfg_attr_metas}
use Rattle.rap_grammar_attributes.proofs.attributes.cfg_attr_meta.Goals as goal

pub complete-requires-clause-newest : goal.complete-requires-clause-newest
complete-requires-clause-newest g c =
    let k = marker_kept c.expect.new.self c.cfg_attr_metas.new.p c.in_ok-cfg_attr_metas.ensures.script level_cfg_attr_metas in
    search rules

pub returns : goal.returns
unfolding cfg_attr_meta
returns g c = record {
  script = by_start c.in_ok-m.ensures.state
      (by_bear (search rules) c.in_ok-bump_remap.ensures.state
      (by_bump (search rules) c.in_ok-bump.ensures.state
      (by_rule c.in_ok-cfg_predicate.ensures.script
      (by_expect c.in_ok-expect.ensures.state
      (by_rule c.in_ok-cfg_attr_metas.ensures.script
      (by_expect c.in_ok-expect-2.ensures.state
      (by_complete c.in_ok-complete.ensures.state.0 gives)))))));
}
