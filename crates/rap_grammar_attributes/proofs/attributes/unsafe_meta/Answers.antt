use Rattle.std.proofs.Common.{rules}
use Rattle.rap_grammar_scripts.specs.Attributes.{unsafe_meta}
use Rattle.rap_grammar_scripts.specs.declared.rule.Rule.TheVariants as knot
use Rattle.rap_grammar_scripts.proofs.Ends.{gives}
use Rattle.rap_grammar_frame.proofs.Steps.{by_start, by_bump, by_expect, by_part, by_complete}
use Rattle.rap_grammar_attributes.proofs.attributes.unsafe_meta.Goals as goal

pub returns : goal.returns
unfolding unsafe_meta
returns g c = record {
  script = by_start c.in_ok-m.ensures.state
      (by_bump (search rules) c.in_ok-bump.ensures.state
      (by_expect c.in_ok-expect.ensures.state
      (by_part knot.Meta c.in_ok-run.ensures.1
      (by_expect c.in_ok-expect-2.ensures.state
      (by_complete c.in_ok-complete.ensures.state.0 gives)))));
}
