use Rattle.std.proofs.Common.{rules, sym, ◌∙◌}
use Rattle.rap_grammar_scripts.specs.Types.{pattern_type_parts}
use Rattle.rap_grammar_scripts.proofs.Ends.{gives, passes, fails}
use Rattle.rap_grammar_frame.proofs.Steps.{by_bear, by_report, by_rule, by_expect, both, not_both}
use Rattle.rap_grammar_types.proofs.types.pattern_type_parts.Goals.{then-at_contextual_kw+in_ok-bump_remap, else-at_contextual_kw+in_ok-error}
use Rattle.rap_grammar_types.proofs.types.pattern_type_parts.Goals as goal

pub returns : goal.returns
unfolding pattern_type_parts
returns g c = record {
  script = by_expect c.in_ok-expect.ensures.state
      (by_rule c.in_ok-type_.ensures.script
      (elim c.if-at_contextual_kw.branch [
        | then-at_contextual_kw+in_ok-bump_remap w ↦
            passes (both (search rules) (sym c.at_contextual_kw.ensures.here ∙ w.if-at_contextual_kw.true))
            (by_bear (search rules) w.in_ok-bump_remap.ensures.state
            (by_rule (rw w.p-is at c.in_ok-pattern.ensures.script)
            (by_expect c.in_ok-expect-2.ensures.state gives)))
        | else-at_contextual_kw+in_ok-error w ↦
            fails (not_both (λ _. sym c.at_contextual_kw.ensures.here ∙ w.if-at_contextual_kw.false))
            (by_report w.in_ok-error.ensures.state
            (by_rule (rw w.p-is at c.in_ok-pattern.ensures.script)
            (by_expect c.in_ok-expect-2.ensures.state gives)))
      ]));
}
