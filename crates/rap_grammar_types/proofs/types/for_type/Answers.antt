use Rattle.rap_grammar_scripts.specs.Types.{for_type}
use Rattle.rap_grammar_frame.proofs.Steps.{by_report, by_start, by_rule, to_end, else_by}
use Rattle.rap_grammar_types.proofs.types.for_type.Goals as goal

pub returns : goal.returns
unfolding for_type
returns g c = record {
  script = by_start c.in_ok-m.ensures.state
      (by_rule c.in_ok-for_binder.ensures.script
      (else_by c.starts_for_target.ensures c.if-starts_for_target.false
      (by_report c.in_ok-error.ensures.state (to_end c.in_ok-for_target-2.ensures.script))));
}
