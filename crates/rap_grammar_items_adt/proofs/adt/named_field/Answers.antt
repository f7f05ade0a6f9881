use Rattle.rap_grammar_scripts.specs.Adt.{named_field}
use Rattle.rap_grammar_scripts.proofs.Ends.{gives}
use Rattle.rap_grammar_frame.proofs.Steps.{by_abandon, by_complete, by_expect, by_rule, else_by, then_by, to_end}
use Rattle.rap_grammar_items_adt.proofs.adt.named_field.Goals as goal

pub returns-then-at : goal.returns-then-at
unfolding named_field
returns-then-at g c = record {
  script = then_by c.at.ensures c.if-at.true
      (by_rule (c.in_ok-name.ensures.script _)
      (by_expect c.in_ok-expect.ensures.state
      (by_rule c.in_ok-type_.ensures.script
      (by_rule c.in_ok-opt_value.ensures.script
      (by_complete c.in_ok-complete.ensures.state.0 gives)))));
}

pub returns : goal.returns
unfolding named_field
returns g c = record {
  script = else_by c.at.ensures c.if-at.false
      (by_abandon c.in_ok-abandon.ensures.state
      (to_end (c.in_ok-missing_in_list.ensures.script.at _)));
}
