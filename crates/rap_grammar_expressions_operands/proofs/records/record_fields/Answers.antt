use Rattle.std.proofs.Common.{sym, ◌∙◌, arith}
use Rattle.rap_grammar_scripts.proofs.Ends.{gives}
use Rattle.rap_grammar_frame.proofs.Steps.{else_by, by_rule, by_expect, turn}
use Rattle.rap_grammar_facts.proofs.Records.{inside_record_field}
use Rattle.rap_grammar_expressions_operands.proofs.records.record_fields.Goals as goal

pub fields-preserved-in_ok-expect : goal.fields-preserved-in_ok-expect
fields-preserved-in_ok-expect g c =
    let l =
    inside_record_field _ _ c.in_ok-record_field.ensures.script (sym c.at.ensures ∙ c.fields-test.true)
    (sym c.at-in-fields.ensures ∙ c.if-not-at.true) in
    record {
      left = omega (arith, l, c.in_ok-expect.ensures.state.left, c.fields.invariant.left);
      script = turn c.fields.invariant.script
          (else_by c.at.ensures c.fields-test.true
          (else_by c.at-in-fields.ensures c.if-not-at.true
          (by_rule c.in_ok-record_field.ensures.script
          (else_by c.at-in-fields-2.ensures c.if-not-at-2.true
          (by_expect c.in_ok-expect.ensures.state gives))))) (omega (arith, l, c.in_ok-expect.ensures.state.left));
    }

pub fields-smaller-in_ok-expect : goal.fields-smaller-in_ok-expect
fields-smaller-in_ok-expect g c =
    let l =
    inside_record_field _ _ c.in_ok-record_field.ensures.script (sym c.at.ensures ∙ c.fields-test.true)
    (sym c.at-in-fields.ensures ∙ c.if-not-at.true) in
    omega (arith, l, c.in_ok-expect.ensures.state.left)
