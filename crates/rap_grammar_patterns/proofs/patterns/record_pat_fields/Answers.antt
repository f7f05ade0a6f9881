use Rattle.std.proofs.Common.{◌∙◌, false, sym, arith}
use Rattle.rap_grammar_frame.proofs.Steps.{turn}
use Rattle.rap_grammar_facts.proofs.Patterns.{inside_record_pat_turn}
use Rattle.rap_grammar_patterns.proofs.patterns.record_pat_fields.Goals as goal

pub fields-smaller : goal.fields-smaller
fields-smaller g c =
    inside_record_pat_turn false false _ _ c.in_ok-record_pat_turn.ensures.script
    (sym c.at.ensures ∙ c.fields-test.true) (sym c.at-in-fields.ensures ∙ c.if-not-at.true)

pub fields-preserved : goal.fields-preserved
fields-preserved g c =
    let l =
    inside_record_pat_turn false false _ _ c.in_ok-record_pat_turn.ensures.script
    (sym c.at.ensures ∙ c.fields-test.true) (sym c.at-in-fields.ensures ∙ c.if-not-at.true) in
    record {
      left = omega (arith, l, c.fields.invariant.left);
      script = turn c.fields.invariant.script c.in_ok-record_pat_turn.ensures.script l;
    }
