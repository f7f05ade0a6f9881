use Rattle.std.proofs.Common.{rules, ◌≡◌, refl, false}
use Rattle.rap_base.specs.TokenKind.{FLOAT_NUMBER}
use Rattle.rap_events.specs.State.{state, next}
use Rattle.rap_grammar_scripts.specs.Postfix.{is_range}
use Rattle.rap_grammar_scripts.specs.Test.{holds}
use Rattle.rap_grammar_scripts.proofs.Ends.{gives, passes, fails}
use Rattle.rap_grammar_frame.proofs.Steps.{turn, by_split_dotted, by_precede}
use Rattle.rap_grammar_expressions_operands.proofs.postfix.after_dot.Goals as goal

pub fields-preserved : goal.fields-preserved
fields-preserved g c =
    let float : next (state c.fields.p) ≡ FLOAT_NUMBER = search rules in
    let range : holds is_range (state c.split_float.new.self).rest ≡ false =
    rw (← c.at.ensures, c.if-at.false, ← c.at-else-at.ensures, c.if-at-2.false) refl in
    record {
      newest = search rules;
      left = search rules;
      script =
          turn c.fields.invariant.script
          (passes (rw float refl)
          (by_split_dotted float c.in_ok-ends_in_dot.ensures.state.0 (search rules)
          (fails range (by_precede c.in_ok-ends_in_dot.ensures.state.1 c.in_ok-m.ensures.state gives)))) (search rules);
    }
