use Rattle.std.proofs.Common.{rules}
use Rattle.rap_grammar_scripts.proofs.Ends.{gives}
use Rattle.rap_grammar_frame.proofs.Steps.{then_by, else_by, by_rule, by_report, by_bump, by_expect, turn, answers_something}
use Rattle.rap_grammar_expressions.proofs.expressions.atom.tuple_elements.Goals as goal

pub elements-preserved-then-at : goal.elements-preserved-then-at
elements-preserved-then-at g c = record {
  left = search rules;
  script = turn c.elements.invariant.script
      (else_by c.at.ensures c.elements-test.true
      (else_by c.at-in-elements.ensures c.if-not-at.true
      (then_by c.at-in-elements-2.ensures c.if-at.true
      (by_report c.in_ok-error.ensures.state
      (by_bump (search rules) c.in_ok-bump.ensures.state gives))))) (search rules);
}

pub elements-preserved-in_ok-expect : goal.elements-preserved-in_ok-expect
elements-preserved-in_ok-expect g c = record {
  left = search rules;
  script = turn c.elements.invariant.script
      (else_by c.at.ensures c.elements-test.true
      (else_by c.at-in-elements.ensures c.if-not-at.true
      (else_by c.at-in-elements-2.ensures c.if-at.false
      (by_rule (answers_something (search rules) c.in_ok-expr.ensures.script)
      (else_by c.at-in-elements-3.ensures c.if-not-at-2.true
      (by_expect c.in_ok-expect.ensures.state gives)))))) (search rules);
}

pub elements-preserved : goal.elements-preserved
elements-preserved g c = record {
  left = search rules;
  script = turn c.elements.invariant.script
      (else_by c.at.ensures c.elements-test.true
      (else_by c.at-in-elements.ensures c.if-not-at.true
      (else_by c.at-in-elements-2.ensures c.if-at.false
      (by_rule (answers_something (search rules) c.in_ok-expr.ensures.script)
      (then_by c.at-in-elements-3.ensures c.if-not-at-2.false gives))))) (search rules);
}
