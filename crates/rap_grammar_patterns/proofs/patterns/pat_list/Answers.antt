use Rattle.std.proofs.Common.{rules}
use Rattle.rap_grammar_frame.proofs.Patterning.{took_before}
use Rattle.rap_grammar_scripts.proofs.Ends.{gives, passes}
use Rattle.rap_grammar_frame.proofs.Steps.{by_report_next, by_rule, turn, else_by, ate, not_ate}
use Rattle.rap_grammar_patterns.proofs.patterns.pat_list.Goals as goal

pub patterns-preserved-then-branch : goal.patterns-preserved-then-branch
patterns-preserved-then-branch g c = record {
  left = search rules;
  script = turn c.patterns.invariant.script
      (else_by c.at.ensures c.patterns-test.true
      (else_by c.at-in-patterns.ensures c.if-not-at.true
      (by_rule c.in_ok-pattern.ensures.script
      (ate c.in_ok-eat.ensures.state c.if-branch.true gives)))) (search rules);
}

pub patterns-smaller : goal.patterns-smaller
patterns-smaller g c =
    let t = took_before c.in_ok-pattern.ensures.reads c.in_ok-eat.ensures.state c.if-branch.false (search rules) in
    search rules

pub patterns-preserved : goal.patterns-preserved
patterns-preserved g c =
    let t = took_before c.in_ok-pattern.ensures.reads c.in_ok-eat.ensures.state c.if-branch.false (search rules) in
    record {
      left = search rules;
      script = turn c.patterns.invariant.script
          (else_by c.at.ensures c.patterns-test.true
          (else_by c.at-in-patterns.ensures c.if-not-at.true
          (by_rule c.in_ok-pattern.ensures.script
          (not_ate c.in_ok-eat.ensures.state c.if-branch.false
          (passes (search rules)
          (by_report_next c.in_ok-error_with_kind.ensures.state gives)))))) (search rules);
    }
