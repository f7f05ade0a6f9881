use Rattle.std.proofs.Common.{rules, arith}
use Rattle.rap_grammar_scripts.proofs.Ends.{gives}
use Rattle.rap_grammar_frame.proofs.Done.{less_left}
use Rattle.rap_grammar_frame.proofs.Steps.{then_by, by_precede, by_bump, by_rule, by_complete, turn}
use Rattle.rap_grammar_paths.proofs.paths.path_for_qualifier.Goals as goal

pub segments-preserved : goal.segments-preserved
segments-preserved g c =
    let l = less_left _ _ c.in_ok-path_segment.ensures.script in
    let r = c.in_ok-path.ensures.state.recorded in
    let b = c.in_ok-bump.ensures.state in
    let q = c.in_ok-qual.ensures.state.0.recorded in
    record {
      left = omega (arith, l, r.left, b.left, q.left, c.segments.invariant.left);
      last = search rules;
      script = turn c.segments.invariant.script
          (then_by c.has_segment.ensures.segment c.segments-test.true
          (by_precede c.segments.invariant.last c.in_ok-path.ensures.state
          (by_bump (rw r.rest (c.has_segment.ensures.here c.segments-test.true)) b
          (by_rule c.in_ok-path_segment.ensures.script (by_complete c.in_ok-qual.ensures.state.0 gives)))))
          (omega (arith, l, r.left, b.left, q.left));
    }
