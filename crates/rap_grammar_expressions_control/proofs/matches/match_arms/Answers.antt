use Rattle.std.proofs.Common.{false, arith}
use Rattle.rap_grammar_frame.proofs.Steps.{turn}
use Rattle.rap_grammar_facts.proofs.Matches.{onward_arms_turn}
use Rattle.rap_grammar_expressions_control.proofs.matches.match_arms.Goals as goal

pub arms-preserved : goal.arms-preserved
arms-preserved g c =
    let s = rw c.if-not-more.false at c.in_ok-more.ensures.script in
    let l = onward_arms_turn false false _ _ s in
    record {
      left = omega (arith, l, c.arms.invariant.left);
      script = turn c.arms.invariant.script s l;
    }

pub arms-smaller : goal.arms-smaller
arms-smaller g c =
    onward_arms_turn false false _ _ (rw c.if-not-more.false at c.in_ok-more.ensures.script)
