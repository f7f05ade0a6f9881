use Rattle.std.proofs.Common.{rules}
use Rattle.rap_grammar_frame.proofs.Patterning.{by_rest_pat}
use Rattle.rap_grammar_scripts.proofs.Ends.{passes}
use Rattle.rap_grammar_frame.proofs.Steps.{to_end, turn, else_by}
use Rattle.rap_grammar_facts.proofs.Patterns.{moved_tuple_element}
use Rattle.rap_grammar_patterns.proofs.patterns.tuple_patterns.Goals as goal

pub patterns-smaller : goal.patterns-smaller
patterns-smaller g c = moved_tuple_element _ _ _ c.in_ok-is_tuple.ensures.script (search rules)

pub patterns-preserved : goal.patterns-preserved
patterns-preserved g c =
    let l = moved_tuple_element _ _ _ c.in_ok-is_tuple.ensures.script (search rules) in
    record {
      left = search rules;
      script = turn c.patterns.invariant.script
          (else_by c.at.ensures c.patterns-test.true
          (else_by c.at-in-patterns.ensures c.if-not-at.true
          (passes (search rules)
          (by_rest_pat c.is_rest_pat.ensures (to_end c.in_ok-is_tuple.ensures.script))))) l;
    }
