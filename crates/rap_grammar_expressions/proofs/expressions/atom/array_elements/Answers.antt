use Rattle.std.proofs.Common.{rules}
use Rattle.rap_grammar_frame.proofs.Steps.{else_by, by_rule, to_end, turn, answers_something}
use Rattle.rap_grammar_facts.proofs.Alone.{alone_less_left}
use Rattle.rap_grammar_expressions.proofs.expressions.atom.array_elements.Goals as goal

pub elements-preserved : goal.elements-preserved
elements-preserved g c =
    let l = alone_less_left _ _ c.in_ok-semi.ensures.script in
    record {
      left = search rules;
      script = turn c.elements.invariant.script
          (else_by c.at.ensures c.elements-test.true
          (else_by c.at-in-elements.ensures c.if-not-at.true
          (by_rule (answers_something (search rules) c.in_ok-expr.ensures.script)
          (to_end (rw c.in-Some.is at (c.in_ok-semi.ensures.script.at (g.G.Grammar.left c.args.g.now))))))) (search rules);
    }
