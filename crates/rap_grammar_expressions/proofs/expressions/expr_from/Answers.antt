use Rattle.std.proofs.Common.{rules}
use Rattle.rap_grammar_facts.proofs.Operators.{grew_climb}
use Rattle.rap_grammar_expressions.proofs.Atoms.{taken, extended, operated}
use Rattle.rap_grammar_expressions.proofs.expressions.expr_from.Goals as goal

pub returns-then-is_block-clause-answered : goal.returns-then-is_block-clause-answered
returns-then-is_block-clause-answered g c =
    let t = taken _ _ _ _ c.in_ok-lhs.ensures.script c.in_ok-lhs.ensures.atom in
    let e = c.in_ok-lhs-2.ensures.state in
    (extended _ _ _ _ _ t e.0 e.1, search rules)

pub returns-clause-answered : goal.returns-clause-answered
returns-clause-answered g c =
    let t = taken _ _ _ _ c.in_ok-lhs.ensures.script c.in_ok-lhs.ensures.atom in
    let w = c.in_ok-cm.ensures in
    (operated _ _ _ _ _ _ t c.in_ok-lhs-2.ensures.state.0 (grew_climb _ _ _ _ w.script) w.last w.one, search rules)
