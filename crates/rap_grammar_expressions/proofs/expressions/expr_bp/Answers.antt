use Rattle.rap_grammar_scripts.specs.Expressions.{expr_bp}
use Rattle.rap_grammar_frame.proofs.Steps.{by_start, by_rule}
use Rattle.rap_grammar_expressions.proofs.Missing.{answered}
use Rattle.rap_grammar_expressions.proofs.expressions.expr_bp.Goals as goal

pub returns-clause-answered : goal.returns-clause-answered
unfolding expr_bp
returns-clause-answered g c =
    answered c.args.r c.args.bp _ _ _
    (by_start c.in_ok-m.ensures.state (by_rule c.in_ok-outer_attrs.ensures.script c.in_ok-expr.ensures.script))
    c.in_ok-m.ensures.state c.in_ok-outer_attrs.ensures.grew c.in_ok-expr.ensures.answered
