use Rattle.std.proofs.Common.{rules}
use Rattle.rap_grammar_scripts.specs.Control.{let_expr}
use Rattle.rap_grammar_scripts.proofs.Ends.{gives}
use Rattle.rap_grammar_frame.proofs.Steps.{by_start, by_bump, by_rule, by_expect, by_expression, by_complete}
use Rattle.rap_grammar_expressions_control.proofs.control.let_expr.Goals as goal

pub returns-clause-script : goal.returns-clause-script
unfolding let_expr
returns-clause-script g c = by_start c.in_ok-m.ensures.state
    (by_bump (search rules) c.in_ok-bump.ensures.state
    (by_rule c.in_ok-pattern.ensures.script
    (by_expect c.in_ok-expect.ensures.state
    (by_expression c.in_ok-run.ensures.1
    (by_complete c.in_ok-cm.ensures.state.0 gives)))))
