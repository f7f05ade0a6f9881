use Rattle.std.proofs.Common.{rules}
use Rattle.std.proofs.lemmas.Result.{IfOk-weaker}
use Rattle.rap_grammar_scripts.specs.Knot.{script_of}
use Rattle.rap_grammar.proofs.Depth.{expr_post, generic_arg_post, more}
use Rattle.rap_grammar.proofs.knot.+run.Goals as goal

pub returns-in-Expr : goal.returns-in-Expr
unfolding script_of
returns-in-Expr t c = rw c.in-Expr.is (expr_post (search rules) c.args.r c.args.bp _ _ _ c.expr_bp.ensures.answered c.expr_bp.ensures.script)

pub returns-in_ok-generic_arg-in-GenericArg : goal.returns-in_ok-generic_arg-in-GenericArg
returns-in_ok-generic_arg-in-GenericArg t c = rw c.in-GenericArg.is
    (generic_arg_post (search rules) _ _ (rw c.in-GenericArg.is at c.requires) c.in_ok-generic_arg-in-GenericArg.ensures.script)

pub call-returns : goal.call-returns
call-returns t c = IfOk-weaker _ _ _ (more _ _ c.requires.left _ _ _) c.run_brief.ensures
