-- Expressions that begin with a keyword of control flow, or with a label; and closures.
-- In the Rust crate: `grammar/expressions/atom.rs`.
use Rattle.std.specs.Prelude.{[], ◌∷◌, codes}
use Rattle.rap_base.specs.TokenKind.{IF_KW, ELSE_KW, EQ, LET_KW, LOOP_KW, WHILE_KW, FOR_KW, IN_KW, COLON, ERROR, L_CURLY}
use Rattle.rap_base.specs.NodeKind.{IF_EXPR, LET_EXPR, LOOP_EXPR, WHILE_EXPR, FOR_EXPR, LABEL, BLOCK_EXPR}
use Rattle.rap_grammar_scripts.specs.Blocks.{block_expr, stmt_list}
use Rattle.rap_grammar_scripts.specs.Names.{lifetime}
use Rattle.rap_grammar_scripts.specs.Script.{Script, block, test, token, start, finish, nothing, give, report, loop}
use Rattle.rap_grammar_scripts.specs.ThroughKnot.{expr_no_struct, pattern}
use Rattle.rap_grammar_scripts.specs.ThroughKnot as through_knot
use Rattle.rap_grammar_scripts.specs.Words.{◌▸◌, optional, done, call, expect, recur, next_is, choose, is_at}
use Rattle.rap_grammar_scripts.specs.declared.arguments.Restrictions.{Restrictions}
use Rattle.rap_grammar_scripts.specs.declared.rule.Rule.{Rule}
use Rattle.rap_grammar_scripts.specs.declared.rule.Rule.TheVariants as knot

-- what stands after the block of an `if`, if it has an `else`
unfoldable pub else_branch : Script Rule
else_branch = optional (is_at ELSE_KW) (token ELSE_KW ▸ test (is_at IF_KW) through_knot.if_expr block_expr)

unfoldable pub if_expr : Script Rule
if_expr = start ▸ token IF_KW ▸ call expr_no_struct ▸ call block_expr ▸ call else_branch ▸ finish IF_EXPR ▸ done

-- a condition that binds, as `let a = b`
unfoldable pub let_expr : Restrictions → Script Rule
let_expr r = start ▸ token LET_KW ▸ call pattern ▸ expect EQ ▸ recur (knot.ExprBp r 5) ▸ finish LET_EXPR ▸ done

-- the loops, each from its node on
unfoldable pub loop_from : Script Rule
loop_from = token LOOP_KW ▸ call block_expr ▸ finish LOOP_EXPR ▸ done

unfoldable pub while_from : Script Rule
while_from = token WHILE_KW ▸ call expr_no_struct ▸ call block_expr ▸ finish WHILE_EXPR ▸ done

unfoldable pub for_from : Script Rule
for_from = token FOR_KW ▸ call pattern ▸ expect IN_KW ▸ call expr_no_struct ▸ call block_expr ▸ finish FOR_EXPR ▸ done

unfoldable pub loop_expr : Script Rule
loop_expr = start ▸ loop_from

unfoldable pub while_expr : Script Rule
while_expr = start ▸ while_from

unfoldable pub for_expr : Script Rule
for_expr = start ▸ for_from

unfoldable pub label : Script Rule
label = start ▸ call lifetime ▸ token COLON ▸ finish LABEL ▸ done

-- what a label may name, from its node on
unfoldable pub labelled_from : Script Rule
labelled_from =
    choose
    ((next_is LOOP_KW, call loop_from ▸ give block)
    ∷ (next_is FOR_KW, call for_from ▸ give block)
    ∷ (next_is WHILE_KW, call while_from ▸ give block)
    ∷ (next_is L_CURLY, call stmt_list ▸ finish BLOCK_EXPR ▸ give block)
    ∷ [])
    (report (codes "expected a loop or block") ▸ finish ERROR ▸ give nothing)

-- a loop or a block after its label
unfoldable pub labelled_expr : Script Rule
labelled_expr = start ▸ call label ▸ labelled_from
