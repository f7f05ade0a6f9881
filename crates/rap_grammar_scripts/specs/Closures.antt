-- Closures.
-- In the Rust crate: `grammar/expressions/atom.rs`.
use Rattle.std.specs.Prelude.{Bool, codes, false}
use Rattle.rap_base.specs.TokenKind.{FOR_KW, CONST_KW, STATIC_KW, ASYNC_KW, GEN_KW, MOVE_KW, R_ANGLE, PIPE}
use Rattle.rap_base.specs.NodeKind.{CLOSURE_EXPR}
use Rattle.rap_grammar_scripts.specs.Blocks.{block_expr}
use Rattle.rap_grammar_scripts.specs.First.{is_expr_first}
use Rattle.rap_grammar_scripts.specs.Params.{param_list_closure}
use Rattle.rap_grammar_scripts.specs.Script.{Script, give, skip, after, again, loop, test, report, start, finish}
use Rattle.rap_grammar_scripts.specs.ThroughKnot.{for_binder, expr, opt_ret_type}
use Rattle.rap_grammar_scripts.specs.Words.{optional, done, eat, ◌▸◌, if_some, call, next_so, is_at}
use Rattle.rap_grammar_scripts.specs.declared.rule.Rule.{Rule}

-- what stands before the parameters of a closure: its lifetimes, and its keywords in their order
unfoldable pub closure_binder : Script Rule
closure_binder = optional (is_at FOR_KW) for_binder

unfoldable pub closure_keywords : Script Rule
closure_keywords = eat CONST_KW ▸ eat STATIC_KW ▸ eat ASYNC_KW ▸ eat GEN_KW ▸ eat MOVE_KW ▸ done

-- angle brackets after a closure's type that nothing opened
abbrev pub angles_turn : Bool → Bool → Script Rule
angles_turn a b = optional (is_at R_ANGLE) (skip (codes "expected a curly brace") ▸ give (again a b))

unfoldable pub closing_angles : Script Rule
closing_angles = loop angles_turn false false

-- the body of a closure: a block after a return type
unfoldable pub closure_body : Script Rule
closure_body =
    after opt_ret_type (λ v.
    if_some v (call closing_angles ▸ block_expr)
    (test (next_so is_expr_first) (call expr ▸ done) (report (codes "expected expression") ▸ done)))

unfoldable pub closure_expr : Script Rule
closure_expr =
    start ▸ call closure_binder ▸ call closure_keywords ▸
    test (is_at PIPE) (call param_list_closure ▸ call closure_body ▸ finish CLOSURE_EXPR ▸ done)
    (report (codes "expected `|`") ▸ finish CLOSURE_EXPR ▸ done)
