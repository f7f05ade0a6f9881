-- Blocks, and the `let` statements in them.
-- In the Rust crate: `grammar/expressions/atom.rs`, `grammar/expressions.rs` and `grammar.rs`.
use Rattle.std.specs.Prelude.{List, ℕ, Bool, false, codes, [], ◌∷◌}
use Rattle.rap_base.specs.TokenKind.{EOF, ERROR, COLON, SEMICOLON, EQ, L_CURLY, R_CURLY, ELSE_KW, LET_KW, SUPER_KW}
use Rattle.rap_base.specs.NodeKind.{STMT_LIST, BLOCK_EXPR, LET_ELSE}
use Rattle.rap_grammar_scripts.specs.Attributes.{inner_attrs}
use Rattle.rap_grammar_scripts.specs.Test.{Test, comes, also, or_else}
use Rattle.rap_grammar_scripts.specs.ThroughKnot.{expr, pattern, ascription}
use Rattle.rap_grammar_scripts.specs.declared.rule.Rule.{Rule}
use Rattle.rap_grammar_scripts.specs.declared.rule.Rule.TheVariants as knot
use Rattle.rap_grammar_scripts.specs.Script.{Script, Outcome, give, test, ends_with, token, report, start, finish, after, loop, again}
use Rattle.rap_grammar_scripts.specs.Words.{done, if_some, eat, expect, ◌▸◌, call, recur, choose, optional, only_if, is_at}
use Rattle.rap_grammar_scripts.specs.declared.arguments.Semicolon.{Semicolon}
use Rattle.rap_grammar_scripts.specs.declared.arguments.Semicolon.TheVariants as semicolon

abbrev pub contents_turn : Bool → Bool → Script Rule
contents_turn a b =
    choose ((is_at EOF, done) ∷ (is_at R_CURLY, done) ∷ []) (recur (knot.Stmt semicolon.Required) ▸ give (again a b))

-- the statements of a block
unfoldable pub statements : Script Rule
statements = loop contents_turn false false

-- what stands in the braces of a block
unfoldable pub expr_block_contents : Script Rule
expr_block_contents = call inner_attrs ▸ statements

-- the braces with it
unfoldable pub stmt_list : Script Rule
stmt_list = start ▸ token L_CURLY ▸ call expr_block_contents ▸ expect R_CURLY ▸ finish STMT_LIST ▸ done

unfoldable pub block_expr : Script Rule
block_expr =
    test (is_at L_CURLY) (start ▸ call stmt_list ▸ finish BLOCK_EXPR ▸ done) (report (codes "expected a block") ▸ done)

-- a block where none may be
unfoldable pub error_block : List ℕ → Script Rule
error_block message =
    start ▸ report message ▸ token L_CURLY ▸ call expr_block_contents ▸ eat R_CURLY ▸ finish ERROR ▸ done

-- a `let` comes next, or a `super let`
abbrev pub starts_let : Test
starts_let = or_else (is_at LET_KW) (also (is_at SUPER_KW) (comes 1 LET_KW))

-- its type, if it has one
unfoldable pub let_type : Script Rule
let_type = optional (is_at COLON) (call ascription ▸ done)

-- its value, if it has one: something where an expression is there
unfoldable pub let_value : Script Rule
let_value = only_if (is_at EQ) (token EQ ▸ after expr (λ v. give v))

-- a value before an `else` must not end with a brace
unfoldable pub value_before_else : Outcome → Script Rule
value_before_else value =
    if_some value
    (ends_with R_CURLY
    (report (codes "right curly brace `}` before `else` in a `let...else` statement not allowed") ▸ done)
    done)
    done

-- the block after an `else`
unfoldable pub else_block : Script Rule
else_block = start ▸ token ELSE_KW ▸ call block_expr ▸ finish LET_ELSE ▸ done

-- an `else` after this value, if there is one
unfoldable pub let_else : Outcome → Script Rule
let_else value = optional (is_at ELSE_KW) (call (value_before_else value) ▸ else_block)

-- the semicolon of a `let` statement
unfoldable pub let_end : Semicolon → Script Rule
let_end semicolon.Required = expect SEMICOLON done
let_end semicolon.Optional = eat SEMICOLON done
let_end semicolon.Forbidden = done

-- a `let` statement under the newest node
unfoldable pub let_stmt : Semicolon → Script Rule
let_stmt with_semi =
    eat SUPER_KW ▸ token LET_KW ▸ call pattern ▸ call let_type ▸
    after let_value (λ value. call (let_else value) ▸ let_end with_semi)

-- the same where none may be
unfoldable pub error_let_stmt : List ℕ → Script Rule
error_let_stmt message = start ▸ report message ▸ call (let_stmt semicolon.Optional) ▸ finish ERROR ▸ done
