-- Statements.
-- In the Rust crate: `grammar/expressions.rs`.
use Rattle.std.specs.Prelude.{Bool, true, false, codes}
use Rattle.rap_base.specs.TokenKind.{SEMICOLON, EOF, R_CURLY}
use Rattle.rap_base.specs.NodeKind.{EXPR_STMT, LET_STMT}
use Rattle.rap_grammar_scripts.specs.Attributes.{outer_attrs}
use Rattle.rap_grammar_scripts.specs.Blocks.{let_stmt, starts_let}
use Rattle.rap_grammar_scripts.specs.Expressions.{expr_from}
use Rattle.rap_grammar_scripts.specs.First.{is_expr_first}
use Rattle.rap_grammar_scripts.specs.Items.{opt_item}
use Rattle.rap_grammar_scripts.specs.Script.{Script, after, test, precede, finish, skip, abandon, token, start}
use Rattle.rap_grammar_scripts.specs.Test.{Test, or_else}
use Rattle.rap_grammar_scripts.specs.ThroughKnot.{as_statement}
use Rattle.rap_grammar_scripts.specs.Words.{is_block, done, eat, expect, ◌▸◌, call, if_some, next_so, is_at}
use Rattle.rap_grammar_scripts.specs.declared.arguments.Semicolon.{Semicolon}
use Rattle.rap_grammar_scripts.specs.declared.arguments.Semicolon.TheVariants as semicolon
use Rattle.rap_grammar_scripts.specs.declared.rule.Rule.{Rule}

-- the semicolon after an expression, which one that reads like a block may do without
unfoldable pub expr_semicolon : Semicolon → Bool → Script Rule
expr_semicolon semicolon.Required true = eat SEMICOLON done
expr_semicolon semicolon.Required false = expect SEMICOLON done
expr_semicolon semicolon.Optional is_block = eat SEMICOLON done
expr_semicolon semicolon.Forbidden is_block = done

-- An expression ends its block here: a brace that closes comes next, or where a semicolon may be missing, nothing does.
abbrev pub ends_block : Semicolon → Test
ends_block semicolon.Required = is_at R_CURLY
ends_block semicolon.Optional = or_else (is_at R_CURLY) (is_at EOF)
ends_block semicolon.Forbidden = or_else (is_at R_CURLY) (is_at EOF)

-- An expression as a statement, unless it ends its block.
unfoldable pub expr_stmt_end : Semicolon → Bool → Script Rule
expr_stmt_end semi is_block =
    test (ends_block semi) done (precede ▸ call (expr_semicolon semi is_block) ▸ finish EXPR_STMT ▸ done)

-- an expression from the newest node on, as a statement or as the value of the block
unfoldable pub expr_as_stmt : Semicolon → Script Rule
expr_as_stmt semi =
    test (next_so is_expr_first)
    (after (expr_from as_statement 1) (λ v. if_some v (expr_stmt_end semi (is_block v)) done))
    (skip (codes "expected expression, item or let statement") ▸ abandon ▸ done)

-- a statement
unfoldable pub stmt : Semicolon → Script Rule
stmt semi =
    test (is_at SEMICOLON) (token SEMICOLON ▸ done)
    (start ▸ call outer_attrs ▸
    test starts_let (call (let_stmt semi) ▸ finish LET_STMT ▸ done)
    (after (opt_item false) (λ w. if_some w done (expr_as_stmt semi))))
