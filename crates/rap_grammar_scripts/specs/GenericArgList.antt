-- Lists of generic arguments.
-- In the Rust crate: `grammar/generic_args.rs`.
use Rattle.std.specs.Prelude.{codes}
use Rattle.rap_base.specs.TokenKind.{COMMA, L_ANGLE, R_ANGLE, COLON2}
use Rattle.rap_base.specs.NodeKind.{GENERIC_ARG_LIST}
use Rattle.rap_grammar_scripts.specs.First.{is_generic_arg_first, starts_expr_args}
use Rattle.rap_grammar_scripts.specs.Lists.{delimited}
use Rattle.rap_grammar_scripts.specs.Script.{Script, finish, token, start}
use Rattle.rap_grammar_scripts.specs.ThroughKnot.{generic_arg_element}
use Rattle.rap_grammar_scripts.specs.Words.{done, ◌▸◌, call, optional}
use Rattle.rap_grammar_scripts.specs.declared.rule.Rule.{Rule}

-- arguments in angle brackets, whose node is open
unfoldable pub generic_arg_list : Script Rule
generic_arg_list =
    call (delimited generic_arg_element L_ANGLE R_ANGLE COMMA (codes "expected generic argument") is_generic_arg_first)
    ▸ finish GENERIC_ARG_LIST ▸ done

-- the arguments after a name in an expression
unfoldable pub opt_generic_arg_list_expr : Script Rule
opt_generic_arg_list_expr = optional starts_expr_args (start ▸ token COLON2 ▸ generic_arg_list)
