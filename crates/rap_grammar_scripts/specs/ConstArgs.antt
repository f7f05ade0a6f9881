-- Constants as generic arguments.
-- In the Rust crate: `grammar/generic_args.rs`.
use Rattle.std.specs.Prelude.{codes, [], ◌∷◌}
use Rattle.rap_base.specs.TokenKind.{L_CURLY, MINUS}
use Rattle.rap_base.specs.NodeKind.{PREFIX_EXPR, PATH_EXPR, CONST_ARG}
use Rattle.rap_grammar_scripts.specs.Literals.{literal}
use Rattle.rap_grammar_scripts.specs.Blocks.{block_expr}
use Rattle.rap_grammar_scripts.specs.First.{is_literal_first, is_path_start}
use Rattle.rap_grammar_scripts.specs.Paths.{expr_path}
use Rattle.rap_grammar_scripts.specs.declared.rule.Rule.{Rule}
use Rattle.rap_grammar_scripts.specs.Recovery.{is_generic_arg_recovery}
use Rattle.rap_grammar_scripts.specs.Script.{Script, token, start, finish}
use Rattle.rap_grammar_scripts.specs.Words.{done, next_is, recover, ◌▸◌, call, choose, next_so}

unfoldable pub negative_const : Script Rule
negative_const = start ▸ token MINUS ▸ call literal ▸ finish PREFIX_EXPR ▸ done

unfoldable pub const_path : Script Rule
const_path = start ▸ call expr_path ▸ finish PATH_EXPR ▸ done

unfoldable pub missing_const : Script Rule
missing_const = recover (codes "expected a generic const argument") is_generic_arg_recovery done done

unfoldable pub const_arg_expr : Script Rule
const_arg_expr =
    choose
    ((next_is L_CURLY, block_expr)
    ∷ (next_so is_literal_first, call literal ▸ done)
    ∷ (next_is MINUS, negative_const)
    ∷ (is_path_start, const_path)
    ∷ [])
    missing_const

unfoldable pub const_arg : Script Rule
const_arg = start ▸ call const_arg_expr ▸ finish CONST_ARG ▸ done
