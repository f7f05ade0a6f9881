-- The forms after `builtin#`.
-- In the Rust crate: `grammar/expressions/atom.rs`.
use Rattle.std.specs.Prelude.{Bool, [], ◌∷◌, false, codes}
use Rattle.rap_base.specs.TokenKind.{EOF, R_PAREN, DOT, L_PAREN, COMMA, EQ, ASM_KW, GLOBAL_ASM_KW, NAKED_ASM_KW, ERROR, INCLUDE_BYTES_KW, CFG_KW, POUND, BUILTIN_KW, OFFSET_OF_KW, FORMAT_ARGS_KW}
use Rattle.rap_base.specs.Keyword.{is_any_identifier}
use Rattle.rap_base.specs.NodeKind.{FORMAT_ARGS_ARG, INCLUDE_BYTES_EXPR, CFG_PRED_EXPR, OFFSET_OF_EXPR, FORMAT_ARGS_EXPR}
use Rattle.rap_grammar_scripts.specs.Asm.{parse_asm_expr}
use Rattle.rap_grammar_scripts.specs.Names.{name_ref_mod_path_or_index, name_any_identifier}
use Rattle.rap_grammar_scripts.specs.Script.{Script, give, test, again, loop, token, start, finish, abandon, after, nothing, bear, report}
use Rattle.rap_grammar_scripts.specs.Test.{Test, comes, negated, also}
use Rattle.rap_grammar_scripts.specs.ThroughKnot.{type_, expr}
use Rattle.rap_grammar_scripts.specs.Words.{done, expect, ◌▸◌, call, choose, optional, if_some, eat, recur, reads_as, next_so, is_at}
use Rattle.rap_grammar_scripts.specs.declared.rule.Rule.{Rule}
use Rattle.rap_grammar_scripts.specs.declared.rule.Rule.TheVariants as knot

-- the fields on the way to the one whose place is asked for
abbrev pub fields_turn : Bool → Bool → Script Rule
fields_turn a b =
    choose
    ((is_at EOF, done)
    ∷ (is_at R_PAREN, done)
    ∷ [])
    (call name_ref_mod_path_or_index ▸ test (is_at R_PAREN) (give (again a b)) (expect DOT ▸ give (again a b)))

unfoldable pub offset_of_fields : Script Rule
offset_of_fields = loop fields_turn false false

-- a type and fields in it, which may stand in parentheses of their own
unfoldable pub offset_of : Script Rule
offset_of =
    expect L_PAREN ▸ call type_ ▸ expect COMMA ▸
    test (is_at L_PAREN) (token L_PAREN ▸ call offset_of_fields ▸ expect R_PAREN ▸ expect R_PAREN ▸ done)
    (call offset_of_fields ▸ expect R_PAREN ▸ done)

-- a name and an `=` that begins no `==` come next; the name may be a keyword
abbrev pub starts_arg_name : Test
starts_arg_name = also (next_so is_any_identifier) (also (comes 1 EQ) (negated (comes 2 EQ)))

unfoldable pub opt_arg_name : Script Rule
opt_arg_name = optional starts_arg_name (call name_any_identifier ▸ token EQ ▸ done)

-- arguments after the text; the list ends where no expression follows
abbrev pub arguments_turn : Bool → Bool → Script Rule
arguments_turn a b =
    choose
    ((is_at EOF, done)
    ∷ (is_at R_PAREN, done)
    ∷ [])
    (start ▸ call opt_arg_name ▸
    after expr (λ w.
    if_some w (finish FORMAT_ARGS_ARG ▸ test (is_at R_PAREN) (give (again a b)) (expect COMMA ▸ give (again a b)))
    (abandon ▸ done)))

unfoldable pub format_arguments : Script Rule
format_arguments = loop arguments_turn false false

unfoldable pub format_args : Script Rule
format_args =
    expect L_PAREN ▸ call expr ▸
    test (is_at COMMA) (token COMMA ▸ call format_arguments ▸ expect R_PAREN ▸ done) (expect R_PAREN ▸ done)

-- a condition
unfoldable pub cfg : Script Rule
cfg = expect L_PAREN ▸ recur knot.CfgPredicate ▸ eat COMMA ▸ expect R_PAREN ▸ done

-- the name of one of the kinds of inline assembly
unfoldable pub asm_name : Script Rule
asm_name =
    choose
    ((reads_as ASM_KW, bear ASM_KW ▸ done)
    ∷ (reads_as GLOBAL_ASM_KW, bear GLOBAL_ASM_KW ▸ done)
    ∷ (reads_as NAKED_ASM_KW, bear NAKED_ASM_KW ▸ done)
    ∷ [])
    (give nothing)

-- the forms after those that name fields and arguments, from their node on
unfoldable pub other_builtin : Script Rule
other_builtin =
    after asm_name (λ v.
    if_some v parse_asm_expr
    (choose
    ((reads_as INCLUDE_BYTES_KW, bear INCLUDE_BYTES_KW ▸ finish INCLUDE_BYTES_EXPR ▸ done)
    ∷ (reads_as CFG_KW, bear CFG_KW ▸ call cfg ▸ finish CFG_PRED_EXPR ▸ done)
    ∷ [])
    (report (codes "unknown name after `builtin#`") ▸ finish ERROR ▸ give nothing)))

unfoldable pub builtin_expr : Script Rule
builtin_expr =
    start ▸ bear BUILTIN_KW ▸ token POUND ▸
    choose
    ((reads_as OFFSET_OF_KW, bear OFFSET_OF_KW ▸ call offset_of ▸ finish OFFSET_OF_EXPR ▸ done)
    ∷ (reads_as FORMAT_ARGS_KW, bear FORMAT_ARGS_KW ▸ call format_args ▸ finish FORMAT_ARGS_EXPR ▸ done)
    ∷ [])
    other_builtin
