-- What follows an operand: calls, indexes, fields, `?`.
-- In the Rust crate: `grammar/expressions.rs`.
use Rattle.std.specs.Prelude.{codes, Bool, [], ◌∷◌, false, true, if◌then◌else◌}
use Rattle.rap_base.specs.TokenKind.{COMMA, L_PAREN, R_PAREN, L_BRACK, R_BRACK, QUESTION, COLON2, AWAIT_KW, DOT2, DOT2EQ, FLOAT_NUMBER, DOT}
use Rattle.rap_base.specs.NodeKind.{ARG_LIST, CALL_EXPR, INDEX_EXPR, TRY_EXPR, METHOD_CALL_EXPR, AWAIT_EXPR, FIELD_EXPR}
use Rattle.rap_grammar_scripts.specs.First.{is_expr_first, is_path_name, is_path_name_or_index}
use Rattle.rap_grammar_scripts.specs.GenericArgList.{opt_generic_arg_list_expr}
use Rattle.rap_grammar_scripts.specs.Lists.{delimited}
use Rattle.rap_grammar_scripts.specs.Names.{name_ref_mod_path, name_ref_mod_path_or_index}
use Rattle.rap_grammar_scripts.specs.Script.{Script, start, finish, precede, token, after, test, report, nothing, give, split_float, again, loop, something, block}
use Rattle.rap_grammar_scripts.specs.Test.{Test, comes, negated, also, or_else, told}
use Rattle.rap_grammar_scripts.specs.ThroughKnot.{expr}
use Rattle.rap_grammar_scripts.specs.Words.{done, ◌▸◌, call, expect, next_is, choose, if_some, is_block, next_so, kind_is, is_at}
use Rattle.rap_grammar_scripts.specs.declared.rule.Rule.{Rule}

unfoldable pub arg_list : Script Rule
arg_list =
    start ▸ call (delimited expr L_PAREN R_PAREN COMMA (codes "expected expression") is_expr_first) ▸ finish ARG_LIST ▸
    done

unfoldable pub call_expr : Script Rule
call_expr = precede ▸ call arg_list ▸ finish CALL_EXPR ▸ done

unfoldable pub index_expr : Script Rule
index_expr = precede ▸ token L_BRACK ▸ call expr ▸ expect R_BRACK ▸ finish INDEX_EXPR ▸ done

unfoldable pub try_expr : Script Rule
try_expr = precede ▸ token QUESTION ▸ finish TRY_EXPR ▸ done

-- What stands after a dot is called: a name before a `(` or `::`, or a `(` without a name.
unfoldable pub is_method_call : Test
is_method_call =
    or_else (next_is L_PAREN) (also (next_so is_path_name) (or_else (kind_is 1 L_PAREN) (comes 1 COLON2)))

unfoldable pub method_arguments : Script Rule
method_arguments =
    call opt_generic_arg_list_expr ▸
    test (is_at L_PAREN) (call arg_list ▸ finish METHOD_CALL_EXPR ▸ done)
    (report (codes "expected argument list") ▸ finish METHOD_CALL_EXPR ▸ done)

-- a method after the dot
unfoldable pub method_call_expr : Script Rule
method_call_expr =
    test (next_so is_path_name) (call name_ref_mod_path ▸ method_arguments)
    (report (codes "expected method name, field name or number") ▸ method_arguments)

unfoldable pub await_expr : Script Rule
await_expr = token AWAIT_KW ▸ finish AWAIT_EXPR ▸ done

-- a field after the dot
unfoldable pub field_expr : Script Rule
field_expr =
    test (next_so is_path_name_or_index) (call name_ref_mod_path_or_index ▸ finish FIELD_EXPR ▸ done)
    (report (codes "expected field name or number") ▸ finish FIELD_EXPR ▸ done)

-- a method, `await` or a field after the dot
unfoldable pub name_after_dot : Script Rule
name_after_dot = choose ((is_method_call, method_call_expr) ∷ (next_is AWAIT_KW, await_expr) ∷ []) field_expr

-- the dots of a range
abbrev pub is_range : Test
is_range = or_else (is_at DOT2EQ) (is_at DOT2)

-- What follows a dot. A float is one field, or two where it has digits after its own dot. Where it ends in that dot,
-- what follows it follows a dot once more; but the dots of a range are none of an access, and end all postfixes.
abbrev pub after_dot_turn : Bool → Bool → Script Rule
after_dot_turn a b =
    test (next_is FLOAT_NUMBER) (split_float (test is_range (give nothing) (precede ▸ give (again false false))) done)
    name_after_dot

unfoldable pub after_dot : Script Rule
after_dot = loop after_dot_turn false false

-- a dot and what follows it
unfoldable pub postfix_dot_expr : Script Rule
postfix_dot_expr = precede ▸ token DOT ▸ after_dot

-- a dot that begins no range
abbrev pub is_access : Test
is_access = also (next_is DOT) (also (negated (is_at DOT2EQ)) (negated (is_at DOT2)))

-- What follows an operand directly, calls and indexes only where they are allowed. A block with something after it is
-- none any more.
abbrev pub postfix_turn : Bool → Bool → Script Rule
postfix_turn calls blocky =
    choose
    ((also (next_is L_PAREN) (told calls), call call_expr ▸ give (again true false))
    ∷ (also (next_is L_BRACK) (told calls), call index_expr ▸ give (again true false))
    ∷ (
      is_access,
      after postfix_dot_expr (λ v.
          if_some v (give (again true false)) (give (if blocky then block else something))),
    )
    ∷ (next_is QUESTION, call try_expr ▸ give (again true false))
    ∷ [])
    (give (if blocky then block else something))

unfoldable pub postfix_expr : Bool → Bool → Script Rule
postfix_expr allow_calls is_block = loop postfix_turn allow_calls is_block
