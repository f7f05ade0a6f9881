-- Expressions that begin with no operator.
use Rattle.std.specs.Prelude.{Bool, ◌&&◌, not, [], ◌∷◌, true, codes, false, ℕ, Option, Some, None, if◌then◌else◌}
use Rattle.rap_base.specs.TokenKind.{L_CURLY, EOF, COMMA, R_PAREN, L_PAREN, SEMICOLON, R_BRACK, L_BRACK, UNDERSCORE, DO_KW, YEET_KW, RETURN_KW, BECOME_KW, YIELD_KW, CONTINUE_KW, BREAK_KW, COLON, LIFETIME_IDENT, IF_KW, LOOP_KW, WHILE_KW, MATCH_KW, LET_KW}
use Rattle.rap_base.specs.NodeKind.{PATH_EXPR, RECORD_EXPR, MACRO_CALL, MACRO_EXPR, PAREN_EXPR, TUPLE_EXPR, ARRAY_EXPR, UNDERSCORE_EXPR}
use Rattle.rap_events.specs.State.{expected}
use Rattle.rap_grammar_scripts.specs.Builtin.{builtin_expr}
use Rattle.rap_grammar_scripts.specs.Control.{if_expr, loop_expr, while_expr, labelled_expr, let_expr}
use Rattle.rap_grammar_scripts.specs.EffectBlocks.{effect_expr, plain_block}
use Rattle.rap_grammar_scripts.specs.First.{is_path_start}
use Rattle.rap_grammar_scripts.specs.Jumps.{continue_expr, return_expr, break_expr, become_expr, yeet_expr, yield_expr}
use Rattle.rap_grammar_scripts.specs.Literals.{literal}
use Rattle.rap_grammar_scripts.specs.Matches.{match_expr}
use Rattle.rap_grammar_scripts.specs.Paths.{expr_path}
use Rattle.rap_grammar_scripts.specs.Records.{record_expr_field_list}
use Rattle.rap_grammar_scripts.specs.Script.{Script, block, give, start, precede, finish, after, test, token, report, again, something, loop, Outcome, nothing}
use Rattle.rap_grammar_scripts.specs.Test.{Test, comes, also, told}
use Rattle.rap_grammar_scripts.specs.ThroughKnot.{expr}
use Rattle.rap_grammar_scripts.specs.TokenTree.{starts_macro_call, macro_call_after_excl}
use Rattle.rap_grammar_scripts.specs.Words.{done, ◌▸◌, call, choose, if_some, expect, of_bool, next_is, starts_builtin, word_is, is_at}
use Rattle.rap_grammar_scripts.specs.declared.arguments.Restrictions.{Restrictions}
use Rattle.rap_grammar_scripts.specs.declared.rule.Rule.{Rule}

-- the fields of a record come next, where a record literal may stand
abbrev pub starts_record : Bool → Test
starts_record forbid_structs = also (told (not forbid_structs)) (is_at L_CURLY)

-- a path, a record literal or a macro call; a macro call reads like a block as its brackets say
unfoldable pub path_expr : Restrictions → Script Rule
path_expr r =
    start ▸ call expr_path ▸
    choose
    ((starts_record r.forbid_structs, call record_expr_field_list ▸ finish RECORD_EXPR ▸ done)
    ∷ (
      starts_macro_call,
      after macro_call_after_excl (λ w. finish MACRO_CALL ▸ precede ▸ finish MACRO_EXPR ▸ give w),
    )
    ∷ [])
    (finish PATH_EXPR ▸ done)

abbrev pub tuple_turn : Bool → Bool → Script Rule
tuple_turn comma seen =
    choose
    ((is_at EOF, give (of_bool (seen && not comma)))
    ∷ (is_at R_PAREN, give (of_bool (seen && not comma)))
    ∷ (is_at COMMA, report (codes "expected expression") ▸ token COMMA ▸ give (again true seen))
    ∷ [])
    (after expr (λ v.
    if_some v (test (is_at R_PAREN) (give (again comma true)) (expect COMMA ▸ give (again true true)))
    (give (of_bool (not comma)))))

-- what stands in parentheses: something where it is one expression and no comma
unfoldable pub tuple_elements : Script Rule
tuple_elements = loop tuple_turn false false

abbrev pub tuple_kind : Outcome → ℕ
tuple_kind nothing = TUPLE_EXPR
tuple_kind something = PAREN_EXPR
tuple_kind block = PAREN_EXPR
tuple_kind (again a b) = PAREN_EXPR

unfoldable pub tuple_expr : Script Rule
tuple_expr = start ▸ token L_PAREN ▸ after tuple_elements (λ v. expect R_PAREN ▸ finish (tuple_kind v) ▸ done)

-- the next turn, if there was or was no semicolon, or the end
abbrev pub of_semi : Option Bool → Outcome
of_semi None = something
of_semi (Some semi) = again false semi

-- what stands after an element of an array
unfoldable pub after_element : Bool → Bool → Script Rule
after_element first semi =
    test (also (told first) (is_at SEMICOLON)) (token SEMICOLON ▸ give (again false true))
    (if semi then done
    else choose
    ((is_at R_BRACK, give (again false false))
    ∷ (is_at COMMA, token COMMA ▸ give (again false false))
    ∷ [])
    (report (expected COMMA) ▸ done))

abbrev pub array_turn : Bool → Bool → Script Rule
array_turn first semi =
    choose
    ((is_at EOF, done)
    ∷ (is_at R_BRACK, done)
    ∷ [])
    (after expr (λ v. if_some v (after_element first semi) done))

-- what stands in the brackets of an array; a semicolon after the first element ends it after the second
unfoldable pub array_elements : Script Rule
array_elements = loop array_turn true false

unfoldable pub array_expr : Script Rule
array_expr = start ▸ token L_BRACK ▸ call array_elements ▸ expect R_BRACK ▸ finish ARRAY_EXPR ▸ done

unfoldable pub underscore_expr : Script Rule
underscore_expr = start ▸ token UNDERSCORE ▸ finish UNDERSCORE_EXPR ▸ done

-- `do yeet` comes next
abbrev pub starts_yeet : Test
starts_yeet = also (next_is DO_KW) (word_is 1 YEET_KW)

-- a jump, or what follows in this list
unfoldable pub jump_expr : Restrictions → Script Rule
jump_expr r =
    choose
    ((starts_yeet, yeet_expr)
    ∷ (next_is RETURN_KW, return_expr)
    ∷ (next_is BECOME_KW, become_expr)
    ∷ (next_is YIELD_KW, yield_expr)
    ∷ (next_is CONTINUE_KW, continue_expr)
    ∷ (next_is BREAK_KW, break_expr r)
    ∷ [])
    effect_expr

-- a label with its colon comes next
abbrev pub starts_label : Test
starts_label = also (next_is LIFETIME_IDENT) (comes 1 COLON)

-- a condition, a loop or a `match`, or what follows in this list
unfoldable pub control_expr : Restrictions → Script Rule
control_expr r =
    choose
    ((starts_label, labelled_expr)
    ∷ (next_is IF_KW, call if_expr ▸ give block)
    ∷ (next_is LOOP_KW, call loop_expr ▸ give block)
    ∷ (next_is WHILE_KW, call while_expr ▸ give block)
    ∷ (next_is MATCH_KW, call match_expr ▸ give block)
    ∷ [])
    (jump_expr r)

-- one in brackets, `_` or a `let`, or what follows in this list
unfoldable pub bracketed_expr : Restrictions → Script Rule
bracketed_expr r =
    choose
    ((next_is L_PAREN, tuple_expr)
    ∷ (next_is L_BRACK, array_expr)
    ∷ (next_is L_CURLY, call plain_block ▸ give block)
    ∷ (next_is UNDERSCORE, underscore_expr)
    ∷ (next_is LET_KW, let_expr r)
    ∷ [])
    (control_expr r)

unfoldable pub atom_expr : Restrictions → Script Rule
atom_expr r =
    after literal (λ v.
    if_some v done (choose ((starts_builtin, builtin_expr) ∷ (is_path_start, path_expr r) ∷ []) (bracketed_expr r)))
