-- What the rules begin with.
use Rattle.std.specs.Prelude.{ℕ, List, [], ◌∷◌, Bool, ◌==◌, ◌&&◌, ◌||◌, not}
use Rattle.std.specs.List.{list_any}
use Rattle.rap_base.specs.TokenKind.{IDENT, SELF_KW, SUPER_KW, CRATE_KW, SELF_TYPE_KW, TRUE_KW, FALSE_KW, INT_NUMBER, FLOAT_NUMBER, BYTE, CHAR, STRING, BYTE_STRING, C_STRING, COLON, COLON2, L_ANGLE, L_PAREN, L_BRACK, L_CURLY, AMP, PIPE, STAR, BANG, DOT, MINUS, UNDERSCORE, POUND, OUTER_DOC_COMMENT, LIFETIME_IDENT, FN_KW, UNSAFE_KW, EXTERN_KW, FOR_KW, IMPL_KW, DYN_KW, CONST_KW, BOX_KW, REF_KW, MUT_KW, QUESTION, ASYNC_KW, BREAK_KW, CONTINUE_KW, DO_KW, GEN_KW, IF_KW, LET_KW, LOOP_KW, MATCH_KW, MOVE_KW, RETURN_KW, BECOME_KW, STATIC_KW, TRY_KW, WHILE_KW, YIELD_KW}
use Rattle.rap_base.specs.Edition.{at_least_2018}
use Rattle.rap_grammar_scripts.specs.Test.{Test, kind_so, edition_so, comes, negated, also, or_else}
use Rattle.rap_grammar_scripts.specs.Words.{next_is, next_so, kind_is, word_is, is_at}

abbrev pub one_of : List ℕ → ℕ → Bool
one_of kinds kind = list_any (λ k. k == kind) kinds

-- a name in a path
abbrev pub is_path_name : ℕ → Bool
is_path_name kind = one_of (IDENT ∷ SELF_KW ∷ SUPER_KW ∷ CRATE_KW ∷ SELF_TYPE_KW ∷ []) kind

-- the same, or a field's number
abbrev pub is_path_name_or_index : ℕ → Bool
is_path_name_or_index kind = is_path_name kind || one_of (INT_NUMBER ∷ []) kind

-- a literal
abbrev pub is_literal_first : ℕ → Bool
is_literal_first kind =
    one_of (TRUE_KW ∷ FALSE_KW ∷ INT_NUMBER ∷ FLOAT_NUMBER ∷ BYTE ∷ CHAR ∷ STRING ∷ BYTE_STRING ∷ C_STRING ∷ []) kind

-- a path, by its first token alone: a `:` may be the first of `::`
abbrev pub is_path_first : ℕ → Bool
is_path_first kind = one_of (IDENT ∷ SELF_KW ∷ SUPER_KW ∷ CRATE_KW ∷ SELF_TYPE_KW ∷ COLON ∷ L_ANGLE ∷ []) kind

-- an expression without an operator before it, by its first token alone
abbrev pub is_atom_expr_first : ℕ → Bool
is_atom_expr_first kind =
    (is_literal_first kind || is_path_first kind) ||
    one_of
    (L_PAREN ∷ L_CURLY ∷ L_BRACK ∷ PIPE ∷ ASYNC_KW ∷ BREAK_KW ∷ CONST_KW ∷ CONTINUE_KW ∷ DO_KW ∷ GEN_KW ∷ FOR_KW ∷
    IF_KW ∷ LET_KW ∷ LOOP_KW ∷ MATCH_KW ∷ MOVE_KW ∷ RETURN_KW ∷ BECOME_KW ∷ STATIC_KW ∷ TRY_KW ∷ UNSAFE_KW ∷
    WHILE_KW ∷ YIELD_KW ∷ LIFETIME_IDENT ∷ []) kind

-- an expression, by its first token alone: a `.` may be the first of `..`, and a `#` that of an attribute
abbrev pub is_expr_first : ℕ → Bool
is_expr_first kind = is_atom_expr_first kind || one_of (AMP ∷ STAR ∷ BANG ∷ DOT ∷ MINUS ∷ UNDERSCORE ∷ POUND ∷ []) kind

-- a type, by its first token alone
abbrev pub is_type_first : ℕ → Bool
is_type_first kind =
    is_path_first kind ||
    one_of
    (L_PAREN ∷ L_BRACK ∷ BANG ∷ STAR ∷ AMP ∷ UNDERSCORE ∷ FN_KW ∷ UNSAFE_KW ∷ EXTERN_KW ∷ FOR_KW ∷ IMPL_KW ∷
    DYN_KW ∷ LIFETIME_IDENT ∷ []) kind

-- a constant as a generic argument, by its first token: no name
abbrev pub is_const_arg_first : ℕ → Bool
is_const_arg_first kind = is_literal_first kind || one_of (L_CURLY ∷ MINUS ∷ []) kind

-- a generic argument
abbrev pub is_generic_arg_first : ℕ → Bool
is_generic_arg_first kind = is_type_first kind || is_const_arg_first kind

-- a generic parameter, without the attributes before it
abbrev pub is_generic_param_first : ℕ → Bool
is_generic_param_first kind = one_of (IDENT ∷ LIFETIME_IDENT ∷ CONST_KW ∷ []) kind

-- an outer attribute
abbrev pub is_outer_attr_first : ℕ → Bool
is_outer_attr_first kind = one_of (POUND ∷ OUTER_DOC_COMMENT ∷ []) kind

-- a pattern without alternatives, by its first token alone
abbrev pub is_pattern_first : ℕ → Bool
is_pattern_first kind =
    is_literal_first kind || is_path_first kind ||
    one_of
    (BOX_KW ∷ REF_KW ∷ MUT_KW ∷ CONST_KW ∷ L_PAREN ∷ L_BRACK ∷ AMP ∷ UNDERSCORE ∷ MINUS ∷ DOT ∷ BANG ∷ []) kind

-- a pattern
abbrev pub is_pat_top_first : ℕ → Bool
is_pat_top_first kind = is_pattern_first kind || one_of (PIPE ∷ []) kind

-- the end of a range in a pattern
abbrev pub is_range_pat_end_first : ℕ → Bool
is_range_pat_end_first kind = is_literal_first kind || is_path_first kind || one_of (MINUS ∷ CONST_KW ∷ []) kind

-- a condition in an attribute
abbrev pub is_cfg_predicate_first : ℕ → Bool
is_cfg_predicate_first kind = one_of (TRUE_KW ∷ FALSE_KW ∷ IDENT ∷ []) kind

-- a path comes next that begins with a name or `::`
abbrev pub is_use_path_start : Test
is_use_path_start = or_else (next_so (one_of (IDENT ∷ SELF_KW ∷ SUPER_KW ∷ CRATE_KW ∷ []))) (is_at COLON2)

-- a path comes next
abbrev pub is_path_start : Test
is_path_start = or_else (or_else (next_so is_path_name) (is_at COLON2)) (next_is L_ANGLE)

-- generic arguments in an expression, as `::<a>`
abbrev pub starts_expr_args : Test
starts_expr_args = also (is_at COLON2) (comes 2 L_ANGLE)

-- a closure comes next
abbrev pub is_closure : Test
is_closure =
    or_else (next_so (one_of (CONST_KW ∷ STATIC_KW ∷ ASYNC_KW ∷ MOVE_KW ∷ PIPE ∷ [])))
    (also (next_is FOR_KW) (kind_is 1 L_ANGLE))

-- a bracket that opens
abbrev pub is_bracket : ℕ → Bool
is_bracket kind = one_of (L_CURLY ∷ L_PAREN ∷ L_BRACK ∷ []) kind

-- a function pointer
abbrev pub is_fn_ptr_first : ℕ → Bool
is_fn_ptr_first kind = one_of (FN_KW ∷ UNSAFE_KW ∷ EXTERN_KW ∷ []) kind

-- what may follow an identifier `dyn` that is read as the keyword
abbrev pub is_weak_dyn_path_first : ℕ → Bool
is_weak_dyn_path_first kind =
    one_of
    (IDENT ∷ SELF_KW ∷ SUPER_KW ∷ CRATE_KW ∷ SELF_TYPE_KW ∷ LIFETIME_IDENT ∷ QUESTION ∷ FOR_KW ∷ L_PAREN ∷ []) kind

-- an identifier `dyn` before a bound comes next
abbrev pub is_dyn_weak : Test
is_dyn_weak = also (word_is 0 DYN_KW) (kind_so 1 is_weak_dyn_path_first)

-- the same before 2018, when it is the keyword
abbrev pub starts_weak_dyn : Test
starts_weak_dyn = also (next_is IDENT) (also (negated (edition_so 0 at_least_2018)) is_dyn_weak)

-- a generic parameter, or an attribute before it
abbrev pub is_attributed_generic_param_first : ℕ → Bool
is_attributed_generic_param_first kind = is_generic_param_first kind || is_outer_attr_first kind

-- the generic arguments that a type captures
abbrev pub is_use_bound_arg_first : ℕ → Bool
is_use_bound_arg_first kind = one_of (SELF_TYPE_KW ∷ IDENT ∷ LIFETIME_IDENT ∷ []) kind

-- a predicate of a `where`
abbrev pub is_where_predicate_first : ℕ → Bool
is_where_predicate_first kind = not (kind == IMPL_KW) && is_type_first kind

-- a parameter of a function, or an attribute before it
abbrev pub is_param_first : ℕ → Bool
is_param_first kind = (is_pattern_first kind || is_type_first kind) || is_outer_attr_first kind
