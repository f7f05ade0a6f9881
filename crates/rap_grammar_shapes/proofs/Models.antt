-- Written by crates/rap_grammar_shapes/models from specs/Shapes.antt: an edit here is lost.
-- The automata of all shapes.
-- State 0 of each is its shape, and the others are what is left of it after some children.
use Rattle.std.specs.Prelude.{ℕ, true, false, List, [], ◌∷◌, ◌==◌, if◌then◌else◌}
use Rattle.rap_base.specs.NodeKind.{ABI, ARG_LIST, ARRAY_EXPR, ARRAY_TYPE, ASM_CLOBBER_ABI, ASM_CONST, ASM_DIR_SPEC, ASM_EXPR, ASM_LABEL, ASM_OPERAND_EXPR, ASM_OPERAND_NAMED, ASM_OPTION, ASM_OPTIONS, ASM_REG_OPERAND, ASM_REG_SPEC, ASM_SYM, ASSOC_ITEM_LIST, ASSOC_TYPE_ARG, ATTR, AWAIT_EXPR, BECOME_EXPR, BIN_EXPR, BLOCK_EXPR, BOX_PAT, BREAK_EXPR, CALL_EXPR, CAST_EXPR, CFG_ATOM, CFG_ATTR_META, CFG_COMPOSITE, CFG_META, CFG_PRED_EXPR, CFG_PRED_PAT, CLOSURE_EXPR, CONST, CONST_ARG, CONST_BLOCK_PAT, CONST_PARAM, CONTINUE_EXPR, DEREF_PAT, DOC_COMMENT, DYN_TRAIT_TYPE, ENUM, EXPR_STMT, EXTERN_BLOCK, EXTERN_CRATE, EXTERN_ITEM_LIST, FIELD_EXPR, FN, FN_PTR_TYPE, FORMAT_ARGS_ARG, FORMAT_ARGS_EXPR, FOR_BINDER, FOR_EXPR, FOR_TYPE, GENERIC_ARG_LIST, GENERIC_PARAM_LIST, IDENT_PAT, IF_EXPR, IMPL, IMPL_RESTRICTION, IMPL_TRAIT_TYPE, INCLUDE_BYTES_EXPR, INDEX_EXPR, INFER_TYPE, ITEM_LIST, KEY_VALUE_META, LABEL, LET_ELSE, LET_EXPR, LET_STMT, LIFETIME, LIFETIME_ARG, LIFETIME_PARAM, LITERAL, LITERAL_PAT, LOOP_EXPR, MACRO_CALL, MACRO_DEF, MACRO_EXPR, MACRO_ITEMS, MACRO_PAT, MACRO_RULES, MACRO_STMTS, MACRO_TYPE, MATCH_ARM, MATCH_ARM_LIST, MATCH_EXPR, MATCH_GUARD, METHOD_CALL_EXPR, MODULE, MUT_RESTRICTION, NAME, NAME_REF, NEVER_TYPE, NOT_NULL, OFFSET_OF_EXPR, OR_PAT, PARAM, PARAM_LIST, PARENTHESIZED_ARG_LIST, PAREN_EXPR, PAREN_PAT, PAREN_TYPE, PATH, PATH_EXPR, PATH_META, PATH_PAT, PATH_SEGMENT, PATH_TYPE, PATTERN_TYPE, PREFIX_EXPR, PTR_TYPE, RANGE_EXPR, RANGE_PAT, RECORD_EXPR, RECORD_EXPR_FIELD, RECORD_EXPR_FIELD_LIST, RECORD_FIELD, RECORD_FIELD_LIST, RECORD_PAT, RECORD_PAT_FIELD, RECORD_PAT_FIELD_LIST, REF_EXPR, REF_PAT, REF_TYPE, RENAME, REST_PAT, RETURN_EXPR, RETURN_TYPE_SYNTAX, RET_TYPE, SELF_PARAM, SLICE_PAT, SLICE_TYPE, SOURCE_FILE, STATIC, STMT_LIST, STRUCT, TOKEN_TREE, TOKEN_TREE_META, TRAIT, TRY_BLOCK_MODIFIER, TRY_EXPR, TUPLE_EXPR, TUPLE_FIELD, TUPLE_FIELD_LIST, TUPLE_PAT, TUPLE_STRUCT_PAT, TUPLE_TYPE, TYPE_ALIAS, TYPE_ANCHOR, TYPE_ARG, TYPE_BOUND, TYPE_BOUND_LIST, TYPE_PARAM, UNDERSCORE_EXPR, UNION, UNSAFE_META, USE, USE_BOUND_GENERIC_ARGS, USE_TREE, USE_TREE_LIST, VARIANT, VARIANT_LIST, VISIBILITY, VISIBILITY_INNER, WHERE_CLAUSE, WHERE_PRED, WHILE_EXPR, WILDCARD_PAT, YEET_EXPR, YIELD_EXPR}
use Rattle.rap_base.specs.TokenKind.{AMP, ASM_KW, ASYNC_KW, AS_KW, AT, ATT_SYNTAX_KW, AWAIT_KW, BANG, BECOME_KW, BIKESHED_KW, BOX_KW, BREAK_KW, BUILTIN_KW, BYTE, BYTE_STRING, CFG_ATTR_KW, CFG_KW, CHAR, CLOBBER_ABI_KW, COLON, COLON2, COMMA, CONST_KW, CONTINUE_KW, CRATE_KW, C_STRING, DEREF_KW, DOT, DOT2, DOT2EQ, DOT3, DO_KW, DYN_KW, ELSE_KW, EQ, ERROR, FALSE_KW, FAT_ARROW, FLOAT_NUMBER, FN_KW, FORMAT_ARGS_KW, FOR_KW, FRONTMATTER, GEN_KW, GLOBAL_ASM_KW, IDENT, IF_KW, IMPL_KW, INCLUDE_BYTES_KW, INLATEOUT_KW, INNER_DOC_COMMENT, INOUT_KW, INT_NUMBER, IN_KW, IS_KW, LABEL_KW, LATEOUT_KW, LET_KW, LIFETIME_IDENT, LOOP_KW, L_ANGLE, L_BRACK, L_CURLY, L_PAREN, MATCH_KW, MAY_UNWIND_KW, MINUS, MOVE_KW, MUT_KW, NAKED_ASM_KW, NOMEM_KW, NORETURN_KW, NOSTACK_KW, OFFSET_OF_KW, OPTIONS_KW, OUTER_DOC_COMMENT, OUT_KW, PATTERN_TYPE_KW, PIPE, PLUS, POUND, PRESERVES_FLAGS_KW, PURE_KW, QUESTION, RAW_KW, READONLY_KW, REF_KW, RETURN_KW, R_ANGLE, R_BRACK, R_CURLY, R_PAREN, SELF_KW, SELF_TYPE_KW, SEMICOLON, SHEBANG, STAR, STATIC_KW, STRING, SUPER_KW, SYM_KW, TILDE, TRUE_KW, TRY_KW, UNDERSCORE, UNSAFE_KW, USE_KW, WHERE_KW, WHILE_KW, YEET_KW, YIELD_KW}
use Rattle.rap_grammar_shapes.proofs.Automata.{State, by_leaf, by_node, state}
use Rattle.rap_grammar_shapes.specs.Shapes.{attribute_kinds, expressions, generic_arguments, generic_parameters, items, metas, operands, operators, other_operands, patterns, predicates, range_ends, single_patterns, statement_nodes, types}
use Rattle.rap_grammar_shapes.proofs.ItemModels.{by_token, by_one, visibility_states, visibility_inner_states, abi_states, ret_type_states, macro_call_states, module_states, item_list_states, extern_crate_states, extern_block_states, extern_item_list_states, impl_restriction_states, mut_restriction_states, type_alias_states, macro_rules_states, macro_def_states, fn_states, token_tree_states, struct_states, union_states, enum_states, variant_list_states, variant_states, record_field_list_states, record_field_states, tuple_field_list_states, tuple_field_states, const_states, static_states, trait_states, impl_states, assoc_item_list_states, use_states, use_tree_states, use_tree_list_states, param_list_states, param_states, self_param_states}

abbrev pub error_states : List State
error_states = state false (by_node attribute_kinds 0 ∷ by_one PATH 1 ∷ []) ∷ state true [] ∷ []

abbrev pub source_file_states : List State
source_file_states =
    state true (by_token SHEBANG 1 ∷ by_token FRONTMATTER 2 ∷ by_node attribute_kinds 2 ∷ by_node items 3 ∷ []) ∷
    state true (by_token FRONTMATTER 2 ∷ by_node attribute_kinds 2 ∷ by_node items 3 ∷ []) ∷
    state true (by_node attribute_kinds 2 ∷ by_node items 3 ∷ []) ∷ state true (by_node items 3 ∷ []) ∷ []

abbrev pub macro_stmts_states : List State
macro_stmts_states = state true (by_token SEMICOLON 0 ∷ by_node statement_nodes 0 ∷ []) ∷ []

abbrev pub macro_items_states : List State
macro_items_states =
    state true (by_node attribute_kinds 0 ∷ by_node items 1 ∷ []) ∷ state true (by_node items 1 ∷ []) ∷ []

abbrev pub name_states : List State
name_states = state false (by_leaf (IDENT ∷ SELF_KW ∷ []) 1 ∷ []) ∷ state true [] ∷ []

abbrev pub name_ref_states : List State
name_ref_states =
    state false (by_leaf (IDENT ∷ SELF_KW ∷ SUPER_KW ∷ CRATE_KW ∷ SELF_TYPE_KW ∷ INT_NUMBER ∷ []) 1 ∷ []) ∷
    state true [] ∷ []

abbrev pub lifetime_states : List State
lifetime_states = state false (by_token LIFETIME_IDENT 1 ∷ []) ∷ state true [] ∷ []

abbrev pub rename_states : List State
rename_states =
    state false (by_token AS_KW 1 ∷ []) ∷ state false (by_one NAME 2 ∷ by_token UNDERSCORE 2 ∷ []) ∷ state true [] ∷ []

abbrev pub path_states : List State
path_states =
    state false (by_one PATH 1 ∷ by_one PATH_SEGMENT 2 ∷ []) ∷ state false (by_token COLON2 3 ∷ []) ∷ state true [] ∷
    state false (by_one PATH_SEGMENT 2 ∷ []) ∷ []

abbrev pub path_segment_states : List State
path_segment_states =
    state false (by_one TYPE_ANCHOR 1 ∷ by_token COLON2 2 ∷ by_one NAME_REF 3 ∷ []) ∷ state true [] ∷
    state false (by_one NAME_REF 3 ∷ []) ∷ state true (by_node (GENERIC_ARG_LIST ∷ RETURN_TYPE_SYNTAX ∷ []) 1 ∷
    by_one PARENTHESIZED_ARG_LIST 4 ∷ []) ∷ state true (by_one RET_TYPE 1 ∷ []) ∷ []

abbrev pub type_anchor_states : List State
type_anchor_states =
    state false (by_token L_ANGLE 1 ∷ []) ∷ state false (by_node types 2 ∷ []) ∷ state false (by_token AS_KW 3 ∷
    by_token R_ANGLE 4 ∷ []) ∷ state false (by_node (DYN_TRAIT_TYPE ∷ PATH_TYPE ∷ []) 5 ∷ []) ∷ state true [] ∷
    state false (by_token R_ANGLE 4 ∷ []) ∷ []

abbrev pub return_type_syntax_states : List State
return_type_syntax_states =
    state false (by_token COLON2 1 ∷ by_token L_PAREN 2 ∷ []) ∷ state false (by_token L_PAREN 2 ∷ []) ∷
    state false (by_token DOT2 3 ∷ []) ∷ state false (by_token R_PAREN 4 ∷ []) ∷ state true [] ∷ []

abbrev pub parenthesized_arg_list_states : List State
parenthesized_arg_list_states =
    state false (by_token COLON2 1 ∷ by_token L_PAREN 2 ∷ []) ∷ state false (by_token L_PAREN 2 ∷ []) ∷
    state false (by_one TYPE_ARG 3 ∷ by_token R_PAREN 4 ∷ []) ∷ state false (by_token COMMA 2 ∷ by_token R_PAREN 4 ∷ [])
    ∷ state true [] ∷ []

abbrev pub let_stmt_states : List State
let_stmt_states =
    state false (by_node attribute_kinds 0 ∷ by_token SUPER_KW 1 ∷ by_token LET_KW 2 ∷ []) ∷
    state false (by_token LET_KW 2 ∷ []) ∷ state false (by_node patterns 3 ∷ []) ∷ state true (by_token COLON 4 ∷
    by_token EQ 5 ∷ by_one LET_ELSE 6 ∷ by_token SEMICOLON 7 ∷ []) ∷ state false (by_node types 8 ∷ []) ∷
    state false (by_node expressions 9 ∷ []) ∷ state true (by_token SEMICOLON 7 ∷ []) ∷ state true [] ∷
    state true (by_token EQ 5 ∷ by_one LET_ELSE 6 ∷ by_token SEMICOLON 7 ∷ []) ∷ state true (by_one LET_ELSE 6 ∷
    by_token SEMICOLON 7 ∷ []) ∷ []

abbrev pub expr_stmt_states : List State
expr_stmt_states =
    state false (by_node expressions 1 ∷ []) ∷ state true (by_token SEMICOLON 2 ∷ []) ∷ state true [] ∷ []

abbrev pub let_else_states : List State
let_else_states = state false (by_token ELSE_KW 1 ∷ []) ∷ state false (by_one BLOCK_EXPR 2 ∷ []) ∷ state true [] ∷ []

abbrev pub stmt_list_states : List State
stmt_list_states =
    state false (by_token L_CURLY 1 ∷ []) ∷ state false (by_node attribute_kinds 1 ∷ by_token SEMICOLON 2 ∷
    by_node statement_nodes 2 ∷ by_token R_CURLY 3 ∷ []) ∷ state false (by_token SEMICOLON 2 ∷ by_node statement_nodes 2
    ∷ by_token R_CURLY 3 ∷ []) ∷ state true [] ∷ []

abbrev pub block_expr_states : List State
block_expr_states =
    state false (by_node attribute_kinds 0 ∷ by_node (LABEL ∷ TRY_BLOCK_MODIFIER ∷ []) 1 ∷ by_leaf (CONST_KW ∷
    UNSAFE_KW ∷ []) 1 ∷ by_token ASYNC_KW 2 ∷ by_token GEN_KW 3 ∷ by_one STMT_LIST 4 ∷ []) ∷
    state false (by_one STMT_LIST 4 ∷ []) ∷ state false (by_token GEN_KW 3 ∷ by_token MOVE_KW 1 ∷ by_one STMT_LIST 4 ∷
    []) ∷ state false (by_token MOVE_KW 1 ∷ by_one STMT_LIST 4 ∷ []) ∷ state true [] ∷ []

abbrev pub label_states : List State
label_states = state false (by_one LIFETIME 1 ∷ []) ∷ state false (by_token COLON 2 ∷ []) ∷ state true [] ∷ []

abbrev pub try_block_modifier_states : List State
try_block_modifier_states =
    state false (by_token TRY_KW 1 ∷ []) ∷ state true (by_token BIKESHED_KW 2 ∷ []) ∷ state false (by_node types 3 ∷ [])
    ∷ state true [] ∷ []

abbrev pub range_expr_states : List State
range_expr_states =
    state false (by_node attribute_kinds 0 ∷ by_node expressions 1 ∷ by_leaf (DOT2 ∷ DOT2EQ ∷ []) 2 ∷ []) ∷
    state false (by_leaf (DOT2 ∷ DOT2EQ ∷ []) 2 ∷ []) ∷ state true (by_node expressions 3 ∷ []) ∷ state true [] ∷ []

abbrev pub bin_expr_states : List State
bin_expr_states =
    state false (by_node expressions 1 ∷ []) ∷ state false (by_leaf operators 2 ∷ []) ∷
    state false (by_node expressions 3 ∷ []) ∷ state true [] ∷ []

abbrev pub ref_expr_states : List State
ref_expr_states =
    state false (by_node attribute_kinds 0 ∷ by_token AMP 1 ∷ []) ∷ state false (by_token MUT_KW 2 ∷ by_token RAW_KW 3 ∷
    by_node expressions 4 ∷ []) ∷ state false (by_node expressions 4 ∷ []) ∷ state false (by_leaf (CONST_KW ∷ MUT_KW ∷
    []) 2 ∷ by_node expressions 4 ∷ []) ∷ state true [] ∷ []

abbrev pub prefix_expr_states : List State
prefix_expr_states =
    state false (by_node attribute_kinds 0 ∷ by_token MINUS 1 ∷ by_leaf (BANG ∷ STAR ∷ []) 2 ∷ []) ∷
    state true (by_node expressions 3 ∷ []) ∷ state false (by_node expressions 4 ∷ []) ∷ state true [] ∷ state true [] ∷
    []

abbrev pub call_expr_states : List State
call_expr_states =
    state false (by_node attribute_kinds 0 ∷ by_node operands 1 ∷ []) ∷ state false (by_one ARG_LIST 2 ∷ []) ∷
    state true [] ∷ []

abbrev pub index_expr_states : List State
index_expr_states =
    state false (by_node attribute_kinds 0 ∷ by_node operands 1 ∷ []) ∷ state false (by_token L_BRACK 2 ∷ []) ∷
    state false (by_node expressions 3 ∷ []) ∷ state false (by_token R_BRACK 4 ∷ []) ∷ state true [] ∷ []

abbrev pub method_call_expr_states : List State
method_call_expr_states =
    state false (by_node attribute_kinds 0 ∷ by_node other_operands 1 ∷ by_one FIELD_EXPR 2 ∷ []) ∷
    state false (by_token DOT 3 ∷ []) ∷ state false (by_token DOT 3 ∷ by_one NAME_REF 4 ∷ []) ∷
    state false (by_one NAME_REF 4 ∷ []) ∷ state false (by_one GENERIC_ARG_LIST 5 ∷ by_one ARG_LIST 6 ∷ []) ∷
    state false (by_one ARG_LIST 6 ∷ []) ∷ state true [] ∷ []

abbrev pub field_expr_states : List State
field_expr_states =
    state false (by_node attribute_kinds 0 ∷ by_node other_operands 1 ∷ by_one FIELD_EXPR 2 ∷ []) ∷
    state false (by_token DOT 3 ∷ []) ∷ state false (by_token DOT 3 ∷ by_one NAME_REF 4 ∷ []) ∷
    state false (by_one NAME_REF 4 ∷ []) ∷ state true [] ∷ []

abbrev pub await_expr_states : List State
await_expr_states =
    state false (by_node attribute_kinds 0 ∷ by_node other_operands 1 ∷ by_one FIELD_EXPR 2 ∷ []) ∷
    state false (by_token DOT 3 ∷ []) ∷ state false (by_token DOT 3 ∷ by_token AWAIT_KW 4 ∷ []) ∷
    state false (by_token AWAIT_KW 4 ∷ []) ∷ state true [] ∷ []

abbrev pub try_expr_states : List State
try_expr_states =
    state false (by_node attribute_kinds 0 ∷ by_node operands 1 ∷ []) ∷ state false (by_token QUESTION 2 ∷ []) ∷
    state true [] ∷ []

abbrev pub cast_expr_states : List State
cast_expr_states =
    state false (by_node expressions 1 ∷ []) ∷ state false (by_token AS_KW 2 ∷ []) ∷ state false (by_node types 3 ∷ [])
    ∷ state true [] ∷ []

abbrev pub arg_list_states : List State
arg_list_states =
    state false (by_token L_PAREN 1 ∷ []) ∷ state false (by_node expressions 2 ∷ by_token R_PAREN 3 ∷ []) ∷
    state false (by_token COMMA 1 ∷ by_token R_PAREN 3 ∷ []) ∷ state true [] ∷ []

abbrev pub record_expr_states : List State
record_expr_states =
    state false (by_node attribute_kinds 0 ∷ by_one PATH 1 ∷ []) ∷ state false (by_one RECORD_EXPR_FIELD_LIST 2 ∷ []) ∷
    state true [] ∷ []

abbrev pub record_expr_field_states : List State
record_expr_field_states =
    state false (by_node attribute_kinds 0 ∷ by_one NAME_REF 1 ∷ by_node expressions 2 ∷ []) ∷
    state false (by_token COLON 3 ∷ []) ∷ state true [] ∷ state false (by_node expressions 2 ∷ []) ∷ []

abbrev pub record_expr_field_list_states : List State
record_expr_field_list_states =
    state false (by_token L_CURLY 1 ∷ []) ∷ state false (by_one RECORD_EXPR_FIELD 2 ∷ by_node attribute_kinds 3 ∷
    by_token DOT2 4 ∷ by_token R_CURLY 5 ∷ []) ∷ state false (by_token COMMA 1 ∷ by_token R_CURLY 5 ∷ []) ∷
    state false (by_node attribute_kinds 3 ∷ by_token DOT2 4 ∷ []) ∷ state false (by_node expressions 2 ∷
    by_token R_CURLY 5 ∷ []) ∷ state true [] ∷ []

abbrev pub macro_expr_states : List State
macro_expr_states = state false (by_node attribute_kinds 0 ∷ by_one MACRO_CALL 1 ∷ []) ∷ state true [] ∷ []

abbrev pub path_expr_states : List State
path_expr_states = state false (by_node attribute_kinds 0 ∷ by_one PATH 1 ∷ []) ∷ state true [] ∷ []

abbrev pub literal_states : List State
literal_states =
    state false (by_node attribute_kinds 0 ∷ by_leaf (INT_NUMBER ∷ FLOAT_NUMBER ∷ CHAR ∷ BYTE ∷ STRING ∷ BYTE_STRING ∷
    C_STRING ∷ TRUE_KW ∷ FALSE_KW ∷ []) 1 ∷ []) ∷ state true [] ∷ []

abbrev pub underscore_expr_states : List State
underscore_expr_states = state false (by_node attribute_kinds 0 ∷ by_token UNDERSCORE 1 ∷ []) ∷ state true [] ∷ []

abbrev pub paren_expr_states : List State
paren_expr_states =
    state false (by_node attribute_kinds 0 ∷ by_token L_PAREN 1 ∷ []) ∷ state false (by_node expressions 2 ∷ []) ∷
    state false (by_token R_PAREN 3 ∷ []) ∷ state true [] ∷ []

abbrev pub tuple_expr_states : List State
tuple_expr_states =
    state false (by_node attribute_kinds 0 ∷ by_token L_PAREN 1 ∷ []) ∷ state false (by_node expressions 2 ∷
    by_token R_PAREN 3 ∷ []) ∷ state false (by_token COMMA 4 ∷ []) ∷ state true [] ∷ state false (by_node expressions 5
    ∷ by_token R_PAREN 3 ∷ []) ∷ state false (by_token COMMA 4 ∷ by_token R_PAREN 3 ∷ []) ∷ []

abbrev pub array_expr_states : List State
array_expr_states =
    state false (by_node attribute_kinds 0 ∷ by_token L_BRACK 1 ∷ []) ∷ state false (by_node expressions 2 ∷
    by_token R_BRACK 3 ∷ []) ∷ state false (by_token COMMA 4 ∷ by_token SEMICOLON 5 ∷ by_token R_BRACK 3 ∷ []) ∷
    state true [] ∷ state false (by_node expressions 6 ∷ by_token R_BRACK 3 ∷ []) ∷ state false (by_node expressions 7 ∷
    by_token R_BRACK 3 ∷ []) ∷ state false (by_token COMMA 4 ∷ by_token R_BRACK 3 ∷ []) ∷
    state false (by_token R_BRACK 3 ∷ []) ∷ []

abbrev pub closure_expr_states : List State
closure_expr_states =
    state false (by_node attribute_kinds 0 ∷ by_one FOR_BINDER 1 ∷ by_token CONST_KW 2 ∷ by_token STATIC_KW 3 ∷
    by_token ASYNC_KW 4 ∷ by_token MOVE_KW 5 ∷ by_one PARAM_LIST 6 ∷ []) ∷ state false (by_token CONST_KW 2 ∷
    by_token STATIC_KW 3 ∷ by_token ASYNC_KW 4 ∷ by_token GEN_KW 7 ∷ by_token MOVE_KW 5 ∷ by_one PARAM_LIST 6 ∷ []) ∷
    state false (by_token STATIC_KW 3 ∷ by_token ASYNC_KW 4 ∷ by_token GEN_KW 7 ∷ by_token MOVE_KW 5 ∷
    by_one PARAM_LIST 6 ∷ []) ∷ state false (by_token ASYNC_KW 4 ∷ by_token GEN_KW 7 ∷ by_token MOVE_KW 5 ∷
    by_one PARAM_LIST 6 ∷ []) ∷ state false (by_token GEN_KW 7 ∷ by_token MOVE_KW 5 ∷ by_one PARAM_LIST 6 ∷ []) ∷
    state false (by_one PARAM_LIST 6 ∷ []) ∷ state false (by_node expressions 8 ∷ by_one RET_TYPE 9 ∷ []) ∷
    state false (by_token MOVE_KW 5 ∷ by_one PARAM_LIST 6 ∷ []) ∷ state true [] ∷ state false (by_one BLOCK_EXPR 8 ∷ [])
    ∷ []

abbrev pub if_expr_states : List State
if_expr_states =
    state false (by_node attribute_kinds 0 ∷ by_token IF_KW 1 ∷ []) ∷ state false (by_node expressions 2 ∷ []) ∷
    state false (by_one BLOCK_EXPR 3 ∷ []) ∷ state true (by_token ELSE_KW 4 ∷ []) ∷ state false (by_node (BLOCK_EXPR ∷
    IF_EXPR ∷ []) 5 ∷ []) ∷ state true [] ∷ []

abbrev pub loop_expr_states : List State
loop_expr_states =
    state false (by_node attribute_kinds 0 ∷ by_one LABEL 1 ∷ by_token LOOP_KW 2 ∷ []) ∷ state false (by_token LOOP_KW 2
    ∷ []) ∷ state false (by_one BLOCK_EXPR 3 ∷ []) ∷ state true [] ∷ []

abbrev pub while_expr_states : List State
while_expr_states =
    state false (by_node attribute_kinds 0 ∷ by_one LABEL 1 ∷ by_token WHILE_KW 2 ∷ []) ∷
    state false (by_token WHILE_KW 2 ∷ []) ∷ state false (by_node expressions 3 ∷ []) ∷ state false (by_one BLOCK_EXPR 4
    ∷ []) ∷ state true [] ∷ []

abbrev pub for_expr_states : List State
for_expr_states =
    state false (by_node attribute_kinds 0 ∷ by_one LABEL 1 ∷ by_token FOR_KW 2 ∷ []) ∷ state false (by_token FOR_KW 2 ∷
    []) ∷ state false (by_node patterns 3 ∷ []) ∷ state false (by_token IN_KW 4 ∷ []) ∷
    state false (by_node expressions 5 ∷ []) ∷ state false (by_one BLOCK_EXPR 6 ∷ []) ∷ state true [] ∷ []

abbrev pub let_expr_states : List State
let_expr_states =
    state false (by_node attribute_kinds 0 ∷ by_token LET_KW 1 ∷ []) ∷ state false (by_node patterns 2 ∷ []) ∷
    state false (by_token EQ 3 ∷ []) ∷ state false (by_node expressions 4 ∷ []) ∷ state true [] ∷ []

abbrev pub match_expr_states : List State
match_expr_states =
    state false (by_node attribute_kinds 0 ∷ by_token MATCH_KW 1 ∷ []) ∷ state false (by_node expressions 2 ∷ []) ∷
    state false (by_one MATCH_ARM_LIST 3 ∷ []) ∷ state true [] ∷ []

abbrev pub match_arm_list_states : List State
match_arm_list_states =
    state false (by_token L_CURLY 1 ∷ []) ∷ state false (by_node attribute_kinds 1 ∷ by_one MATCH_ARM 2 ∷
    by_token R_CURLY 3 ∷ []) ∷ state false (by_one MATCH_ARM 2 ∷ by_token R_CURLY 3 ∷ []) ∷ state true [] ∷ []

abbrev pub match_arm_states : List State
match_arm_states =
    state false (by_node attribute_kinds 0 ∷ by_node patterns 1 ∷ []) ∷ state false (by_one MATCH_GUARD 2 ∷
    by_token FAT_ARROW 3 ∷ []) ∷ state false (by_token FAT_ARROW 3 ∷ []) ∷ state false (by_node expressions 4 ∷ []) ∷
    state true (by_token COMMA 5 ∷ []) ∷ state true [] ∷ []

abbrev pub match_guard_states : List State
match_guard_states = state false (by_token IF_KW 1 ∷ []) ∷ state false (by_node expressions 2 ∷ []) ∷ state true [] ∷ []

abbrev pub return_expr_states : List State
return_expr_states =
    state false (by_node attribute_kinds 0 ∷ by_token RETURN_KW 1 ∷ []) ∷ state true (by_node expressions 2 ∷ []) ∷
    state true [] ∷ []

abbrev pub become_expr_states : List State
become_expr_states =
    state false (by_node attribute_kinds 0 ∷ by_token BECOME_KW 1 ∷ []) ∷ state false (by_node expressions 2 ∷ []) ∷
    state true [] ∷ []

abbrev pub yield_expr_states : List State
yield_expr_states =
    state false (by_node attribute_kinds 0 ∷ by_token YIELD_KW 1 ∷ []) ∷ state true (by_node expressions 2 ∷ []) ∷
    state true [] ∷ []

abbrev pub yeet_expr_states : List State
yeet_expr_states =
    state false (by_node attribute_kinds 0 ∷ by_token DO_KW 1 ∷ []) ∷ state true (by_token YEET_KW 2 ∷
    by_node expressions 3 ∷ []) ∷ state true (by_node expressions 3 ∷ []) ∷ state true [] ∷ []

abbrev pub continue_expr_states : List State
continue_expr_states =
    state false (by_node attribute_kinds 0 ∷ by_token CONTINUE_KW 1 ∷ []) ∷ state true (by_one LIFETIME 2 ∷ []) ∷
    state true [] ∷ []

abbrev pub break_expr_states : List State
break_expr_states =
    state false (by_node attribute_kinds 0 ∷ by_token BREAK_KW 1 ∷ []) ∷ state true (by_one LIFETIME 2 ∷
    by_node expressions 3 ∷ []) ∷ state true (by_node expressions 3 ∷ []) ∷ state true [] ∷ []

abbrev pub offset_of_expr_states : List State
offset_of_expr_states =
    state false (by_node attribute_kinds 0 ∷ by_token BUILTIN_KW 1 ∷ []) ∷ state false (by_token POUND 2 ∷ []) ∷
    state false (by_token OFFSET_OF_KW 3 ∷ []) ∷ state false (by_token L_PAREN 4 ∷ []) ∷ state false (by_node types 5 ∷
    []) ∷ state false (by_token COMMA 6 ∷ []) ∷ state false (by_token L_PAREN 7 ∷ by_one NAME_REF 8 ∷ by_token R_PAREN 9
    ∷ []) ∷ state false (by_one NAME_REF 10 ∷ by_token R_PAREN 11 ∷ []) ∷ state false (by_token DOT 12 ∷
    by_token R_PAREN 9 ∷ []) ∷ state true [] ∷ state false (by_token DOT 7 ∷ by_token R_PAREN 11 ∷ []) ∷
    state false (by_token R_PAREN 9 ∷ []) ∷ state false (by_one NAME_REF 8 ∷ by_token R_PAREN 9 ∷ []) ∷ []

abbrev pub format_args_expr_states : List State
format_args_expr_states =
    state false (by_node attribute_kinds 0 ∷ by_token BUILTIN_KW 1 ∷ []) ∷ state false (by_token POUND 2 ∷ []) ∷
    state false (by_token FORMAT_ARGS_KW 3 ∷ []) ∷ state false (by_token L_PAREN 4 ∷ []) ∷
    state false (by_node expressions 5 ∷ []) ∷ state false (by_token COMMA 6 ∷ by_token R_PAREN 7 ∷ []) ∷
    state false (by_one FORMAT_ARGS_ARG 8 ∷ by_token R_PAREN 7 ∷ []) ∷ state true [] ∷ state false (by_token COMMA 6 ∷
    by_token R_PAREN 7 ∷ []) ∷ []

abbrev pub format_args_arg_states : List State
format_args_arg_states =
    state false (by_one NAME 1 ∷ by_node expressions 2 ∷ []) ∷ state false (by_token EQ 3 ∷ []) ∷ state true [] ∷
    state false (by_node expressions 2 ∷ []) ∷ []

abbrev pub include_bytes_expr_states : List State
include_bytes_expr_states =
    state false (by_node attribute_kinds 0 ∷ by_token BUILTIN_KW 1 ∷ []) ∷ state false (by_token POUND 2 ∷ []) ∷
    state false (by_token INCLUDE_BYTES_KW 3 ∷ []) ∷ state true [] ∷ []

abbrev pub cfg_pred_expr_states : List State
cfg_pred_expr_states =
    state false (by_node attribute_kinds 0 ∷ by_token BUILTIN_KW 1 ∷ []) ∷ state false (by_token POUND 2 ∷ []) ∷
    state false (by_token CFG_KW 3 ∷ []) ∷ state false (by_token L_PAREN 4 ∷ []) ∷ state false (by_node predicates 5 ∷
    []) ∷ state false (by_token COMMA 6 ∷ by_token R_PAREN 7 ∷ []) ∷ state false (by_token R_PAREN 7 ∷ []) ∷
    state true [] ∷ []

abbrev pub asm_expr_states : List State
asm_expr_states =
    state false (by_node attribute_kinds 0 ∷ by_token BUILTIN_KW 1 ∷ by_one VISIBILITY 2 ∷ []) ∷
    state false (by_token POUND 3 ∷ []) ∷ state false (by_token BUILTIN_KW 4 ∷ []) ∷ state false (by_leaf (ASM_KW ∷
    GLOBAL_ASM_KW ∷ NAKED_ASM_KW ∷ []) 5 ∷ []) ∷ state false (by_token POUND 6 ∷ []) ∷ state false (by_token L_PAREN 7 ∷
    []) ∷ state false (by_token GLOBAL_ASM_KW 5 ∷ []) ∷ state false (by_node expressions 8 ∷ []) ∷
    state false (by_token COMMA 9 ∷ by_token R_PAREN 10 ∷ []) ∷ state false (by_node (ASM_CLOBBER_ABI ∷
    ASM_OPERAND_NAMED ∷ ASM_OPTIONS ∷ []) 8 ∷ by_node attribute_kinds 11 ∷ by_node expressions 8 ∷ by_token R_PAREN 10 ∷
    []) ∷ state true [] ∷ state false (by_node attribute_kinds 11 ∷ by_node expressions 8 ∷ []) ∷ []

abbrev pub asm_clobber_abi_states : List State
asm_clobber_abi_states =
    state false (by_node attribute_kinds 0 ∷ by_token CLOBBER_ABI_KW 1 ∷ []) ∷ state false (by_token L_PAREN 2 ∷ []) ∷
    state true (by_token STRING 3 ∷ by_token R_PAREN 4 ∷ []) ∷ state false (by_token COMMA 2 ∷ by_token R_PAREN 4 ∷ [])
    ∷ state true [] ∷ []

abbrev pub asm_options_states : List State
asm_options_states =
    state false (by_node attribute_kinds 0 ∷ by_token OPTIONS_KW 1 ∷ []) ∷ state false (by_token L_PAREN 2 ∷ []) ∷
    state true (by_one ASM_OPTION 3 ∷ by_token R_PAREN 4 ∷ []) ∷ state false (by_token COMMA 2 ∷ by_token R_PAREN 4 ∷
    []) ∷ state true [] ∷ []

abbrev pub asm_option_states : List State
asm_option_states =
    state false (by_leaf (ATT_SYNTAX_KW ∷ MAY_UNWIND_KW ∷ NOMEM_KW ∷ NORETURN_KW ∷ NOSTACK_KW ∷ PRESERVES_FLAGS_KW ∷
    PURE_KW ∷ RAW_KW ∷ READONLY_KW ∷ []) 1 ∷ []) ∷ state true [] ∷ []

abbrev pub asm_dir_spec_states : List State
asm_dir_spec_states =
    state false (by_leaf (IN_KW ∷ INLATEOUT_KW ∷ INOUT_KW ∷ LATEOUT_KW ∷ OUT_KW ∷ []) 1 ∷ []) ∷ state true [] ∷ []

abbrev pub asm_operand_expr_states : List State
asm_operand_expr_states =
    state false (by_node expressions 1 ∷ []) ∷ state true (by_token FAT_ARROW 2 ∷ []) ∷
    state false (by_node expressions 3 ∷ []) ∷ state true [] ∷ []

abbrev pub asm_reg_operand_states : List State
asm_reg_operand_states =
    state false (by_one ASM_DIR_SPEC 1 ∷ []) ∷ state false (by_token L_PAREN 2 ∷ []) ∷
    state false (by_one ASM_REG_SPEC 3 ∷ []) ∷ state false (by_token R_PAREN 4 ∷ []) ∷
    state false (by_one ASM_OPERAND_EXPR 5 ∷ []) ∷ state true [] ∷ []

abbrev pub asm_operand_named_states : List State
asm_operand_named_states =
    state false (by_node attribute_kinds 0 ∷ by_one NAME 1 ∷ by_node (ASM_CONST ∷ ASM_LABEL ∷ ASM_REG_OPERAND ∷
    ASM_SYM ∷ []) 2 ∷ []) ∷ state false (by_token EQ 3 ∷ []) ∷ state true [] ∷ state false (by_node (ASM_CONST ∷
    ASM_LABEL ∷ ASM_REG_OPERAND ∷ ASM_SYM ∷ []) 2 ∷ []) ∷ []

abbrev pub asm_label_states : List State
asm_label_states = state false (by_token LABEL_KW 1 ∷ []) ∷ state false (by_one BLOCK_EXPR 2 ∷ []) ∷ state true [] ∷ []

abbrev pub asm_const_states : List State
asm_const_states =
    state false (by_token CONST_KW 1 ∷ []) ∷ state false (by_node expressions 2 ∷ []) ∷ state true [] ∷ []

abbrev pub asm_sym_states : List State
asm_sym_states =
    state false (by_token SYM_KW 1 ∷ []) ∷ state false (by_one PATH 2 ∷ by_token L_PAREN 3 ∷ []) ∷ state true [] ∷
    state false (by_one PATH 4 ∷ []) ∷ state false (by_token R_PAREN 2 ∷ []) ∷ []

abbrev pub asm_reg_spec_states : List State
asm_reg_spec_states = state false (by_token STRING 1 ∷ by_one NAME_REF 1 ∷ []) ∷ state true [] ∷ []

abbrev pub or_pat_states : List State
or_pat_states =
    state false (by_token PIPE 1 ∷ by_node single_patterns 2 ∷ []) ∷ state false (by_node single_patterns 2 ∷ []) ∷
    state true (by_token PIPE 1 ∷ []) ∷ []

abbrev pub range_pat_states : List State
range_pat_states =
    state false (by_leaf (DOT2 ∷ DOT2EQ ∷ []) 1 ∷ by_node range_ends 2 ∷ []) ∷ state false (by_node range_ends 3 ∷ []) ∷
    state false (by_leaf (DOT2 ∷ DOT2EQ ∷ DOT3 ∷ []) 4 ∷ []) ∷ state true [] ∷ state true (by_node range_ends 3 ∷ []) ∷
    []

abbrev pub rest_pat_states : List State
rest_pat_states = state false (by_node attribute_kinds 0 ∷ by_token DOT2 1 ∷ []) ∷ state true [] ∷ []

abbrev pub deref_pat_states : List State
deref_pat_states =
    state false (by_token BUILTIN_KW 1 ∷ []) ∷ state false (by_token POUND 2 ∷ []) ∷ state false (by_token DEREF_KW 3 ∷
    []) ∷ state false (by_token L_PAREN 4 ∷ []) ∷ state false (by_node patterns 5 ∷ []) ∷
    state false (by_token R_PAREN 6 ∷ []) ∷ state true [] ∷ []

abbrev pub cfg_pred_pat_states : List State
cfg_pred_pat_states =
    state false (by_token BUILTIN_KW 1 ∷ []) ∷ state false (by_token POUND 2 ∷ []) ∷ state false (by_token CFG_KW 3 ∷
    []) ∷ state false (by_token L_PAREN 4 ∷ []) ∷ state false (by_node predicates 5 ∷ []) ∷
    state false (by_token COMMA 6 ∷ by_token R_PAREN 7 ∷ []) ∷ state false (by_token R_PAREN 7 ∷ []) ∷ state true [] ∷
    []

abbrev pub literal_pat_states : List State
literal_pat_states =
    state false (by_token MINUS 1 ∷ by_one LITERAL 2 ∷ []) ∷ state false (by_one LITERAL 2 ∷ []) ∷ state true [] ∷ []

abbrev pub tuple_struct_pat_states : List State
tuple_struct_pat_states =
    state false (by_one PATH 1 ∷ []) ∷ state false (by_token L_PAREN 2 ∷ []) ∷ state false (by_node patterns 3 ∷
    by_token R_PAREN 4 ∷ []) ∷ state false (by_token COMMA 2 ∷ by_token R_PAREN 4 ∷ []) ∷ state true [] ∷ []

abbrev pub record_pat_states : List State
record_pat_states =
    state false (by_one PATH 1 ∷ []) ∷ state false (by_one RECORD_PAT_FIELD_LIST 2 ∷ []) ∷ state true [] ∷ []

abbrev pub record_pat_field_list_states : List State
record_pat_field_list_states =
    state false (by_token L_CURLY 1 ∷ []) ∷ state false (by_node (RECORD_PAT_FIELD ∷ REST_PAT ∷ []) 2 ∷
    by_token R_CURLY 3 ∷ []) ∷ state false (by_token COMMA 1 ∷ by_token R_CURLY 3 ∷ []) ∷ state true [] ∷ []

abbrev pub record_pat_field_states : List State
record_pat_field_states =
    state false (by_node attribute_kinds 0 ∷ by_node (BOX_PAT ∷ IDENT_PAT ∷ []) 1 ∷ by_one NAME_REF 2 ∷ []) ∷
    state true [] ∷ state false (by_token COLON 3 ∷ []) ∷ state false (by_node patterns 1 ∷ []) ∷ []

abbrev pub macro_pat_states : List State
macro_pat_states = state false (by_one MACRO_CALL 1 ∷ []) ∷ state true [] ∷ []

abbrev pub path_pat_states : List State
path_pat_states = state false (by_one PATH 1 ∷ []) ∷ state true [] ∷ []

abbrev pub wildcard_pat_states : List State
wildcard_pat_states = state false (by_token UNDERSCORE 1 ∷ []) ∷ state true [] ∷ []

abbrev pub ref_pat_states : List State
ref_pat_states =
    state false (by_token AMP 1 ∷ []) ∷ state false (by_token MUT_KW 2 ∷ by_node single_patterns 3 ∷ []) ∷
    state false (by_node single_patterns 3 ∷ []) ∷ state true [] ∷ []

abbrev pub not_null_states : List State
not_null_states = state false (by_token BANG 1 ∷ []) ∷ state false (by_node single_patterns 2 ∷ []) ∷ state true [] ∷ []

abbrev pub paren_pat_states : List State
paren_pat_states =
    state false (by_token L_PAREN 1 ∷ []) ∷ state false (by_node patterns 2 ∷ []) ∷ state false (by_token R_PAREN 3 ∷
    []) ∷ state true [] ∷ []

abbrev pub tuple_pat_states : List State
tuple_pat_states =
    state false (by_token L_PAREN 1 ∷ []) ∷ state false (by_node patterns 2 ∷ by_token R_PAREN 3 ∷ []) ∷
    state false (by_token COMMA 1 ∷ by_token R_PAREN 3 ∷ []) ∷ state true [] ∷ []

abbrev pub slice_pat_states : List State
slice_pat_states =
    state false (by_token L_BRACK 1 ∷ []) ∷ state false (by_node patterns 2 ∷ by_token R_BRACK 3 ∷ []) ∷
    state false (by_token COMMA 1 ∷ by_token R_BRACK 3 ∷ []) ∷ state true [] ∷ []

abbrev pub ident_pat_states : List State
ident_pat_states =
    state false (by_token REF_KW 1 ∷ by_token MUT_KW 2 ∷ by_one NAME 3 ∷ []) ∷ state false (by_token MUT_KW 2 ∷
    by_one NAME 3 ∷ []) ∷ state false (by_one NAME 3 ∷ []) ∷ state true (by_token AT 4 ∷ []) ∷
    state false (by_node single_patterns 5 ∷ []) ∷ state true [] ∷ []

abbrev pub box_pat_states : List State
box_pat_states =
    state false (by_token BOX_KW 1 ∷ []) ∷ state false (by_node single_patterns 2 ∷ []) ∷ state true [] ∷ []

abbrev pub const_block_pat_states : List State
const_block_pat_states =
    state false (by_token CONST_KW 1 ∷ []) ∷ state false (by_one BLOCK_EXPR 2 ∷ []) ∷ state true [] ∷ []

abbrev pub paren_type_states : List State
paren_type_states =
    state false (by_token L_PAREN 1 ∷ []) ∷ state false (by_node types 2 ∷ []) ∷ state false (by_token R_PAREN 3 ∷ []) ∷
    state true [] ∷ []

abbrev pub tuple_type_states : List State
tuple_type_states =
    state false (by_token L_PAREN 1 ∷ []) ∷ state false (by_node types 2 ∷ by_token R_PAREN 3 ∷ []) ∷
    state false (by_token COMMA 4 ∷ []) ∷ state true [] ∷ state false (by_node types 5 ∷ by_token R_PAREN 3 ∷ []) ∷
    state false (by_token COMMA 4 ∷ by_token R_PAREN 3 ∷ []) ∷ []

abbrev pub never_type_states : List State
never_type_states = state false (by_token BANG 1 ∷ []) ∷ state true [] ∷ []

abbrev pub ptr_type_states : List State
ptr_type_states =
    state false (by_token STAR 1 ∷ []) ∷ state false (by_leaf (CONST_KW ∷ MUT_KW ∷ []) 2 ∷ []) ∷
    state false (by_node types 3 ∷ []) ∷ state true [] ∷ []

abbrev pub slice_type_states : List State
slice_type_states =
    state false (by_token L_BRACK 1 ∷ []) ∷ state false (by_node types 2 ∷ []) ∷ state false (by_token R_BRACK 3 ∷ []) ∷
    state true [] ∷ []

abbrev pub array_type_states : List State
array_type_states =
    state false (by_token L_BRACK 1 ∷ []) ∷ state false (by_node types 2 ∷ []) ∷ state false (by_token SEMICOLON 3 ∷ [])
    ∷ state false (by_one CONST_ARG 4 ∷ []) ∷ state false (by_token R_BRACK 5 ∷ []) ∷ state true [] ∷ []

abbrev pub ref_type_states : List State
ref_type_states =
    state false (by_token AMP 1 ∷ []) ∷ state false (by_one LIFETIME 2 ∷ by_token MUT_KW 3 ∷ by_node types 4 ∷ []) ∷
    state false (by_token MUT_KW 3 ∷ by_node types 4 ∷ []) ∷ state false (by_node types 4 ∷ []) ∷ state true [] ∷ []

abbrev pub infer_type_states : List State
infer_type_states = state false (by_token UNDERSCORE 1 ∷ []) ∷ state true [] ∷ []

abbrev pub fn_ptr_type_states : List State
fn_ptr_type_states =
    state false (by_token UNSAFE_KW 1 ∷ by_one ABI 2 ∷ by_token FN_KW 3 ∷ []) ∷ state false (by_one ABI 2 ∷
    by_token FN_KW 3 ∷ []) ∷ state false (by_token FN_KW 3 ∷ []) ∷ state false (by_one PARAM_LIST 4 ∷ []) ∷
    state true (by_one RET_TYPE 5 ∷ []) ∷ state true [] ∷ []

abbrev pub for_binder_states : List State
for_binder_states =
    state false (by_token FOR_KW 1 ∷ []) ∷ state false (by_one GENERIC_PARAM_LIST 2 ∷ []) ∷ state true [] ∷ []

abbrev pub for_type_states : List State
for_type_states = state false (by_one FOR_BINDER 1 ∷ []) ∷ state false (by_node types 2 ∷ []) ∷ state true [] ∷ []

abbrev pub impl_trait_type_states : List State
impl_trait_type_states =
    state false (by_token IMPL_KW 1 ∷ []) ∷ state false (by_one TYPE_BOUND_LIST 2 ∷ []) ∷ state true [] ∷ []

abbrev pub dyn_trait_type_states : List State
dyn_trait_type_states =
    state false (by_token DYN_KW 1 ∷ by_one TYPE_BOUND_LIST 2 ∷ []) ∷ state false (by_one TYPE_BOUND_LIST 2 ∷ []) ∷
    state true [] ∷ []

abbrev pub macro_type_states : List State
macro_type_states = state false (by_one MACRO_CALL 1 ∷ []) ∷ state true [] ∷ []

abbrev pub path_type_states : List State
path_type_states = state false (by_one PATH 1 ∷ []) ∷ state true [] ∷ []

abbrev pub pattern_type_states : List State
pattern_type_states =
    state false (by_token BUILTIN_KW 1 ∷ []) ∷ state false (by_token POUND 2 ∷ []) ∷
    state false (by_token PATTERN_TYPE_KW 3 ∷ []) ∷ state false (by_token L_PAREN 4 ∷ []) ∷ state false (by_node types 5
    ∷ []) ∷ state false (by_token IS_KW 6 ∷ []) ∷ state false (by_node patterns 7 ∷ []) ∷
    state false (by_token R_PAREN 8 ∷ []) ∷ state true [] ∷ []

abbrev pub type_bound_states : List State
type_bound_states =
    state false (by_one LIFETIME 1 ∷ by_token USE_KW 2 ∷ by_one FOR_BINDER 3 ∷ by_token CONST_KW 4 ∷ by_token L_BRACK 5
    ∷ by_token TILDE 6 ∷ by_token ASYNC_KW 7 ∷ by_token QUESTION 8 ∷ by_one PATH_TYPE 1 ∷ by_node (FOR_TYPE ∷
    MACRO_TYPE ∷ []) 1 ∷ by_token L_PAREN 9 ∷ []) ∷ state true [] ∷ state false (by_one USE_BOUND_GENERIC_ARGS 1 ∷ []) ∷
    state false (by_token CONST_KW 4 ∷ by_token L_BRACK 5 ∷ by_token TILDE 6 ∷ by_token ASYNC_KW 7 ∷ by_token QUESTION 8
    ∷ by_one PATH_TYPE 1 ∷ []) ∷ state false (by_token ASYNC_KW 7 ∷ by_token QUESTION 8 ∷ by_one PATH_TYPE 1 ∷ []) ∷
    state false (by_token CONST_KW 10 ∷ []) ∷ state false (by_token CONST_KW 4 ∷ []) ∷ state false (by_token QUESTION 8
    ∷ by_one PATH_TYPE 1 ∷ []) ∷ state false (by_one PATH_TYPE 1 ∷ []) ∷ state false (by_one LIFETIME 11 ∷
    by_token USE_KW 12 ∷ by_one FOR_BINDER 13 ∷ by_token CONST_KW 14 ∷ by_token L_BRACK 15 ∷ by_token TILDE 16 ∷
    by_token ASYNC_KW 17 ∷ by_token QUESTION 18 ∷ by_one PATH_TYPE 11 ∷ []) ∷ state false (by_token R_BRACK 4 ∷ []) ∷
    state false (by_token R_PAREN 1 ∷ []) ∷ state false (by_one USE_BOUND_GENERIC_ARGS 11 ∷ []) ∷
    state false (by_token CONST_KW 14 ∷ by_token L_BRACK 15 ∷ by_token TILDE 16 ∷ by_token ASYNC_KW 17 ∷
    by_token QUESTION 18 ∷ by_one PATH_TYPE 11 ∷ []) ∷ state false (by_token ASYNC_KW 17 ∷ by_token QUESTION 18 ∷
    by_one PATH_TYPE 11 ∷ []) ∷ state false (by_token CONST_KW 19 ∷ []) ∷ state false (by_token CONST_KW 14 ∷ []) ∷
    state false (by_token QUESTION 18 ∷ by_one PATH_TYPE 11 ∷ []) ∷ state false (by_one PATH_TYPE 11 ∷ []) ∷
    state false (by_token R_BRACK 14 ∷ []) ∷ []

abbrev pub type_bound_list_states : List State
type_bound_list_states =
    state true (by_one TYPE_BOUND 1 ∷ by_token L_PAREN 2 ∷ by_one FOR_BINDER 3 ∷ by_token CONST_KW 4 ∷
    by_token L_BRACK 5 ∷ by_token TILDE 6 ∷ by_token ASYNC_KW 7 ∷ by_token QUESTION 8 ∷ []) ∷
    state true (by_token PLUS 0 ∷ []) ∷ state true (by_one FOR_BINDER 3 ∷ by_token CONST_KW 4 ∷ by_token L_BRACK 5 ∷
    by_token TILDE 6 ∷ by_token ASYNC_KW 7 ∷ by_token QUESTION 8 ∷ []) ∷ state true (by_token CONST_KW 4 ∷
    by_token L_BRACK 5 ∷ by_token TILDE 6 ∷ by_token ASYNC_KW 7 ∷ by_token QUESTION 8 ∷ []) ∷
    state true (by_token ASYNC_KW 7 ∷ by_token QUESTION 8 ∷ []) ∷ state false (by_token CONST_KW 9 ∷ []) ∷
    state false (by_token CONST_KW 4 ∷ []) ∷ state true (by_token QUESTION 8 ∷ []) ∷ state true [] ∷
    state false (by_token R_BRACK 4 ∷ []) ∷ []

abbrev pub generic_arg_list_states : List State
generic_arg_list_states =
    state false (by_token COLON2 1 ∷ by_token L_ANGLE 2 ∷ []) ∷ state false (by_token L_ANGLE 2 ∷ []) ∷
    state false (by_node generic_arguments 3 ∷ by_token R_ANGLE 4 ∷ []) ∷ state false (by_token COMMA 2 ∷
    by_token R_ANGLE 4 ∷ []) ∷ state true [] ∷ []

abbrev pub type_arg_states : List State
type_arg_states = state false (by_node types 1 ∷ []) ∷ state true [] ∷ []

abbrev pub lifetime_arg_states : List State
lifetime_arg_states = state false (by_one LIFETIME 1 ∷ []) ∷ state true [] ∷ []

abbrev pub const_arg_states : List State
const_arg_states = state false (by_node expressions 1 ∷ []) ∷ state true [] ∷ []

abbrev pub assoc_type_arg_states : List State
assoc_type_arg_states =
    state false (by_one NAME_REF 1 ∷ []) ∷ state false (by_node (GENERIC_ARG_LIST ∷ RETURN_TYPE_SYNTAX ∷ []) 2 ∷
    by_one PARENTHESIZED_ARG_LIST 3 ∷ by_token COLON 4 ∷ by_token EQ 5 ∷ []) ∷ state false (by_token COLON 4 ∷
    by_token EQ 5 ∷ []) ∷ state false (by_one RET_TYPE 2 ∷ by_token COLON 4 ∷ by_token EQ 5 ∷ []) ∷
    state false (by_one TYPE_BOUND_LIST 6 ∷ []) ∷ state false (by_node types 6 ∷ by_one CONST_ARG 6 ∷ []) ∷
    state true [] ∷ []

abbrev pub use_bound_generic_args_states : List State
use_bound_generic_args_states =
    state false (by_token L_ANGLE 1 ∷ []) ∷ state false (by_node (LIFETIME ∷ NAME_REF ∷ []) 2 ∷ by_token R_ANGLE 3 ∷ [])
    ∷ state false (by_token COMMA 1 ∷ by_token R_ANGLE 3 ∷ []) ∷ state true [] ∷ []

abbrev pub generic_param_list_states : List State
generic_param_list_states =
    state false (by_token L_ANGLE 1 ∷ []) ∷ state false (by_node generic_parameters 2 ∷ by_token R_ANGLE 3 ∷ []) ∷
    state false (by_token COMMA 1 ∷ by_token R_ANGLE 3 ∷ []) ∷ state true [] ∷ []

abbrev pub lifetime_param_states : List State
lifetime_param_states =
    state false (by_node attribute_kinds 0 ∷ by_one LIFETIME 1 ∷ []) ∷ state true (by_token COLON 2 ∷ []) ∷
    state false (by_one TYPE_BOUND_LIST 3 ∷ []) ∷ state true [] ∷ []

abbrev pub type_param_states : List State
type_param_states =
    state false (by_node attribute_kinds 0 ∷ by_one NAME 1 ∷ []) ∷ state true (by_token COLON 2 ∷ by_token EQ 3 ∷ []) ∷
    state false (by_one TYPE_BOUND_LIST 4 ∷ []) ∷ state false (by_node types 5 ∷ []) ∷ state true (by_token EQ 3 ∷ []) ∷
    state true [] ∷ []

abbrev pub const_param_states : List State
const_param_states =
    state false (by_node attribute_kinds 0 ∷ by_token CONST_KW 1 ∷ []) ∷ state false (by_one NAME 2 ∷ []) ∷
    state false (by_token COLON 3 ∷ []) ∷ state false (by_node types 4 ∷ []) ∷ state true (by_token EQ 5 ∷ []) ∷
    state false (by_one CONST_ARG 6 ∷ []) ∷ state true [] ∷ []

abbrev pub where_clause_states : List State
where_clause_states =
    state false (by_token WHERE_KW 1 ∷ []) ∷ state true (by_one WHERE_PRED 2 ∷ []) ∷ state true (by_token COMMA 1 ∷ [])
    ∷ []

abbrev pub where_pred_states : List State
where_pred_states =
    state false (by_one LIFETIME 1 ∷ by_one FOR_BINDER 2 ∷ by_node types 1 ∷ []) ∷ state false (by_token COLON 3 ∷ []) ∷
    state false (by_node types 1 ∷ []) ∷ state false (by_one TYPE_BOUND_LIST 4 ∷ []) ∷ state true [] ∷ []

abbrev pub doc_comment_states : List State
doc_comment_states = state false (by_leaf (OUTER_DOC_COMMENT ∷ INNER_DOC_COMMENT ∷ []) 1 ∷ []) ∷ state true [] ∷ []

abbrev pub attr_states : List State
attr_states =
    state false (by_token POUND 1 ∷ []) ∷ state false (by_token BANG 2 ∷ by_token L_BRACK 3 ∷ []) ∷
    state false (by_token L_BRACK 3 ∷ []) ∷ state false (by_node metas 4 ∷ []) ∷ state false (by_token R_BRACK 5 ∷ []) ∷
    state true [] ∷ []

abbrev pub unsafe_meta_states : List State
unsafe_meta_states =
    state false (by_token UNSAFE_KW 1 ∷ []) ∷ state false (by_token L_PAREN 2 ∷ []) ∷ state false (by_node metas 3 ∷ [])
    ∷ state false (by_token R_PAREN 4 ∷ []) ∷ state true [] ∷ []

abbrev pub cfg_attr_meta_states : List State
cfg_attr_meta_states =
    state false (by_token CFG_ATTR_KW 1 ∷ []) ∷ state false (by_token L_PAREN 2 ∷ []) ∷
    state false (by_node predicates 3 ∷ []) ∷ state false (by_token COMMA 4 ∷ []) ∷ state false (by_node metas 5 ∷
    by_token R_PAREN 6 ∷ []) ∷ state false (by_token COMMA 4 ∷ by_token R_PAREN 6 ∷ []) ∷ state true [] ∷ []

abbrev pub cfg_meta_states : List State
cfg_meta_states =
    state false (by_token CFG_KW 1 ∷ []) ∷ state false (by_token L_PAREN 2 ∷ []) ∷ state false (by_node predicates 3 ∷
    []) ∷ state false (by_token COMMA 4 ∷ by_token R_PAREN 5 ∷ []) ∷ state false (by_token R_PAREN 5 ∷ []) ∷
    state true [] ∷ []

abbrev pub cfg_atom_states : List State
cfg_atom_states =
    state false (by_token IDENT 1 ∷ by_leaf (TRUE_KW ∷ FALSE_KW ∷ []) 2 ∷ []) ∷ state true (by_token EQ 3 ∷ []) ∷
    state true [] ∷ state false (by_token STRING 2 ∷ []) ∷ []

abbrev pub cfg_composite_states : List State
cfg_composite_states =
    state false (by_token IDENT 1 ∷ []) ∷ state false (by_token L_PAREN 2 ∷ []) ∷ state false (by_node predicates 3 ∷
    by_token R_PAREN 4 ∷ []) ∷ state false (by_token COMMA 2 ∷ by_token R_PAREN 4 ∷ []) ∷ state true [] ∷ []

abbrev pub key_value_meta_states : List State
key_value_meta_states =
    state false (by_one PATH 1 ∷ []) ∷ state false (by_token EQ 2 ∷ []) ∷ state false (by_node expressions 3 ∷ []) ∷
    state true [] ∷ []

abbrev pub token_tree_meta_states : List State
token_tree_meta_states = state false (by_one PATH 1 ∷ []) ∷ state false (by_one TOKEN_TREE 2 ∷ []) ∷ state true [] ∷ []

abbrev pub path_meta_states : List State
path_meta_states = state false (by_one PATH 1 ∷ []) ∷ state true [] ∷ []

-- all of them
abbrev pub models : List (ℕ × List State)
models =
    (ERROR, error_states) ∷ (SOURCE_FILE, source_file_states) ∷ (MACRO_STMTS, macro_stmts_states) ∷
    (MACRO_ITEMS, macro_items_states) ∷ (NAME, name_states) ∷ (NAME_REF, name_ref_states) ∷ (LIFETIME, lifetime_states)
    ∷ (VISIBILITY, visibility_states) ∷ (VISIBILITY_INNER, visibility_inner_states) ∷ (RENAME, rename_states) ∷
    (ABI, abi_states) ∷ (RET_TYPE, ret_type_states) ∷ (PATH, path_states) ∷ (PATH_SEGMENT, path_segment_states) ∷
    (TYPE_ANCHOR, type_anchor_states) ∷ (RETURN_TYPE_SYNTAX, return_type_syntax_states) ∷
    (PARENTHESIZED_ARG_LIST, parenthesized_arg_list_states) ∷ (LET_STMT, let_stmt_states) ∷
    (EXPR_STMT, expr_stmt_states) ∷ (LET_ELSE, let_else_states) ∷ (STMT_LIST, stmt_list_states) ∷
    (BLOCK_EXPR, block_expr_states) ∷ (LABEL, label_states) ∷ (TRY_BLOCK_MODIFIER, try_block_modifier_states) ∷
    (RANGE_EXPR, range_expr_states) ∷ (BIN_EXPR, bin_expr_states) ∷ (REF_EXPR, ref_expr_states) ∷
    (PREFIX_EXPR, prefix_expr_states) ∷ (CALL_EXPR, call_expr_states) ∷ (INDEX_EXPR, index_expr_states) ∷
    (METHOD_CALL_EXPR, method_call_expr_states) ∷ (FIELD_EXPR, field_expr_states) ∷ (AWAIT_EXPR, await_expr_states) ∷
    (TRY_EXPR, try_expr_states) ∷ (CAST_EXPR, cast_expr_states) ∷ (ARG_LIST, arg_list_states) ∷
    (RECORD_EXPR, record_expr_states) ∷ (RECORD_EXPR_FIELD, record_expr_field_states) ∷
    (RECORD_EXPR_FIELD_LIST, record_expr_field_list_states) ∷ (MACRO_CALL, macro_call_states) ∷
    (MACRO_EXPR, macro_expr_states) ∷ (PATH_EXPR, path_expr_states) ∷ (LITERAL, literal_states) ∷
    (UNDERSCORE_EXPR, underscore_expr_states) ∷ (PAREN_EXPR, paren_expr_states) ∷ (TUPLE_EXPR, tuple_expr_states) ∷
    (ARRAY_EXPR, array_expr_states) ∷ (CLOSURE_EXPR, closure_expr_states) ∷ (IF_EXPR, if_expr_states) ∷
    (LOOP_EXPR, loop_expr_states) ∷ (WHILE_EXPR, while_expr_states) ∷ (FOR_EXPR, for_expr_states) ∷
    (LET_EXPR, let_expr_states) ∷ (MATCH_EXPR, match_expr_states) ∷ (MATCH_ARM_LIST, match_arm_list_states) ∷
    (MATCH_ARM, match_arm_states) ∷ (MATCH_GUARD, match_guard_states) ∷ (RETURN_EXPR, return_expr_states) ∷
    (BECOME_EXPR, become_expr_states) ∷ (YIELD_EXPR, yield_expr_states) ∷ (YEET_EXPR, yeet_expr_states) ∷
    (CONTINUE_EXPR, continue_expr_states) ∷ (BREAK_EXPR, break_expr_states) ∷ (OFFSET_OF_EXPR, offset_of_expr_states) ∷
    (FORMAT_ARGS_EXPR, format_args_expr_states) ∷ (FORMAT_ARGS_ARG, format_args_arg_states) ∷
    (INCLUDE_BYTES_EXPR, include_bytes_expr_states) ∷ (CFG_PRED_EXPR, cfg_pred_expr_states) ∷
    (ASM_EXPR, asm_expr_states) ∷ (ASM_CLOBBER_ABI, asm_clobber_abi_states) ∷ (ASM_OPTIONS, asm_options_states) ∷
    (ASM_OPTION, asm_option_states) ∷ (ASM_DIR_SPEC, asm_dir_spec_states) ∷ (ASM_OPERAND_EXPR, asm_operand_expr_states)
    ∷ (ASM_REG_OPERAND, asm_reg_operand_states) ∷ (ASM_OPERAND_NAMED, asm_operand_named_states) ∷
    (ASM_LABEL, asm_label_states) ∷ (ASM_CONST, asm_const_states) ∷ (ASM_SYM, asm_sym_states) ∷
    (ASM_REG_SPEC, asm_reg_spec_states) ∷ (MODULE, module_states) ∷ (ITEM_LIST, item_list_states) ∷
    (EXTERN_CRATE, extern_crate_states) ∷ (EXTERN_BLOCK, extern_block_states) ∷
    (EXTERN_ITEM_LIST, extern_item_list_states) ∷ (IMPL_RESTRICTION, impl_restriction_states) ∷
    (MUT_RESTRICTION, mut_restriction_states) ∷ (TYPE_ALIAS, type_alias_states) ∷ (MACRO_RULES, macro_rules_states) ∷
    (MACRO_DEF, macro_def_states) ∷ (FN, fn_states) ∷ (TOKEN_TREE, token_tree_states) ∷ (STRUCT, struct_states) ∷
    (UNION, union_states) ∷ (ENUM, enum_states) ∷ (VARIANT_LIST, variant_list_states) ∷ (VARIANT, variant_states) ∷
    (RECORD_FIELD_LIST, record_field_list_states) ∷ (RECORD_FIELD, record_field_states) ∷
    (TUPLE_FIELD_LIST, tuple_field_list_states) ∷ (TUPLE_FIELD, tuple_field_states) ∷ (CONST, const_states) ∷
    (STATIC, static_states) ∷ (TRAIT, trait_states) ∷ (IMPL, impl_states) ∷ (ASSOC_ITEM_LIST, assoc_item_list_states) ∷
    (USE, use_states) ∷ (USE_TREE, use_tree_states) ∷ (USE_TREE_LIST, use_tree_list_states) ∷
    (PARAM_LIST, param_list_states) ∷ (PARAM, param_states) ∷ (SELF_PARAM, self_param_states) ∷ (OR_PAT, or_pat_states)
    ∷ (RANGE_PAT, range_pat_states) ∷ (REST_PAT, rest_pat_states) ∷ (DEREF_PAT, deref_pat_states) ∷
    (CFG_PRED_PAT, cfg_pred_pat_states) ∷ (LITERAL_PAT, literal_pat_states) ∷
    (TUPLE_STRUCT_PAT, tuple_struct_pat_states) ∷ (RECORD_PAT, record_pat_states) ∷
    (RECORD_PAT_FIELD_LIST, record_pat_field_list_states) ∷ (RECORD_PAT_FIELD, record_pat_field_states) ∷
    (MACRO_PAT, macro_pat_states) ∷ (PATH_PAT, path_pat_states) ∷ (WILDCARD_PAT, wildcard_pat_states) ∷
    (REF_PAT, ref_pat_states) ∷ (NOT_NULL, not_null_states) ∷ (PAREN_PAT, paren_pat_states) ∷
    (TUPLE_PAT, tuple_pat_states) ∷ (SLICE_PAT, slice_pat_states) ∷ (IDENT_PAT, ident_pat_states) ∷
    (BOX_PAT, box_pat_states) ∷ (CONST_BLOCK_PAT, const_block_pat_states) ∷ (PAREN_TYPE, paren_type_states) ∷
    (TUPLE_TYPE, tuple_type_states) ∷ (NEVER_TYPE, never_type_states) ∷ (PTR_TYPE, ptr_type_states) ∷
    (SLICE_TYPE, slice_type_states) ∷ (ARRAY_TYPE, array_type_states) ∷ (REF_TYPE, ref_type_states) ∷
    (INFER_TYPE, infer_type_states) ∷ (FN_PTR_TYPE, fn_ptr_type_states) ∷ (FOR_BINDER, for_binder_states) ∷
    (FOR_TYPE, for_type_states) ∷ (IMPL_TRAIT_TYPE, impl_trait_type_states) ∷ (DYN_TRAIT_TYPE, dyn_trait_type_states) ∷
    (MACRO_TYPE, macro_type_states) ∷ (PATH_TYPE, path_type_states) ∷ (PATTERN_TYPE, pattern_type_states) ∷
    (TYPE_BOUND, type_bound_states) ∷ (TYPE_BOUND_LIST, type_bound_list_states) ∷
    (GENERIC_ARG_LIST, generic_arg_list_states) ∷ (TYPE_ARG, type_arg_states) ∷ (LIFETIME_ARG, lifetime_arg_states) ∷
    (CONST_ARG, const_arg_states) ∷ (ASSOC_TYPE_ARG, assoc_type_arg_states) ∷
    (USE_BOUND_GENERIC_ARGS, use_bound_generic_args_states) ∷ (GENERIC_PARAM_LIST, generic_param_list_states) ∷
    (LIFETIME_PARAM, lifetime_param_states) ∷ (TYPE_PARAM, type_param_states) ∷ (CONST_PARAM, const_param_states) ∷
    (WHERE_CLAUSE, where_clause_states) ∷ (WHERE_PRED, where_pred_states) ∷ (DOC_COMMENT, doc_comment_states) ∷
    (ATTR, attr_states) ∷ (UNSAFE_META, unsafe_meta_states) ∷ (CFG_ATTR_META, cfg_attr_meta_states) ∷
    (CFG_META, cfg_meta_states) ∷ (CFG_ATOM, cfg_atom_states) ∷ (CFG_COMPOSITE, cfg_composite_states) ∷
    (KEY_VALUE_META, key_value_meta_states) ∷ (TOKEN_TREE_META, token_tree_meta_states) ∷ (PATH_META, path_meta_states)
    ∷ []

-- the automaton of a kind; of a kind that no node has, one that takes nothing
abbrev pub model_in : List (ℕ × List State) → ℕ → List State
model_in [] kind = []
model_in (row ∷ rows) kind = let rest = model_in rows kind in if row.0 == kind then row.1 else rest

abbrev pub model : ℕ → List State
model kind = model_in models kind
