-- Written by crates/rap_base/fields from fields.txt beside it and the shapes of nodes: an edit here is lost.
-- The rules of the fields of each kind.
use Rattle.std.specs.Prelude.{List, [], ℕ, ◌∷◌, ◌/◌, ◌%◌, get_or}
use Rattle.rap_base.specs.NodeKind.{ABI, ARG_LIST, ASM_CLOBBER_ABI, ASM_CONST, ASM_DIR_SPEC, ASM_LABEL, ASM_OPERAND_EXPR, ASM_OPERAND_NAMED, ASM_OPTION, ASM_OPTIONS, ASM_REG_OPERAND, ASM_REG_SPEC, ASM_SYM, ASSOC_ITEM_LIST, ATTR, BLOCK_EXPR, CFG_ATOM, CFG_COMPOSITE, CONST, CONST_ARG, DOC_COMMENT, EXPR_STMT, EXTERN_ITEM_LIST, FN, FORMAT_ARGS_ARG, FOR_BINDER, GENERIC_ARG_LIST, GENERIC_PARAM_LIST, IF_EXPR, IMPL_RESTRICTION, ITEM_LIST, LABEL, LET_ELSE, LET_STMT, LIFETIME, LITERAL, MACRO_CALL, MATCH_ARM, MATCH_ARM_LIST, MATCH_GUARD, MUT_RESTRICTION, NAME, NAME_REF, PARAM, PARAM_LIST, PARENTHESIZED_ARG_LIST, PATH, PATH_SEGMENT, RECORD_EXPR_FIELD, RECORD_EXPR_FIELD_LIST, RECORD_FIELD, RECORD_FIELD_LIST, RECORD_PAT_FIELD, RECORD_PAT_FIELD_LIST, RENAME, REST_PAT, RETURN_TYPE_SYNTAX, RET_TYPE, SELF_PARAM, STATIC, STMT_LIST, TOKEN_TREE, TRY_BLOCK_MODIFIER, TUPLE_FIELD, TUPLE_FIELD_LIST, TYPE_ALIAS, TYPE_ANCHOR, TYPE_ARG, TYPE_BOUND, TYPE_BOUND_LIST, USE_BOUND_GENERIC_ARGS, USE_TREE, USE_TREE_LIST, VARIANT, VARIANT_LIST, VISIBILITY, VISIBILITY_INNER, WHERE_CLAUSE, WHERE_PRED}
use Rattle.rap_base.specs.TokenKind.{AMP, ASM_KW, ASYNC_KW, AS_KW, AT, ATT_SYNTAX_KW, AUTO_KW, AWAIT_KW, BANG, BECOME_KW, BIKESHED_KW, BOX_KW, BREAK_KW, BUILTIN_KW, BYTE, BYTE_STRING, CFG_ATTR_KW, CFG_KW, CHAR, CLOBBER_ABI_KW, COLON, COLON2, COMMA, CONST_KW, CONTINUE_KW, CRATE_KW, C_STRING, DEFAULT_KW, DEREF_KW, DOT, DOT2, DOT2EQ, DOT3, DO_KW, DYN_KW, ELSE_KW, ENUM_KW, EQ, EXTERN_KW, FALSE_KW, FAT_ARROW, FLOAT_NUMBER, FN_KW, FORMAT_ARGS_KW, FOR_KW, FRONTMATTER, GEN_KW, GLOBAL_ASM_KW, IDENT, IF_KW, IMPL_KW, INCLUDE_BYTES_KW, INLATEOUT_KW, INNER_DOC_COMMENT, INOUT_KW, INT_NUMBER, IN_KW, IS_KW, LABEL_KW, LATEOUT_KW, LET_KW, LIFETIME_IDENT, LOOP_KW, L_ANGLE, L_BRACK, L_CURLY, L_PAREN, MACRO_KW, MACRO_RULES_KW, MATCH_KW, MAY_UNWIND_KW, MINUS, MOD_KW, MOVE_KW, MUT_KW, NAKED_ASM_KW, NOMEM_KW, NORETURN_KW, NOSTACK_KW, OFFSET_OF_KW, OPTIONS_KW, OUTER_DOC_COMMENT, OUT_KW, PATTERN_TYPE_KW, PIPE, POUND, PRESERVES_FLAGS_KW, PUB_KW, PURE_KW, QUESTION, RAW_KW, READONLY_KW, REF_KW, RETURN_KW, R_ANGLE, R_BRACK, R_CURLY, R_PAREN, SAFE_KW, SELF_KW, SELF_TYPE_KW, SEMICOLON, SHEBANG, STAR, STATIC_KW, STRING, STRUCT_KW, SUPER_KW, SYM_KW, THIN_ARROW, TILDE, TRAIT_KW, TRUE_KW, TRY_KW, TYPE_KW, UNDERSCORE, UNION_KW, UNSAFE_KW, USE_KW, WHERE_KW, WHILE_KW, YEET_KW, YIELD_KW}
use Rattle.rap_grammar_shapes.specs.Shapes.{expressions, generic_arguments, generic_parameters, items, metas, operators, patterns, types}
use Rattle.rap_fields.specs.FieldNames as field
use Rattle.rap_fields.specs.Rule.{Row, look, first_of, last_of, all_of}
use Rattle.rap_fields.specs.declared.rule.Place.TheVariants.{Anywhere, Before, OnlyBefore, After, Past}
use Rattle.rap_fields.specs.declared.rule.Which.TheVariants.{First, Last, All}

abbrev pub error_rules : List Row
error_rules =
    (field.ATTRS, all_of (ATTR ∷ [])) ∷ (field.DOC_COMMENTS, all_of (DOC_COMMENT ∷ [])) ∷
    (field.PATH, first_of (PATH ∷ [])) ∷ []

abbrev pub source_file_rules : List Row
source_file_rules =
    (field.ATTRS, all_of (ATTR ∷ [])) ∷ (field.DOC_COMMENTS, all_of (DOC_COMMENT ∷ [])) ∷ (field.ITEMS, all_of items) ∷
    (field.SHEBANG_TOKEN, first_of (SHEBANG ∷ [])) ∷ (field.FRONTMATTER_TOKEN, first_of (FRONTMATTER ∷ [])) ∷ []

abbrev pub macro_stmts_rules : List Row
macro_stmts_rules = (field.STATEMENTS, all_of (LET_STMT ∷ EXPR_STMT ∷ items)) ∷ (field.EXPR, first_of expressions) ∷ []

abbrev pub macro_items_rules : List Row
macro_items_rules =
    (field.ATTRS, all_of (ATTR ∷ [])) ∷ (field.DOC_COMMENTS, all_of (DOC_COMMENT ∷ [])) ∷ (field.ITEMS, all_of items) ∷
    []

abbrev pub name_rules : List Row
name_rules = (field.IDENT_TOKEN, first_of (IDENT ∷ [])) ∷ (field.SELF_TOKEN, first_of (SELF_KW ∷ [])) ∷ []

abbrev pub name_ref_rules : List Row
name_ref_rules =
    (field.IDENT_TOKEN, first_of (IDENT ∷ [])) ∷ (field.INT_NUMBER_TOKEN, first_of (INT_NUMBER ∷ [])) ∷
    (field.SELF_TOKEN, first_of (SELF_KW ∷ [])) ∷ (field.SUPER_TOKEN, first_of (SUPER_KW ∷ [])) ∷
    (field.CRATE_TOKEN, first_of (CRATE_KW ∷ [])) ∷ (field.SELF_TYPE_TOKEN, first_of (SELF_TYPE_KW ∷ [])) ∷ []

abbrev pub lifetime_rules : List Row
lifetime_rules = (field.LIFETIME_IDENT_TOKEN, first_of (LIFETIME_IDENT ∷ [])) ∷ []

abbrev pub visibility_rules : List Row
visibility_rules =
    (field.VISIBILITY_INNER, first_of (VISIBILITY_INNER ∷ [])) ∷ (field.PUB_TOKEN, first_of (PUB_KW ∷ [])) ∷ []

abbrev pub visibility_inner_rules : List Row
visibility_inner_rules =
    (field.PATH, first_of (PATH ∷ [])) ∷ (field.L_PAREN_TOKEN, first_of (L_PAREN ∷ [])) ∷
    (field.IN_TOKEN, first_of (IN_KW ∷ [])) ∷ (field.R_PAREN_TOKEN, first_of (R_PAREN ∷ [])) ∷ []

abbrev pub rename_rules : List Row
rename_rules =
    (field.NAME, first_of (NAME ∷ [])) ∷ (field.AS_TOKEN, first_of (AS_KW ∷ [])) ∷
    (field.UNDERSCORE_TOKEN, first_of (UNDERSCORE ∷ [])) ∷ []

abbrev pub abi_rules : List Row
abi_rules = (field.EXTERN_TOKEN, first_of (EXTERN_KW ∷ [])) ∷ (field.STRING_TOKEN, first_of (STRING ∷ [])) ∷ []

abbrev pub ret_type_rules : List Row
ret_type_rules = (field.TY, first_of types) ∷ (field.THIN_ARROW_TOKEN, first_of (THIN_ARROW ∷ [])) ∷ []

abbrev pub path_rules : List Row
path_rules =
    (field.QUALIFIER, first_of (PATH ∷ [])) ∷ (field.SEGMENT, first_of (PATH_SEGMENT ∷ [])) ∷
    (field.COLONCOLON_TOKEN, first_of (COLON2 ∷ [])) ∷ []

abbrev pub path_segment_rules : List Row
path_segment_rules =
    (field.TYPE_ANCHOR, first_of (TYPE_ANCHOR ∷ [])) ∷ (field.NAME_REF, first_of (NAME_REF ∷ [])) ∷
    (field.GENERIC_ARG_LIST, first_of (GENERIC_ARG_LIST ∷ [])) ∷
    (field.RETURN_TYPE_SYNTAX, first_of (RETURN_TYPE_SYNTAX ∷ [])) ∷
    (field.PARENTHESIZED_ARG_LIST, first_of (PARENTHESIZED_ARG_LIST ∷ [])) ∷
    (field.RET_TYPE, first_of (RET_TYPE ∷ [])) ∷ (field.COLONCOLON_TOKEN, first_of (COLON2 ∷ [])) ∷ []

abbrev pub type_anchor_rules : List Row
type_anchor_rules =
    (field.TY, look Anywhere First (AS_KW ∷ []) ∷ look Before First types ∷ []) ∷
    (field.PATH_TYPE, look Anywhere First (AS_KW ∷ []) ∷ look After First types ∷ []) ∷
    (field.L_ANGLE_TOKEN, first_of (L_ANGLE ∷ [])) ∷ (field.AS_TOKEN, first_of (AS_KW ∷ [])) ∷
    (field.R_ANGLE_TOKEN, first_of (R_ANGLE ∷ [])) ∷ []

abbrev pub return_type_syntax_rules : List Row
return_type_syntax_rules =
    (field.COLONCOLON_TOKEN, first_of (COLON2 ∷ [])) ∷ (field.L_PAREN_TOKEN, first_of (L_PAREN ∷ [])) ∷
    (field.DOTDOT_TOKEN, first_of (DOT2 ∷ [])) ∷ (field.R_PAREN_TOKEN, first_of (R_PAREN ∷ [])) ∷ []

abbrev pub parenthesized_arg_list_rules : List Row
parenthesized_arg_list_rules =
    (field.TYPE_ARGS, all_of (TYPE_ARG ∷ [])) ∷ (field.COLONCOLON_TOKEN, first_of (COLON2 ∷ [])) ∷
    (field.L_PAREN_TOKEN, first_of (L_PAREN ∷ [])) ∷ (field.R_PAREN_TOKEN, first_of (R_PAREN ∷ [])) ∷ []

abbrev pub let_stmt_rules : List Row
let_stmt_rules =
    (field.ATTRS, all_of (ATTR ∷ [])) ∷ (field.DOC_COMMENTS, all_of (DOC_COMMENT ∷ [])) ∷
    (field.PAT, first_of patterns) ∷ (field.TY, first_of types) ∷ (field.INITIALIZER, first_of expressions) ∷
    (field.LET_ELSE, first_of (LET_ELSE ∷ [])) ∷ (field.SUPER_TOKEN, first_of (SUPER_KW ∷ [])) ∷
    (field.LET_TOKEN, first_of (LET_KW ∷ [])) ∷ (field.COLON_TOKEN, first_of (COLON ∷ [])) ∷
    (field.EQ_TOKEN, first_of (EQ ∷ [])) ∷ (field.SEMICOLON_TOKEN, first_of (SEMICOLON ∷ [])) ∷ []

abbrev pub expr_stmt_rules : List Row
expr_stmt_rules = (field.EXPR, first_of expressions) ∷ (field.SEMICOLON_TOKEN, first_of (SEMICOLON ∷ [])) ∷ []

abbrev pub let_else_rules : List Row
let_else_rules = (field.BLOCK_EXPR, first_of (BLOCK_EXPR ∷ [])) ∷ (field.ELSE_TOKEN, first_of (ELSE_KW ∷ [])) ∷ []

abbrev pub stmt_list_rules : List Row
stmt_list_rules =
    (field.ATTRS, all_of (ATTR ∷ [])) ∷ (field.DOC_COMMENTS, all_of (DOC_COMMENT ∷ [])) ∷
    (field.STATEMENTS, all_of (LET_STMT ∷ EXPR_STMT ∷ items)) ∷ (field.TAIL_EXPR, first_of expressions) ∷
    (field.L_CURLY_TOKEN, first_of (L_CURLY ∷ [])) ∷ (field.R_CURLY_TOKEN, first_of (R_CURLY ∷ [])) ∷ []

abbrev pub block_expr_rules : List Row
block_expr_rules =
    (field.ATTRS, all_of (ATTR ∷ [])) ∷ (field.DOC_COMMENTS, all_of (DOC_COMMENT ∷ [])) ∷
    (field.LABEL, first_of (LABEL ∷ [])) ∷ (field.TRY_BLOCK_MODIFIER, first_of (TRY_BLOCK_MODIFIER ∷ [])) ∷
    (field.STMT_LIST, first_of (STMT_LIST ∷ [])) ∷ (field.UNSAFE_TOKEN, first_of (UNSAFE_KW ∷ [])) ∷
    (field.CONST_TOKEN, first_of (CONST_KW ∷ [])) ∷ (field.ASYNC_TOKEN, first_of (ASYNC_KW ∷ [])) ∷
    (field.GEN_TOKEN, first_of (GEN_KW ∷ [])) ∷ (field.MOVE_TOKEN, first_of (MOVE_KW ∷ [])) ∷ []

abbrev pub label_rules : List Row
label_rules = (field.LIFETIME, first_of (LIFETIME ∷ [])) ∷ (field.COLON_TOKEN, first_of (COLON ∷ [])) ∷ []

abbrev pub try_block_modifier_rules : List Row
try_block_modifier_rules =
    (field.TY, first_of types) ∷ (field.TRY_TOKEN, first_of (TRY_KW ∷ [])) ∷
    (field.BIKESHED_TOKEN, first_of (BIKESHED_KW ∷ [])) ∷ []

abbrev pub range_expr_rules : List Row
range_expr_rules =
    (field.ATTRS, all_of (ATTR ∷ [])) ∷ (field.DOC_COMMENTS, all_of (DOC_COMMENT ∷ [])) ∷
    (field.START, look Anywhere First (DOT2 ∷ DOT2EQ ∷ []) ∷ look Before First expressions ∷ []) ∷
    (field.END, look Anywhere First (DOT2 ∷ DOT2EQ ∷ []) ∷ look After First expressions ∷ []) ∷
    (field.OP_TOKEN, first_of (DOT2 ∷ DOT2EQ ∷ [])) ∷ []

abbrev pub bin_expr_rules : List Row
bin_expr_rules =
    (field.LHS, look Anywhere First operators ∷ look Before First expressions ∷ []) ∷
    (field.RHS, look Anywhere First operators ∷ look After First expressions ∷ []) ∷
    (field.OP_TOKEN, first_of operators) ∷ []

abbrev pub ref_expr_rules : List Row
ref_expr_rules =
    (field.ATTRS, all_of (ATTR ∷ [])) ∷ (field.DOC_COMMENTS, all_of (DOC_COMMENT ∷ [])) ∷
    (field.EXPR, first_of expressions) ∷ (field.AMP_TOKEN, first_of (AMP ∷ [])) ∷
    (field.RAW_TOKEN, first_of (RAW_KW ∷ [])) ∷ (field.MUT_TOKEN, first_of (MUT_KW ∷ [])) ∷
    (field.CONST_TOKEN, first_of (CONST_KW ∷ [])) ∷ []

abbrev pub prefix_expr_rules : List Row
prefix_expr_rules =
    (field.ATTRS, all_of (ATTR ∷ [])) ∷ (field.DOC_COMMENTS, all_of (DOC_COMMENT ∷ [])) ∷
    (field.EXPR, first_of expressions) ∷ (field.OP_TOKEN, first_of (STAR ∷ BANG ∷ MINUS ∷ [])) ∷ []

abbrev pub call_expr_rules : List Row
call_expr_rules =
    (field.ATTRS, all_of (ATTR ∷ [])) ∷ (field.DOC_COMMENTS, all_of (DOC_COMMENT ∷ [])) ∷
    (field.EXPR, first_of expressions) ∷ (field.ARG_LIST, first_of (ARG_LIST ∷ [])) ∷ []

abbrev pub index_expr_rules : List Row
index_expr_rules =
    (field.ATTRS, all_of (ATTR ∷ [])) ∷ (field.DOC_COMMENTS, all_of (DOC_COMMENT ∷ [])) ∷
    (field.BASE, look Anywhere First (L_BRACK ∷ []) ∷ look Before First expressions ∷ []) ∷
    (field.INDEX, look Anywhere First (L_BRACK ∷ []) ∷ look After First expressions ∷ []) ∷
    (field.L_BRACK_TOKEN, first_of (L_BRACK ∷ [])) ∷ (field.R_BRACK_TOKEN, first_of (R_BRACK ∷ [])) ∷ []

abbrev pub method_call_expr_rules : List Row
method_call_expr_rules =
    (field.ATTRS, all_of (ATTR ∷ [])) ∷ (field.DOC_COMMENTS, all_of (DOC_COMMENT ∷ [])) ∷
    (field.RECEIVER, first_of expressions) ∷ (field.NAME_REF, first_of (NAME_REF ∷ [])) ∷
    (field.GENERIC_ARG_LIST, first_of (GENERIC_ARG_LIST ∷ [])) ∷ (field.ARG_LIST, first_of (ARG_LIST ∷ [])) ∷
    (field.DOT_TOKEN, first_of (DOT ∷ [])) ∷ []

abbrev pub field_expr_rules : List Row
field_expr_rules =
    (field.ATTRS, all_of (ATTR ∷ [])) ∷ (field.DOC_COMMENTS, all_of (DOC_COMMENT ∷ [])) ∷
    (field.EXPR, first_of expressions) ∷ (field.NAME_REF, first_of (NAME_REF ∷ [])) ∷
    (field.DOT_TOKEN, first_of (DOT ∷ [])) ∷ []

abbrev pub await_expr_rules : List Row
await_expr_rules =
    (field.ATTRS, all_of (ATTR ∷ [])) ∷ (field.DOC_COMMENTS, all_of (DOC_COMMENT ∷ [])) ∷
    (field.EXPR, first_of expressions) ∷ (field.DOT_TOKEN, first_of (DOT ∷ [])) ∷
    (field.AWAIT_TOKEN, first_of (AWAIT_KW ∷ [])) ∷ []

abbrev pub try_expr_rules : List Row
try_expr_rules =
    (field.ATTRS, all_of (ATTR ∷ [])) ∷ (field.DOC_COMMENTS, all_of (DOC_COMMENT ∷ [])) ∷
    (field.EXPR, first_of expressions) ∷ (field.QUESTION_MARK_TOKEN, first_of (QUESTION ∷ [])) ∷ []

abbrev pub cast_expr_rules : List Row
cast_expr_rules =
    (field.EXPR, first_of expressions) ∷ (field.TY, first_of types) ∷ (field.AS_TOKEN, first_of (AS_KW ∷ [])) ∷ []

abbrev pub arg_list_rules : List Row
arg_list_rules =
    (field.ARGS, all_of expressions) ∷ (field.L_PAREN_TOKEN, first_of (L_PAREN ∷ [])) ∷
    (field.R_PAREN_TOKEN, first_of (R_PAREN ∷ [])) ∷ []

abbrev pub record_expr_rules : List Row
record_expr_rules =
    (field.ATTRS, all_of (ATTR ∷ [])) ∷ (field.DOC_COMMENTS, all_of (DOC_COMMENT ∷ [])) ∷
    (field.PATH, first_of (PATH ∷ [])) ∷ (field.RECORD_EXPR_FIELD_LIST, first_of (RECORD_EXPR_FIELD_LIST ∷ [])) ∷ []

abbrev pub record_expr_field_rules : List Row
record_expr_field_rules =
    (field.ATTRS, all_of (ATTR ∷ [])) ∷ (field.DOC_COMMENTS, all_of (DOC_COMMENT ∷ [])) ∷
    (field.NAME_REF, first_of (NAME_REF ∷ [])) ∷ (field.EXPR, first_of expressions) ∷
    (field.COLON_TOKEN, first_of (COLON ∷ [])) ∷ []

abbrev pub record_expr_field_list_rules : List Row
record_expr_field_list_rules =
    (field.FIELDS, all_of (RECORD_EXPR_FIELD ∷ [])) ∷ (field.ATTRS, all_of (ATTR ∷ [])) ∷
    (field.DOC_COMMENTS, all_of (DOC_COMMENT ∷ [])) ∷ (field.SPREAD, first_of expressions) ∷
    (field.L_CURLY_TOKEN, first_of (L_CURLY ∷ [])) ∷ (field.DOTDOT_TOKEN, first_of (DOT2 ∷ [])) ∷
    (field.R_CURLY_TOKEN, first_of (R_CURLY ∷ [])) ∷ []

abbrev pub macro_call_rules : List Row
macro_call_rules =
    (field.ATTRS, all_of (ATTR ∷ [])) ∷ (field.DOC_COMMENTS, all_of (DOC_COMMENT ∷ [])) ∷
    (field.PATH, first_of (PATH ∷ [])) ∷ (field.TOKEN_TREE, first_of (TOKEN_TREE ∷ [])) ∷
    (field.EXCL_TOKEN, first_of (BANG ∷ [])) ∷ (field.SEMICOLON_TOKEN, first_of (SEMICOLON ∷ [])) ∷ []

abbrev pub macro_expr_rules : List Row
macro_expr_rules =
    (field.ATTRS, all_of (ATTR ∷ [])) ∷ (field.DOC_COMMENTS, all_of (DOC_COMMENT ∷ [])) ∷
    (field.MACRO_CALL, first_of (MACRO_CALL ∷ [])) ∷ []

abbrev pub path_expr_rules : List Row
path_expr_rules =
    (field.ATTRS, all_of (ATTR ∷ [])) ∷ (field.DOC_COMMENTS, all_of (DOC_COMMENT ∷ [])) ∷
    (field.PATH, first_of (PATH ∷ [])) ∷ []

abbrev pub literal_rules : List Row
literal_rules =
    (field.ATTRS, all_of (ATTR ∷ [])) ∷ (field.DOC_COMMENTS, all_of (DOC_COMMENT ∷ [])) ∷
    (field.TOKEN, first_of (FALSE_KW ∷ TRUE_KW ∷ INT_NUMBER ∷ FLOAT_NUMBER ∷ CHAR ∷ BYTE ∷ STRING ∷ BYTE_STRING ∷ C_STRING ∷ [])) ∷
    []

abbrev pub underscore_expr_rules : List Row
underscore_expr_rules =
    (field.ATTRS, all_of (ATTR ∷ [])) ∷ (field.DOC_COMMENTS, all_of (DOC_COMMENT ∷ [])) ∷
    (field.UNDERSCORE_TOKEN, first_of (UNDERSCORE ∷ [])) ∷ []

abbrev pub paren_expr_rules : List Row
paren_expr_rules =
    (field.ATTRS, all_of (ATTR ∷ [])) ∷ (field.DOC_COMMENTS, all_of (DOC_COMMENT ∷ [])) ∷
    (field.EXPR, first_of expressions) ∷ (field.L_PAREN_TOKEN, first_of (L_PAREN ∷ [])) ∷
    (field.R_PAREN_TOKEN, first_of (R_PAREN ∷ [])) ∷ []

abbrev pub tuple_expr_rules : List Row
tuple_expr_rules =
    (field.ATTRS, all_of (ATTR ∷ [])) ∷ (field.DOC_COMMENTS, all_of (DOC_COMMENT ∷ [])) ∷
    (field.FIELDS, all_of expressions) ∷ (field.L_PAREN_TOKEN, first_of (L_PAREN ∷ [])) ∷
    (field.R_PAREN_TOKEN, first_of (R_PAREN ∷ [])) ∷ []

abbrev pub array_expr_rules : List Row
array_expr_rules =
    (field.ATTRS, all_of (ATTR ∷ [])) ∷ (field.DOC_COMMENTS, all_of (DOC_COMMENT ∷ [])) ∷
    (field.EXPRS, look Anywhere First (SEMICOLON ∷ []) ∷ look Before All expressions ∷ []) ∷
    (field.REPEAT, look Anywhere First (SEMICOLON ∷ []) ∷ look After First expressions ∷ []) ∷
    (field.L_BRACK_TOKEN, first_of (L_BRACK ∷ [])) ∷ (field.SEMICOLON_TOKEN, first_of (SEMICOLON ∷ [])) ∷
    (field.R_BRACK_TOKEN, first_of (R_BRACK ∷ [])) ∷ []

abbrev pub closure_expr_rules : List Row
closure_expr_rules =
    (field.ATTRS, all_of (ATTR ∷ [])) ∷ (field.DOC_COMMENTS, all_of (DOC_COMMENT ∷ [])) ∷
    (field.FOR_BINDER, first_of (FOR_BINDER ∷ [])) ∷ (field.PARAM_LIST, first_of (PARAM_LIST ∷ [])) ∷
    (field.RET_TYPE, first_of (RET_TYPE ∷ [])) ∷ (field.BODY, first_of expressions) ∷
    (field.CONST_TOKEN, first_of (CONST_KW ∷ [])) ∷ (field.STATIC_TOKEN, first_of (STATIC_KW ∷ [])) ∷
    (field.ASYNC_TOKEN, first_of (ASYNC_KW ∷ [])) ∷ (field.GEN_TOKEN, first_of (GEN_KW ∷ [])) ∷
    (field.MOVE_TOKEN, first_of (MOVE_KW ∷ [])) ∷ []

abbrev pub if_expr_rules : List Row
if_expr_rules =
    (field.ATTRS, all_of (ATTR ∷ [])) ∷ (field.DOC_COMMENTS, all_of (DOC_COMMENT ∷ [])) ∷
    (field.CONDITION, look Anywhere First (ELSE_KW ∷ []) ∷ look Before Last (BLOCK_EXPR ∷ []) ∷ look Before First expressions ∷ []) ∷
    (field.THEN_BRANCH, look Anywhere First (ELSE_KW ∷ []) ∷ look Before Last (BLOCK_EXPR ∷ []) ∷ []) ∷
    (field.ELSE_BRANCH, look Anywhere First (ELSE_KW ∷ []) ∷ look After First (BLOCK_EXPR ∷ IF_EXPR ∷ []) ∷ []) ∷
    (field.IF_TOKEN, first_of (IF_KW ∷ [])) ∷ (field.ELSE_TOKEN, first_of (ELSE_KW ∷ [])) ∷ []

abbrev pub loop_expr_rules : List Row
loop_expr_rules =
    (field.ATTRS, all_of (ATTR ∷ [])) ∷ (field.DOC_COMMENTS, all_of (DOC_COMMENT ∷ [])) ∷
    (field.LABEL, first_of (LABEL ∷ [])) ∷ (field.LOOP_BODY, first_of (BLOCK_EXPR ∷ [])) ∷
    (field.LOOP_TOKEN, first_of (LOOP_KW ∷ [])) ∷ []

abbrev pub while_expr_rules : List Row
while_expr_rules =
    (field.ATTRS, all_of (ATTR ∷ [])) ∷ (field.DOC_COMMENTS, all_of (DOC_COMMENT ∷ [])) ∷
    (field.LABEL, first_of (LABEL ∷ [])) ∷
    (field.CONDITION, look Anywhere Last (BLOCK_EXPR ∷ []) ∷ look Before First expressions ∷ []) ∷
    (field.LOOP_BODY, last_of (BLOCK_EXPR ∷ [])) ∷ (field.WHILE_TOKEN, first_of (WHILE_KW ∷ [])) ∷ []

abbrev pub for_expr_rules : List Row
for_expr_rules =
    (field.ATTRS, all_of (ATTR ∷ [])) ∷ (field.DOC_COMMENTS, all_of (DOC_COMMENT ∷ [])) ∷
    (field.LABEL, first_of (LABEL ∷ [])) ∷ (field.PAT, first_of patterns) ∷
    (field.ITERABLE, look Anywhere Last (BLOCK_EXPR ∷ []) ∷ look Before First expressions ∷ []) ∷
    (field.LOOP_BODY, last_of (BLOCK_EXPR ∷ [])) ∷ (field.FOR_TOKEN, first_of (FOR_KW ∷ [])) ∷
    (field.IN_TOKEN, first_of (IN_KW ∷ [])) ∷ []

abbrev pub let_expr_rules : List Row
let_expr_rules =
    (field.ATTRS, all_of (ATTR ∷ [])) ∷ (field.DOC_COMMENTS, all_of (DOC_COMMENT ∷ [])) ∷
    (field.PAT, first_of patterns) ∷ (field.EXPR, first_of expressions) ∷ (field.LET_TOKEN, first_of (LET_KW ∷ [])) ∷
    (field.EQ_TOKEN, first_of (EQ ∷ [])) ∷ []

abbrev pub match_expr_rules : List Row
match_expr_rules =
    (field.ATTRS, all_of (ATTR ∷ [])) ∷ (field.DOC_COMMENTS, all_of (DOC_COMMENT ∷ [])) ∷
    (field.EXPR, first_of expressions) ∷ (field.MATCH_ARM_LIST, first_of (MATCH_ARM_LIST ∷ [])) ∷
    (field.MATCH_TOKEN, first_of (MATCH_KW ∷ [])) ∷ []

abbrev pub match_arm_list_rules : List Row
match_arm_list_rules =
    (field.ATTRS, all_of (ATTR ∷ [])) ∷ (field.DOC_COMMENTS, all_of (DOC_COMMENT ∷ [])) ∷
    (field.ARMS, all_of (MATCH_ARM ∷ [])) ∷ (field.L_CURLY_TOKEN, first_of (L_CURLY ∷ [])) ∷
    (field.R_CURLY_TOKEN, first_of (R_CURLY ∷ [])) ∷ []

abbrev pub match_arm_rules : List Row
match_arm_rules =
    (field.ATTRS, all_of (ATTR ∷ [])) ∷ (field.DOC_COMMENTS, all_of (DOC_COMMENT ∷ [])) ∷
    (field.PAT, first_of patterns) ∷ (field.GUARD, first_of (MATCH_GUARD ∷ [])) ∷ (field.EXPR, first_of expressions) ∷
    (field.FAT_ARROW_TOKEN, first_of (FAT_ARROW ∷ [])) ∷ (field.COMMA_TOKEN, first_of (COMMA ∷ [])) ∷ []

abbrev pub match_guard_rules : List Row
match_guard_rules = (field.CONDITION, first_of expressions) ∷ (field.IF_TOKEN, first_of (IF_KW ∷ [])) ∷ []

abbrev pub return_expr_rules : List Row
return_expr_rules =
    (field.ATTRS, all_of (ATTR ∷ [])) ∷ (field.DOC_COMMENTS, all_of (DOC_COMMENT ∷ [])) ∷
    (field.EXPR, first_of expressions) ∷ (field.RETURN_TOKEN, first_of (RETURN_KW ∷ [])) ∷ []

abbrev pub become_expr_rules : List Row
become_expr_rules =
    (field.ATTRS, all_of (ATTR ∷ [])) ∷ (field.DOC_COMMENTS, all_of (DOC_COMMENT ∷ [])) ∷
    (field.EXPR, first_of expressions) ∷ (field.BECOME_TOKEN, first_of (BECOME_KW ∷ [])) ∷ []

abbrev pub yield_expr_rules : List Row
yield_expr_rules =
    (field.ATTRS, all_of (ATTR ∷ [])) ∷ (field.DOC_COMMENTS, all_of (DOC_COMMENT ∷ [])) ∷
    (field.EXPR, first_of expressions) ∷ (field.YIELD_TOKEN, first_of (YIELD_KW ∷ [])) ∷ []

abbrev pub yeet_expr_rules : List Row
yeet_expr_rules =
    (field.ATTRS, all_of (ATTR ∷ [])) ∷ (field.DOC_COMMENTS, all_of (DOC_COMMENT ∷ [])) ∷
    (field.EXPR, first_of expressions) ∷ (field.DO_TOKEN, first_of (DO_KW ∷ [])) ∷
    (field.YEET_TOKEN, first_of (YEET_KW ∷ [])) ∷ []

abbrev pub continue_expr_rules : List Row
continue_expr_rules =
    (field.ATTRS, all_of (ATTR ∷ [])) ∷ (field.DOC_COMMENTS, all_of (DOC_COMMENT ∷ [])) ∷
    (field.LIFETIME, first_of (LIFETIME ∷ [])) ∷ (field.CONTINUE_TOKEN, first_of (CONTINUE_KW ∷ [])) ∷ []

abbrev pub break_expr_rules : List Row
break_expr_rules =
    (field.ATTRS, all_of (ATTR ∷ [])) ∷ (field.DOC_COMMENTS, all_of (DOC_COMMENT ∷ [])) ∷
    (field.LIFETIME, first_of (LIFETIME ∷ [])) ∷ (field.EXPR, first_of expressions) ∷
    (field.BREAK_TOKEN, first_of (BREAK_KW ∷ [])) ∷ []

abbrev pub offset_of_expr_rules : List Row
offset_of_expr_rules =
    (field.ATTRS, all_of (ATTR ∷ [])) ∷ (field.DOC_COMMENTS, all_of (DOC_COMMENT ∷ [])) ∷ (field.TY, first_of types) ∷
    (field.FIELDS, all_of (NAME_REF ∷ [])) ∷ (field.BUILTIN_TOKEN, first_of (BUILTIN_KW ∷ [])) ∷
    (field.POUND_TOKEN, first_of (POUND ∷ [])) ∷ (field.OFFSET_OF_TOKEN, first_of (OFFSET_OF_KW ∷ [])) ∷
    (field.L_PAREN_TOKEN, first_of (L_PAREN ∷ [])) ∷ (field.COMMA_TOKEN, first_of (COMMA ∷ [])) ∷
    (field.R_PAREN_TOKEN, first_of (R_PAREN ∷ [])) ∷ []

abbrev pub format_args_expr_rules : List Row
format_args_expr_rules =
    (field.ATTRS, all_of (ATTR ∷ [])) ∷ (field.DOC_COMMENTS, all_of (DOC_COMMENT ∷ [])) ∷
    (field.TEMPLATE, first_of expressions) ∷ (field.ARGS, all_of (FORMAT_ARGS_ARG ∷ [])) ∷
    (field.BUILTIN_TOKEN, first_of (BUILTIN_KW ∷ [])) ∷ (field.POUND_TOKEN, first_of (POUND ∷ [])) ∷
    (field.FORMAT_ARGS_TOKEN, first_of (FORMAT_ARGS_KW ∷ [])) ∷ (field.L_PAREN_TOKEN, first_of (L_PAREN ∷ [])) ∷
    (field.R_PAREN_TOKEN, first_of (R_PAREN ∷ [])) ∷ []

abbrev pub format_args_arg_rules : List Row
format_args_arg_rules =
    (field.NAME, first_of (NAME ∷ [])) ∷ (field.EXPR, first_of expressions) ∷ (field.EQ_TOKEN, first_of (EQ ∷ [])) ∷ []

abbrev pub include_bytes_expr_rules : List Row
include_bytes_expr_rules =
    (field.ATTRS, all_of (ATTR ∷ [])) ∷ (field.DOC_COMMENTS, all_of (DOC_COMMENT ∷ [])) ∷
    (field.BUILTIN_TOKEN, first_of (BUILTIN_KW ∷ [])) ∷ (field.POUND_TOKEN, first_of (POUND ∷ [])) ∷
    (field.INCLUDE_BYTES_TOKEN, first_of (INCLUDE_BYTES_KW ∷ [])) ∷ []

abbrev pub cfg_pred_expr_rules : List Row
cfg_pred_expr_rules =
    (field.ATTRS, all_of (ATTR ∷ [])) ∷ (field.DOC_COMMENTS, all_of (DOC_COMMENT ∷ [])) ∷
    (field.CFG_PREDICATE, first_of (CFG_ATOM ∷ CFG_COMPOSITE ∷ [])) ∷
    (field.BUILTIN_TOKEN, first_of (BUILTIN_KW ∷ [])) ∷ (field.POUND_TOKEN, first_of (POUND ∷ [])) ∷
    (field.CFG_TOKEN, first_of (CFG_KW ∷ [])) ∷ (field.L_PAREN_TOKEN, first_of (L_PAREN ∷ [])) ∷
    (field.COMMA_TOKEN, first_of (COMMA ∷ [])) ∷ (field.R_PAREN_TOKEN, first_of (R_PAREN ∷ [])) ∷ []

abbrev pub asm_expr_rules : List Row
asm_expr_rules =
    (field.ATTRS, all_of (ATTR ∷ [])) ∷ (field.DOC_COMMENTS, all_of (DOC_COMMENT ∷ [])) ∷
    (field.VISIBILITY, first_of (VISIBILITY ∷ [])) ∷ (field.TEMPLATE, all_of expressions) ∷
    (field.ASM_PIECES, all_of (ASM_CLOBBER_ABI ∷ ASM_OPTIONS ∷ ASM_OPERAND_NAMED ∷ [])) ∷
    (field.BUILTIN_TOKEN, first_of (BUILTIN_KW ∷ [])) ∷ (field.POUND_TOKEN, first_of (POUND ∷ [])) ∷
    (field.ASM_TOKEN, first_of (ASM_KW ∷ [])) ∷ (field.GLOBAL_ASM_TOKEN, first_of (GLOBAL_ASM_KW ∷ [])) ∷
    (field.NAKED_ASM_TOKEN, first_of (NAKED_ASM_KW ∷ [])) ∷ (field.L_PAREN_TOKEN, first_of (L_PAREN ∷ [])) ∷
    (field.R_PAREN_TOKEN, first_of (R_PAREN ∷ [])) ∷ []

abbrev pub asm_clobber_abi_rules : List Row
asm_clobber_abi_rules =
    (field.ATTRS, all_of (ATTR ∷ [])) ∷ (field.DOC_COMMENTS, all_of (DOC_COMMENT ∷ [])) ∷
    (field.CLOBBER_ABI_TOKEN, first_of (CLOBBER_ABI_KW ∷ [])) ∷ (field.L_PAREN_TOKEN, first_of (L_PAREN ∷ [])) ∷
    (field.R_PAREN_TOKEN, first_of (R_PAREN ∷ [])) ∷ []

abbrev pub asm_options_rules : List Row
asm_options_rules =
    (field.ATTRS, all_of (ATTR ∷ [])) ∷ (field.DOC_COMMENTS, all_of (DOC_COMMENT ∷ [])) ∷
    (field.ASM_OPTIONS, all_of (ASM_OPTION ∷ [])) ∷ (field.OPTIONS_TOKEN, first_of (OPTIONS_KW ∷ [])) ∷
    (field.L_PAREN_TOKEN, first_of (L_PAREN ∷ [])) ∷ (field.R_PAREN_TOKEN, first_of (R_PAREN ∷ [])) ∷ []

abbrev pub asm_option_rules : List Row
asm_option_rules =
    (field.ATT_SYNTAX_TOKEN, first_of (ATT_SYNTAX_KW ∷ [])) ∷ (field.MAY_UNWIND_TOKEN, first_of (MAY_UNWIND_KW ∷ [])) ∷
    (field.NOMEM_TOKEN, first_of (NOMEM_KW ∷ [])) ∷ (field.NORETURN_TOKEN, first_of (NORETURN_KW ∷ [])) ∷
    (field.NOSTACK_TOKEN, first_of (NOSTACK_KW ∷ [])) ∷
    (field.PRESERVES_FLAGS_TOKEN, first_of (PRESERVES_FLAGS_KW ∷ [])) ∷ (field.PURE_TOKEN, first_of (PURE_KW ∷ [])) ∷
    (field.RAW_TOKEN, first_of (RAW_KW ∷ [])) ∷ (field.READONLY_TOKEN, first_of (READONLY_KW ∷ [])) ∷ []

abbrev pub asm_dir_spec_rules : List Row
asm_dir_spec_rules =
    (field.IN_TOKEN, first_of (IN_KW ∷ [])) ∷ (field.INLATEOUT_TOKEN, first_of (INLATEOUT_KW ∷ [])) ∷
    (field.INOUT_TOKEN, first_of (INOUT_KW ∷ [])) ∷ (field.LATEOUT_TOKEN, first_of (LATEOUT_KW ∷ [])) ∷
    (field.OUT_TOKEN, first_of (OUT_KW ∷ [])) ∷ []

abbrev pub asm_operand_expr_rules : List Row
asm_operand_expr_rules =
    (field.IN_EXPR, look Anywhere First (FAT_ARROW ∷ []) ∷ look Before First expressions ∷ []) ∷
    (field.OUT_EXPR, look Anywhere First (FAT_ARROW ∷ []) ∷ look After First expressions ∷ []) ∷
    (field.FAT_ARROW_TOKEN, first_of (FAT_ARROW ∷ [])) ∷ []

abbrev pub asm_reg_operand_rules : List Row
asm_reg_operand_rules =
    (field.ASM_DIR_SPEC, first_of (ASM_DIR_SPEC ∷ [])) ∷ (field.ASM_REG_SPEC, first_of (ASM_REG_SPEC ∷ [])) ∷
    (field.ASM_OPERAND_EXPR, first_of (ASM_OPERAND_EXPR ∷ [])) ∷ (field.L_PAREN_TOKEN, first_of (L_PAREN ∷ [])) ∷
    (field.R_PAREN_TOKEN, first_of (R_PAREN ∷ [])) ∷ []

abbrev pub asm_operand_named_rules : List Row
asm_operand_named_rules =
    (field.ATTRS, all_of (ATTR ∷ [])) ∷ (field.DOC_COMMENTS, all_of (DOC_COMMENT ∷ [])) ∷
    (field.NAME, first_of (NAME ∷ [])) ∷
    (field.ASM_OPERAND, first_of (ASM_REG_OPERAND ∷ ASM_LABEL ∷ ASM_CONST ∷ ASM_SYM ∷ [])) ∷
    (field.EQ_TOKEN, first_of (EQ ∷ [])) ∷ []

abbrev pub asm_label_rules : List Row
asm_label_rules = (field.BLOCK_EXPR, first_of (BLOCK_EXPR ∷ [])) ∷ (field.LABEL_TOKEN, first_of (LABEL_KW ∷ [])) ∷ []

abbrev pub asm_const_rules : List Row
asm_const_rules = (field.EXPR, first_of expressions) ∷ (field.CONST_TOKEN, first_of (CONST_KW ∷ [])) ∷ []

abbrev pub asm_sym_rules : List Row
asm_sym_rules =
    (field.PATH, first_of (PATH ∷ [])) ∷ (field.SYM_TOKEN, first_of (SYM_KW ∷ [])) ∷
    (field.L_PAREN_TOKEN, first_of (L_PAREN ∷ [])) ∷ (field.R_PAREN_TOKEN, first_of (R_PAREN ∷ [])) ∷ []

abbrev pub asm_reg_spec_rules : List Row
asm_reg_spec_rules = (field.NAME_REF, first_of (NAME_REF ∷ [])) ∷ (field.STRING_TOKEN, first_of (STRING ∷ [])) ∷ []

abbrev pub module_rules : List Row
module_rules =
    (field.ATTRS, all_of (ATTR ∷ [])) ∷ (field.DOC_COMMENTS, all_of (DOC_COMMENT ∷ [])) ∷
    (field.VISIBILITY, first_of (VISIBILITY ∷ [])) ∷ (field.NAME, first_of (NAME ∷ [])) ∷
    (field.ITEM_LIST, first_of (ITEM_LIST ∷ [])) ∷ (field.MOD_TOKEN, first_of (MOD_KW ∷ [])) ∷
    (field.SEMICOLON_TOKEN, first_of (SEMICOLON ∷ [])) ∷ []

abbrev pub item_list_rules : List Row
item_list_rules =
    (field.ATTRS, all_of (ATTR ∷ [])) ∷ (field.DOC_COMMENTS, all_of (DOC_COMMENT ∷ [])) ∷ (field.ITEMS, all_of items) ∷
    (field.L_CURLY_TOKEN, first_of (L_CURLY ∷ [])) ∷ (field.R_CURLY_TOKEN, first_of (R_CURLY ∷ [])) ∷ []

abbrev pub extern_crate_rules : List Row
extern_crate_rules =
    (field.ATTRS, all_of (ATTR ∷ [])) ∷ (field.DOC_COMMENTS, all_of (DOC_COMMENT ∷ [])) ∷
    (field.VISIBILITY, first_of (VISIBILITY ∷ [])) ∷ (field.NAME_REF, first_of (NAME_REF ∷ [])) ∷
    (field.RENAME, first_of (RENAME ∷ [])) ∷ (field.EXTERN_TOKEN, first_of (EXTERN_KW ∷ [])) ∷
    (field.CRATE_TOKEN, first_of (CRATE_KW ∷ [])) ∷ (field.SEMICOLON_TOKEN, first_of (SEMICOLON ∷ [])) ∷ []

abbrev pub extern_block_rules : List Row
extern_block_rules =
    (field.ATTRS, all_of (ATTR ∷ [])) ∷ (field.DOC_COMMENTS, all_of (DOC_COMMENT ∷ [])) ∷
    (field.VISIBILITY, first_of (VISIBILITY ∷ [])) ∷ (field.IMPL_RESTRICTION, first_of (IMPL_RESTRICTION ∷ [])) ∷
    (field.ABI, first_of (ABI ∷ [])) ∷ (field.EXTERN_ITEM_LIST, first_of (EXTERN_ITEM_LIST ∷ [])) ∷
    (field.CONST_TOKEN, first_of (CONST_KW ∷ [])) ∷ (field.ASYNC_TOKEN, first_of (ASYNC_KW ∷ [])) ∷
    (field.UNSAFE_TOKEN, first_of (UNSAFE_KW ∷ [])) ∷ (field.SAFE_TOKEN, first_of (SAFE_KW ∷ [])) ∷ []

abbrev pub extern_item_list_rules : List Row
extern_item_list_rules =
    (field.ATTRS, all_of (ATTR ∷ [])) ∷ (field.DOC_COMMENTS, all_of (DOC_COMMENT ∷ [])) ∷
    (field.EXTERN_ITEMS, all_of (MACRO_CALL ∷ TYPE_ALIAS ∷ FN ∷ STATIC ∷ [])) ∷
    (field.L_CURLY_TOKEN, first_of (L_CURLY ∷ [])) ∷ (field.R_CURLY_TOKEN, first_of (R_CURLY ∷ [])) ∷ []

abbrev pub impl_restriction_rules : List Row
impl_restriction_rules =
    (field.VISIBILITY_INNER, first_of (VISIBILITY_INNER ∷ [])) ∷ (field.IMPL_TOKEN, first_of (IMPL_KW ∷ [])) ∷ []

abbrev pub mut_restriction_rules : List Row
mut_restriction_rules =
    (field.VISIBILITY_INNER, first_of (VISIBILITY_INNER ∷ [])) ∷ (field.MUT_TOKEN, first_of (MUT_KW ∷ [])) ∷ []

abbrev pub type_alias_rules : List Row
type_alias_rules =
    (field.ATTRS, all_of (ATTR ∷ [])) ∷ (field.DOC_COMMENTS, all_of (DOC_COMMENT ∷ [])) ∷
    (field.VISIBILITY, first_of (VISIBILITY ∷ [])) ∷ (field.IMPL_RESTRICTION, first_of (IMPL_RESTRICTION ∷ [])) ∷
    (field.ABI, first_of (ABI ∷ [])) ∷ (field.NAME, first_of (NAME ∷ [])) ∷
    (field.GENERIC_PARAM_LIST, first_of (GENERIC_PARAM_LIST ∷ [])) ∷
    (field.TYPE_BOUND_LIST, first_of (TYPE_BOUND_LIST ∷ [])) ∷
    (field.WHERE_CLAUSE, look Anywhere First (EQ ∷ []) ∷ look Before First (WHERE_CLAUSE ∷ []) ∷ []) ∷
    (field.TRAILING_WHERE_CLAUSE, look Anywhere First (EQ ∷ []) ∷ look Before First (WHERE_CLAUSE ∷ []) ∷ look Past First (WHERE_CLAUSE ∷ []) ∷ []) ∷
    (field.TY, first_of types) ∷ (field.CONST_TOKEN, first_of (CONST_KW ∷ [])) ∷
    (field.ASYNC_TOKEN, first_of (ASYNC_KW ∷ [])) ∷ (field.UNSAFE_TOKEN, first_of (UNSAFE_KW ∷ [])) ∷
    (field.SAFE_TOKEN, first_of (SAFE_KW ∷ [])) ∷ (field.DEFAULT_TOKEN, first_of (DEFAULT_KW ∷ [])) ∷
    (field.TYPE_TOKEN, first_of (TYPE_KW ∷ [])) ∷ (field.COLON_TOKEN, first_of (COLON ∷ [])) ∷
    (field.EQ_TOKEN, first_of (EQ ∷ [])) ∷ (field.SEMICOLON_TOKEN, first_of (SEMICOLON ∷ [])) ∷ []

abbrev pub macro_rules_rules : List Row
macro_rules_rules =
    (field.ATTRS, all_of (ATTR ∷ [])) ∷ (field.DOC_COMMENTS, all_of (DOC_COMMENT ∷ [])) ∷
    (field.VISIBILITY, first_of (VISIBILITY ∷ [])) ∷ (field.NAME, first_of (NAME ∷ [])) ∷
    (field.TOKEN_TREE, first_of (TOKEN_TREE ∷ [])) ∷ (field.MACRO_RULES_TOKEN, first_of (MACRO_RULES_KW ∷ [])) ∷
    (field.EXCL_TOKEN, first_of (BANG ∷ [])) ∷ (field.SEMICOLON_TOKEN, first_of (SEMICOLON ∷ [])) ∷ []

abbrev pub macro_def_rules : List Row
macro_def_rules =
    (field.ATTRS, all_of (ATTR ∷ [])) ∷ (field.DOC_COMMENTS, all_of (DOC_COMMENT ∷ [])) ∷
    (field.VISIBILITY, first_of (VISIBILITY ∷ [])) ∷ (field.NAME, first_of (NAME ∷ [])) ∷
    (field.ARGS, look Anywhere Last (TOKEN_TREE ∷ []) ∷ look Before First (TOKEN_TREE ∷ []) ∷ []) ∷
    (field.BODY, last_of (TOKEN_TREE ∷ [])) ∷ (field.MACRO_TOKEN, first_of (MACRO_KW ∷ [])) ∷ []

abbrev pub fn_rules : List Row
fn_rules =
    (field.ATTRS, all_of (ATTR ∷ [])) ∷ (field.DOC_COMMENTS, all_of (DOC_COMMENT ∷ [])) ∷
    (field.VISIBILITY, first_of (VISIBILITY ∷ [])) ∷ (field.IMPL_RESTRICTION, first_of (IMPL_RESTRICTION ∷ [])) ∷
    (field.ABI, first_of (ABI ∷ [])) ∷ (field.NAME, first_of (NAME ∷ [])) ∷
    (field.GENERIC_PARAM_LIST, first_of (GENERIC_PARAM_LIST ∷ [])) ∷ (field.PARAM_LIST, first_of (PARAM_LIST ∷ [])) ∷
    (field.RET_TYPE, first_of (RET_TYPE ∷ [])) ∷ (field.WHERE_CLAUSE, first_of (WHERE_CLAUSE ∷ [])) ∷
    (field.BODY, first_of (BLOCK_EXPR ∷ [])) ∷ (field.CONST_TOKEN, first_of (CONST_KW ∷ [])) ∷
    (field.ASYNC_TOKEN, first_of (ASYNC_KW ∷ [])) ∷ (field.GEN_TOKEN, first_of (GEN_KW ∷ [])) ∷
    (field.UNSAFE_TOKEN, first_of (UNSAFE_KW ∷ [])) ∷ (field.SAFE_TOKEN, first_of (SAFE_KW ∷ [])) ∷
    (field.DEFAULT_TOKEN, first_of (DEFAULT_KW ∷ [])) ∷ (field.FN_TOKEN, first_of (FN_KW ∷ [])) ∷
    (field.SEMICOLON_TOKEN, first_of (SEMICOLON ∷ [])) ∷ []

abbrev pub token_tree_rules : List Row
token_tree_rules = (field.TOKEN_TREES, all_of (TOKEN_TREE ∷ [])) ∷ []

abbrev pub struct_rules : List Row
struct_rules =
    (field.ATTRS, all_of (ATTR ∷ [])) ∷ (field.DOC_COMMENTS, all_of (DOC_COMMENT ∷ [])) ∷
    (field.VISIBILITY, first_of (VISIBILITY ∷ [])) ∷ (field.NAME, first_of (NAME ∷ [])) ∷
    (field.GENERIC_PARAM_LIST, first_of (GENERIC_PARAM_LIST ∷ [])) ∷
    (field.WHERE_CLAUSE, first_of (WHERE_CLAUSE ∷ [])) ∷
    (field.FIELD_LIST, first_of (RECORD_FIELD_LIST ∷ TUPLE_FIELD_LIST ∷ [])) ∷
    (field.STRUCT_TOKEN, first_of (STRUCT_KW ∷ [])) ∷ (field.SEMICOLON_TOKEN, first_of (SEMICOLON ∷ [])) ∷ []

abbrev pub union_rules : List Row
union_rules =
    (field.ATTRS, all_of (ATTR ∷ [])) ∷ (field.DOC_COMMENTS, all_of (DOC_COMMENT ∷ [])) ∷
    (field.VISIBILITY, first_of (VISIBILITY ∷ [])) ∷ (field.NAME, first_of (NAME ∷ [])) ∷
    (field.GENERIC_PARAM_LIST, first_of (GENERIC_PARAM_LIST ∷ [])) ∷
    (field.WHERE_CLAUSE, first_of (WHERE_CLAUSE ∷ [])) ∷ (field.RECORD_FIELD_LIST, first_of (RECORD_FIELD_LIST ∷ [])) ∷
    (field.UNION_TOKEN, first_of (UNION_KW ∷ [])) ∷ (field.SEMICOLON_TOKEN, first_of (SEMICOLON ∷ [])) ∷ []

abbrev pub enum_rules : List Row
enum_rules =
    (field.ATTRS, all_of (ATTR ∷ [])) ∷ (field.DOC_COMMENTS, all_of (DOC_COMMENT ∷ [])) ∷
    (field.VISIBILITY, first_of (VISIBILITY ∷ [])) ∷ (field.NAME, first_of (NAME ∷ [])) ∷
    (field.GENERIC_PARAM_LIST, first_of (GENERIC_PARAM_LIST ∷ [])) ∷
    (field.WHERE_CLAUSE, first_of (WHERE_CLAUSE ∷ [])) ∷ (field.VARIANT_LIST, first_of (VARIANT_LIST ∷ [])) ∷
    (field.ENUM_TOKEN, first_of (ENUM_KW ∷ [])) ∷ []

abbrev pub variant_list_rules : List Row
variant_list_rules =
    (field.VARIANTS, all_of (VARIANT ∷ [])) ∷ (field.L_CURLY_TOKEN, first_of (L_CURLY ∷ [])) ∷
    (field.R_CURLY_TOKEN, first_of (R_CURLY ∷ [])) ∷ []

abbrev pub variant_rules : List Row
variant_rules =
    (field.ATTRS, all_of (ATTR ∷ [])) ∷ (field.DOC_COMMENTS, all_of (DOC_COMMENT ∷ [])) ∷
    (field.NAME, first_of (NAME ∷ [])) ∷ (field.FIELD_LIST, first_of (RECORD_FIELD_LIST ∷ TUPLE_FIELD_LIST ∷ [])) ∷
    (field.CONST_ARG, first_of (CONST_ARG ∷ [])) ∷ (field.UNDERSCORE_TOKEN, first_of (UNDERSCORE ∷ [])) ∷
    (field.EQ_TOKEN, first_of (EQ ∷ [])) ∷ []

abbrev pub record_field_list_rules : List Row
record_field_list_rules =
    (field.FIELDS, all_of (RECORD_FIELD ∷ [])) ∷ (field.L_CURLY_TOKEN, first_of (L_CURLY ∷ [])) ∷
    (field.R_CURLY_TOKEN, first_of (R_CURLY ∷ [])) ∷ []

abbrev pub record_field_rules : List Row
record_field_rules =
    (field.ATTRS, all_of (ATTR ∷ [])) ∷ (field.DOC_COMMENTS, all_of (DOC_COMMENT ∷ [])) ∷
    (field.VISIBILITY, first_of (VISIBILITY ∷ [])) ∷ (field.MUT_RESTRICTION, first_of (MUT_RESTRICTION ∷ [])) ∷
    (field.NAME, first_of (NAME ∷ [])) ∷ (field.TY, first_of types) ∷ (field.DEFAULT_VAL, first_of (CONST_ARG ∷ [])) ∷
    (field.UNSAFE_TOKEN, first_of (UNSAFE_KW ∷ [])) ∷ (field.COLON_TOKEN, first_of (COLON ∷ [])) ∷
    (field.EQ_TOKEN, first_of (EQ ∷ [])) ∷ []

abbrev pub tuple_field_list_rules : List Row
tuple_field_list_rules =
    (field.FIELDS, all_of (TUPLE_FIELD ∷ [])) ∷ (field.L_PAREN_TOKEN, first_of (L_PAREN ∷ [])) ∷
    (field.R_PAREN_TOKEN, first_of (R_PAREN ∷ [])) ∷ []

abbrev pub tuple_field_rules : List Row
tuple_field_rules =
    (field.ATTRS, all_of (ATTR ∷ [])) ∷ (field.DOC_COMMENTS, all_of (DOC_COMMENT ∷ [])) ∷
    (field.VISIBILITY, first_of (VISIBILITY ∷ [])) ∷ (field.MUT_RESTRICTION, first_of (MUT_RESTRICTION ∷ [])) ∷
    (field.TY, first_of types) ∷ []

abbrev pub const_rules : List Row
const_rules =
    (field.ATTRS, all_of (ATTR ∷ [])) ∷ (field.DOC_COMMENTS, all_of (DOC_COMMENT ∷ [])) ∷
    (field.VISIBILITY, first_of (VISIBILITY ∷ [])) ∷ (field.IMPL_RESTRICTION, first_of (IMPL_RESTRICTION ∷ [])) ∷
    (field.ABI, first_of (ABI ∷ [])) ∷ (field.NAME, first_of (NAME ∷ [])) ∷
    (field.GENERIC_PARAM_LIST, first_of (GENERIC_PARAM_LIST ∷ [])) ∷ (field.TY, first_of types) ∷
    (field.BODY, first_of expressions) ∷ (field.WHERE_CLAUSE, first_of (WHERE_CLAUSE ∷ [])) ∷
    (field.CONST_TOKEN, first_of (CONST_KW ∷ [])) ∷ (field.ASYNC_TOKEN, first_of (ASYNC_KW ∷ [])) ∷
    (field.UNSAFE_TOKEN, first_of (UNSAFE_KW ∷ [])) ∷ (field.SAFE_TOKEN, first_of (SAFE_KW ∷ [])) ∷
    (field.DEFAULT_TOKEN, first_of (DEFAULT_KW ∷ [])) ∷ (field.TYPE_TOKEN, first_of (TYPE_KW ∷ [])) ∷
    (field.MUT_TOKEN, first_of (MUT_KW ∷ [])) ∷ (field.UNDERSCORE_TOKEN, first_of (UNDERSCORE ∷ [])) ∷
    (field.COLON_TOKEN, first_of (COLON ∷ [])) ∷ (field.EQ_TOKEN, first_of (EQ ∷ [])) ∷
    (field.SEMICOLON_TOKEN, first_of (SEMICOLON ∷ [])) ∷ []

abbrev pub static_rules : List Row
static_rules =
    (field.ATTRS, all_of (ATTR ∷ [])) ∷ (field.DOC_COMMENTS, all_of (DOC_COMMENT ∷ [])) ∷
    (field.VISIBILITY, first_of (VISIBILITY ∷ [])) ∷ (field.IMPL_RESTRICTION, first_of (IMPL_RESTRICTION ∷ [])) ∷
    (field.ABI, first_of (ABI ∷ [])) ∷ (field.NAME, first_of (NAME ∷ [])) ∷
    (field.GENERIC_PARAM_LIST, first_of (GENERIC_PARAM_LIST ∷ [])) ∷ (field.TY, first_of types) ∷
    (field.BODY, first_of expressions) ∷ (field.CONST_TOKEN, first_of (CONST_KW ∷ [])) ∷
    (field.ASYNC_TOKEN, first_of (ASYNC_KW ∷ [])) ∷ (field.UNSAFE_TOKEN, first_of (UNSAFE_KW ∷ [])) ∷
    (field.SAFE_TOKEN, first_of (SAFE_KW ∷ [])) ∷ (field.STATIC_TOKEN, first_of (STATIC_KW ∷ [])) ∷
    (field.MUT_TOKEN, first_of (MUT_KW ∷ [])) ∷ (field.COLON_TOKEN, first_of (COLON ∷ [])) ∷
    (field.EQ_TOKEN, first_of (EQ ∷ [])) ∷ (field.SEMICOLON_TOKEN, first_of (SEMICOLON ∷ [])) ∷ []

abbrev pub trait_rules : List Row
trait_rules =
    (field.ATTRS, all_of (ATTR ∷ [])) ∷ (field.DOC_COMMENTS, all_of (DOC_COMMENT ∷ [])) ∷
    (field.VISIBILITY, first_of (VISIBILITY ∷ [])) ∷ (field.IMPL_RESTRICTION, first_of (IMPL_RESTRICTION ∷ [])) ∷
    (field.ABI, first_of (ABI ∷ [])) ∷ (field.NAME, first_of (NAME ∷ [])) ∷
    (field.GENERIC_PARAM_LIST, first_of (GENERIC_PARAM_LIST ∷ [])) ∷
    (field.TYPE_BOUND_LIST, first_of (TYPE_BOUND_LIST ∷ [])) ∷ (field.WHERE_CLAUSE, first_of (WHERE_CLAUSE ∷ [])) ∷
    (field.ASSOC_ITEM_LIST, first_of (ASSOC_ITEM_LIST ∷ [])) ∷ (field.CONST_TOKEN, first_of (CONST_KW ∷ [])) ∷
    (field.ASYNC_TOKEN, first_of (ASYNC_KW ∷ [])) ∷ (field.UNSAFE_TOKEN, first_of (UNSAFE_KW ∷ [])) ∷
    (field.SAFE_TOKEN, first_of (SAFE_KW ∷ [])) ∷ (field.AUTO_TOKEN, first_of (AUTO_KW ∷ [])) ∷
    (field.TRAIT_TOKEN, first_of (TRAIT_KW ∷ [])) ∷ (field.COLON_TOKEN, first_of (COLON ∷ [])) ∷
    (field.EQ_TOKEN, first_of (EQ ∷ [])) ∷ (field.SEMICOLON_TOKEN, first_of (SEMICOLON ∷ [])) ∷ []

abbrev pub impl_rules : List Row
impl_rules =
    (field.ATTRS, all_of (ATTR ∷ [])) ∷ (field.DOC_COMMENTS, all_of (DOC_COMMENT ∷ [])) ∷
    (field.VISIBILITY, first_of (VISIBILITY ∷ [])) ∷ (field.IMPL_RESTRICTION, first_of (IMPL_RESTRICTION ∷ [])) ∷
    (field.ABI, first_of (ABI ∷ [])) ∷ (field.GENERIC_PARAM_LIST, first_of (GENERIC_PARAM_LIST ∷ [])) ∷
    (field.TRAIT_, look Anywhere First (FOR_KW ∷ []) ∷ look OnlyBefore First types ∷ []) ∷
    (field.SELF_TY, look Anywhere First (FOR_KW ∷ []) ∷ look Past First types ∷ []) ∷
    (field.WHERE_CLAUSE, first_of (WHERE_CLAUSE ∷ [])) ∷ (field.ASSOC_ITEM_LIST, first_of (ASSOC_ITEM_LIST ∷ [])) ∷
    (field.CONST_TOKEN, first_of (CONST_KW ∷ [])) ∷ (field.ASYNC_TOKEN, first_of (ASYNC_KW ∷ [])) ∷
    (field.UNSAFE_TOKEN, first_of (UNSAFE_KW ∷ [])) ∷ (field.SAFE_TOKEN, first_of (SAFE_KW ∷ [])) ∷
    (field.DEFAULT_TOKEN, first_of (DEFAULT_KW ∷ [])) ∷ (field.IMPL_TOKEN, first_of (IMPL_KW ∷ [])) ∷
    (field.EXCL_TOKEN, first_of (BANG ∷ [])) ∷ (field.FOR_TOKEN, first_of (FOR_KW ∷ [])) ∷ []

abbrev pub assoc_item_list_rules : List Row
assoc_item_list_rules =
    (field.ATTRS, all_of (ATTR ∷ [])) ∷ (field.DOC_COMMENTS, all_of (DOC_COMMENT ∷ [])) ∷
    (field.ASSOC_ITEMS, all_of (MACRO_CALL ∷ TYPE_ALIAS ∷ FN ∷ CONST ∷ [])) ∷
    (field.L_CURLY_TOKEN, first_of (L_CURLY ∷ [])) ∷ (field.R_CURLY_TOKEN, first_of (R_CURLY ∷ [])) ∷ []

abbrev pub use_rules : List Row
use_rules =
    (field.ATTRS, all_of (ATTR ∷ [])) ∷ (field.DOC_COMMENTS, all_of (DOC_COMMENT ∷ [])) ∷
    (field.VISIBILITY, first_of (VISIBILITY ∷ [])) ∷ (field.USE_TREE, first_of (USE_TREE ∷ [])) ∷
    (field.USE_TOKEN, first_of (USE_KW ∷ [])) ∷ (field.SEMICOLON_TOKEN, first_of (SEMICOLON ∷ [])) ∷ []

abbrev pub use_tree_rules : List Row
use_tree_rules =
    (field.PATH, first_of (PATH ∷ [])) ∷ (field.USE_TREE_LIST, first_of (USE_TREE_LIST ∷ [])) ∷
    (field.RENAME, first_of (RENAME ∷ [])) ∷ (field.COLONCOLON_TOKEN, first_of (COLON2 ∷ [])) ∷
    (field.STAR_TOKEN, first_of (STAR ∷ [])) ∷ []

abbrev pub use_tree_list_rules : List Row
use_tree_list_rules =
    (field.USE_TREES, all_of (USE_TREE ∷ [])) ∷ (field.L_CURLY_TOKEN, first_of (L_CURLY ∷ [])) ∷
    (field.R_CURLY_TOKEN, first_of (R_CURLY ∷ [])) ∷ []

abbrev pub param_list_rules : List Row
param_list_rules =
    (field.ATTRS, all_of (ATTR ∷ [])) ∷ (field.DOC_COMMENTS, all_of (DOC_COMMENT ∷ [])) ∷
    (field.SELF_PARAM, first_of (SELF_PARAM ∷ [])) ∷ (field.PARAMS, all_of (PARAM ∷ [])) ∷
    (field.L_PAREN_TOKEN, first_of (L_PAREN ∷ [])) ∷ (field.R_PAREN_TOKEN, first_of (R_PAREN ∷ [])) ∷
    (field.PIPE_TOKEN, first_of (PIPE ∷ [])) ∷ []

abbrev pub param_rules : List Row
param_rules =
    (field.ATTRS, all_of (ATTR ∷ [])) ∷ (field.DOC_COMMENTS, all_of (DOC_COMMENT ∷ [])) ∷
    (field.PAT, first_of patterns) ∷ (field.TY, first_of types) ∷ (field.COLON_TOKEN, first_of (COLON ∷ [])) ∷
    (field.DOTDOTDOT_TOKEN, first_of (DOT3 ∷ [])) ∷ []

abbrev pub self_param_rules : List Row
self_param_rules =
    (field.ATTRS, all_of (ATTR ∷ [])) ∷ (field.DOC_COMMENTS, all_of (DOC_COMMENT ∷ [])) ∷
    (field.LIFETIME, first_of (LIFETIME ∷ [])) ∷ (field.NAME, first_of (NAME ∷ [])) ∷ (field.TY, first_of types) ∷
    (field.AMP_TOKEN, first_of (AMP ∷ [])) ∷ (field.MUT_TOKEN, first_of (MUT_KW ∷ [])) ∷
    (field.COLON_TOKEN, first_of (COLON ∷ [])) ∷ []

abbrev pub or_pat_rules : List Row
or_pat_rules = (field.PATS, all_of patterns) ∷ []

abbrev pub range_pat_rules : List Row
range_pat_rules =
    (field.START, look Anywhere First (DOT2 ∷ DOT3 ∷ DOT2EQ ∷ []) ∷ look Before First patterns ∷ []) ∷
    (field.END, look Anywhere First (DOT2 ∷ DOT3 ∷ DOT2EQ ∷ []) ∷ look After First patterns ∷ []) ∷
    (field.OP_TOKEN, first_of (DOT2 ∷ DOT3 ∷ DOT2EQ ∷ [])) ∷ []

abbrev pub rest_pat_rules : List Row
rest_pat_rules =
    (field.ATTRS, all_of (ATTR ∷ [])) ∷ (field.DOC_COMMENTS, all_of (DOC_COMMENT ∷ [])) ∷
    (field.DOTDOT_TOKEN, first_of (DOT2 ∷ [])) ∷ []

abbrev pub deref_pat_rules : List Row
deref_pat_rules =
    (field.PAT, first_of patterns) ∷ (field.BUILTIN_TOKEN, first_of (BUILTIN_KW ∷ [])) ∷
    (field.POUND_TOKEN, first_of (POUND ∷ [])) ∷ (field.DEREF_TOKEN, first_of (DEREF_KW ∷ [])) ∷
    (field.L_PAREN_TOKEN, first_of (L_PAREN ∷ [])) ∷ (field.R_PAREN_TOKEN, first_of (R_PAREN ∷ [])) ∷ []

abbrev pub cfg_pred_pat_rules : List Row
cfg_pred_pat_rules =
    (field.CFG_PREDICATE, first_of (CFG_ATOM ∷ CFG_COMPOSITE ∷ [])) ∷
    (field.BUILTIN_TOKEN, first_of (BUILTIN_KW ∷ [])) ∷ (field.POUND_TOKEN, first_of (POUND ∷ [])) ∷
    (field.CFG_TOKEN, first_of (CFG_KW ∷ [])) ∷ (field.L_PAREN_TOKEN, first_of (L_PAREN ∷ [])) ∷
    (field.COMMA_TOKEN, first_of (COMMA ∷ [])) ∷ (field.R_PAREN_TOKEN, first_of (R_PAREN ∷ [])) ∷ []

abbrev pub literal_pat_rules : List Row
literal_pat_rules = (field.LITERAL, first_of (LITERAL ∷ [])) ∷ (field.MINUS_TOKEN, first_of (MINUS ∷ [])) ∷ []

abbrev pub tuple_struct_pat_rules : List Row
tuple_struct_pat_rules =
    (field.PATH, first_of (PATH ∷ [])) ∷ (field.FIELDS, all_of patterns) ∷
    (field.L_PAREN_TOKEN, first_of (L_PAREN ∷ [])) ∷ (field.R_PAREN_TOKEN, first_of (R_PAREN ∷ [])) ∷ []

abbrev pub record_pat_rules : List Row
record_pat_rules =
    (field.PATH, first_of (PATH ∷ [])) ∷ (field.RECORD_PAT_FIELD_LIST, first_of (RECORD_PAT_FIELD_LIST ∷ [])) ∷ []

abbrev pub record_pat_field_list_rules : List Row
record_pat_field_list_rules =
    (field.FIELDS, all_of (RECORD_PAT_FIELD ∷ [])) ∷ (field.REST_PAT, first_of (REST_PAT ∷ [])) ∷
    (field.L_CURLY_TOKEN, first_of (L_CURLY ∷ [])) ∷ (field.R_CURLY_TOKEN, first_of (R_CURLY ∷ [])) ∷ []

abbrev pub record_pat_field_rules : List Row
record_pat_field_rules =
    (field.ATTRS, all_of (ATTR ∷ [])) ∷ (field.DOC_COMMENTS, all_of (DOC_COMMENT ∷ [])) ∷
    (field.NAME_REF, first_of (NAME_REF ∷ [])) ∷ (field.PAT, first_of patterns) ∷
    (field.COLON_TOKEN, first_of (COLON ∷ [])) ∷ []

abbrev pub macro_pat_rules : List Row
macro_pat_rules = (field.MACRO_CALL, first_of (MACRO_CALL ∷ [])) ∷ []

abbrev pub path_pat_rules : List Row
path_pat_rules = (field.PATH, first_of (PATH ∷ [])) ∷ []

abbrev pub wildcard_pat_rules : List Row
wildcard_pat_rules = (field.UNDERSCORE_TOKEN, first_of (UNDERSCORE ∷ [])) ∷ []

abbrev pub ref_pat_rules : List Row
ref_pat_rules =
    (field.PAT, first_of patterns) ∷ (field.AMP_TOKEN, first_of (AMP ∷ [])) ∷
    (field.MUT_TOKEN, first_of (MUT_KW ∷ [])) ∷ []

abbrev pub not_null_rules : List Row
not_null_rules = (field.PAT, first_of patterns) ∷ (field.EXCL_TOKEN, first_of (BANG ∷ [])) ∷ []

abbrev pub paren_pat_rules : List Row
paren_pat_rules =
    (field.PAT, first_of patterns) ∷ (field.L_PAREN_TOKEN, first_of (L_PAREN ∷ [])) ∷
    (field.R_PAREN_TOKEN, first_of (R_PAREN ∷ [])) ∷ []

abbrev pub tuple_pat_rules : List Row
tuple_pat_rules =
    (field.FIELDS, all_of patterns) ∷ (field.L_PAREN_TOKEN, first_of (L_PAREN ∷ [])) ∷
    (field.R_PAREN_TOKEN, first_of (R_PAREN ∷ [])) ∷ []

abbrev pub slice_pat_rules : List Row
slice_pat_rules =
    (field.PATS, all_of patterns) ∷ (field.L_BRACK_TOKEN, first_of (L_BRACK ∷ [])) ∷
    (field.R_BRACK_TOKEN, first_of (R_BRACK ∷ [])) ∷ []

abbrev pub ident_pat_rules : List Row
ident_pat_rules =
    (field.NAME, first_of (NAME ∷ [])) ∷ (field.PAT, first_of patterns) ∷ (field.REF_TOKEN, first_of (REF_KW ∷ [])) ∷
    (field.MUT_TOKEN, first_of (MUT_KW ∷ [])) ∷ (field.AT_TOKEN, first_of (AT ∷ [])) ∷ []

abbrev pub box_pat_rules : List Row
box_pat_rules = (field.PAT, first_of patterns) ∷ (field.BOX_TOKEN, first_of (BOX_KW ∷ [])) ∷ []

abbrev pub const_block_pat_rules : List Row
const_block_pat_rules =
    (field.BLOCK_EXPR, first_of (BLOCK_EXPR ∷ [])) ∷ (field.CONST_TOKEN, first_of (CONST_KW ∷ [])) ∷ []

abbrev pub paren_type_rules : List Row
paren_type_rules =
    (field.TY, first_of types) ∷ (field.L_PAREN_TOKEN, first_of (L_PAREN ∷ [])) ∷
    (field.R_PAREN_TOKEN, first_of (R_PAREN ∷ [])) ∷ []

abbrev pub tuple_type_rules : List Row
tuple_type_rules =
    (field.FIELDS, all_of types) ∷ (field.L_PAREN_TOKEN, first_of (L_PAREN ∷ [])) ∷
    (field.R_PAREN_TOKEN, first_of (R_PAREN ∷ [])) ∷ []

abbrev pub never_type_rules : List Row
never_type_rules = (field.EXCL_TOKEN, first_of (BANG ∷ [])) ∷ []

abbrev pub ptr_type_rules : List Row
ptr_type_rules =
    (field.TY, first_of types) ∷ (field.STAR_TOKEN, first_of (STAR ∷ [])) ∷
    (field.CONST_TOKEN, first_of (CONST_KW ∷ [])) ∷ (field.MUT_TOKEN, first_of (MUT_KW ∷ [])) ∷ []

abbrev pub slice_type_rules : List Row
slice_type_rules =
    (field.TY, first_of types) ∷ (field.L_BRACK_TOKEN, first_of (L_BRACK ∷ [])) ∷
    (field.R_BRACK_TOKEN, first_of (R_BRACK ∷ [])) ∷ []

abbrev pub array_type_rules : List Row
array_type_rules =
    (field.TY, first_of types) ∷ (field.CONST_ARG, first_of (CONST_ARG ∷ [])) ∷
    (field.L_BRACK_TOKEN, first_of (L_BRACK ∷ [])) ∷ (field.SEMICOLON_TOKEN, first_of (SEMICOLON ∷ [])) ∷
    (field.R_BRACK_TOKEN, first_of (R_BRACK ∷ [])) ∷ []

abbrev pub ref_type_rules : List Row
ref_type_rules =
    (field.LIFETIME, first_of (LIFETIME ∷ [])) ∷ (field.TY, first_of types) ∷ (field.AMP_TOKEN, first_of (AMP ∷ [])) ∷
    (field.MUT_TOKEN, first_of (MUT_KW ∷ [])) ∷ []

abbrev pub infer_type_rules : List Row
infer_type_rules = (field.UNDERSCORE_TOKEN, first_of (UNDERSCORE ∷ [])) ∷ []

abbrev pub fn_ptr_type_rules : List Row
fn_ptr_type_rules =
    (field.ABI, first_of (ABI ∷ [])) ∷ (field.PARAM_LIST, first_of (PARAM_LIST ∷ [])) ∷
    (field.RET_TYPE, first_of (RET_TYPE ∷ [])) ∷ (field.UNSAFE_TOKEN, first_of (UNSAFE_KW ∷ [])) ∷
    (field.FN_TOKEN, first_of (FN_KW ∷ [])) ∷ []

abbrev pub for_binder_rules : List Row
for_binder_rules =
    (field.GENERIC_PARAM_LIST, first_of (GENERIC_PARAM_LIST ∷ [])) ∷ (field.FOR_TOKEN, first_of (FOR_KW ∷ [])) ∷ []

abbrev pub for_type_rules : List Row
for_type_rules = (field.FOR_BINDER, first_of (FOR_BINDER ∷ [])) ∷ (field.TY, first_of types) ∷ []

abbrev pub impl_trait_type_rules : List Row
impl_trait_type_rules =
    (field.TYPE_BOUND_LIST, first_of (TYPE_BOUND_LIST ∷ [])) ∷ (field.IMPL_TOKEN, first_of (IMPL_KW ∷ [])) ∷ []

abbrev pub dyn_trait_type_rules : List Row
dyn_trait_type_rules =
    (field.TYPE_BOUND_LIST, first_of (TYPE_BOUND_LIST ∷ [])) ∷ (field.DYN_TOKEN, first_of (DYN_KW ∷ [])) ∷ []

abbrev pub macro_type_rules : List Row
macro_type_rules = (field.MACRO_CALL, first_of (MACRO_CALL ∷ [])) ∷ []

abbrev pub path_type_rules : List Row
path_type_rules = (field.PATH, first_of (PATH ∷ [])) ∷ []

abbrev pub pattern_type_rules : List Row
pattern_type_rules =
    (field.TY, first_of types) ∷ (field.PAT, first_of patterns) ∷ (field.BUILTIN_TOKEN, first_of (BUILTIN_KW ∷ [])) ∷
    (field.POUND_TOKEN, first_of (POUND ∷ [])) ∷ (field.PATTERN_TYPE_TOKEN, first_of (PATTERN_TYPE_KW ∷ [])) ∷
    (field.L_PAREN_TOKEN, first_of (L_PAREN ∷ [])) ∷ (field.IS_TOKEN, first_of (IS_KW ∷ [])) ∷
    (field.R_PAREN_TOKEN, first_of (R_PAREN ∷ [])) ∷ []

abbrev pub type_bound_rules : List Row
type_bound_rules =
    (field.LIFETIME, first_of (LIFETIME ∷ [])) ∷
    (field.USE_BOUND_GENERIC_ARGS, first_of (USE_BOUND_GENERIC_ARGS ∷ [])) ∷
    (field.FOR_BINDER, first_of (FOR_BINDER ∷ [])) ∷ (field.TY, first_of types) ∷
    (field.L_PAREN_TOKEN, first_of (L_PAREN ∷ [])) ∷ (field.USE_TOKEN, first_of (USE_KW ∷ [])) ∷
    (field.L_BRACK_TOKEN, first_of (L_BRACK ∷ [])) ∷ (field.TILDE_TOKEN, first_of (TILDE ∷ [])) ∷
    (field.CONST_TOKEN, first_of (CONST_KW ∷ [])) ∷ (field.R_BRACK_TOKEN, first_of (R_BRACK ∷ [])) ∷
    (field.ASYNC_TOKEN, first_of (ASYNC_KW ∷ [])) ∷ (field.QUESTION_MARK_TOKEN, first_of (QUESTION ∷ [])) ∷
    (field.R_PAREN_TOKEN, first_of (R_PAREN ∷ [])) ∷ []

abbrev pub type_bound_list_rules : List Row
type_bound_list_rules =
    (field.BOUNDS, all_of (TYPE_BOUND ∷ [])) ∷ (field.FOR_BINDER, first_of (FOR_BINDER ∷ [])) ∷
    (field.L_PAREN_TOKEN, first_of (L_PAREN ∷ [])) ∷ (field.L_BRACK_TOKEN, first_of (L_BRACK ∷ [])) ∷
    (field.TILDE_TOKEN, first_of (TILDE ∷ [])) ∷ (field.CONST_TOKEN, first_of (CONST_KW ∷ [])) ∷
    (field.R_BRACK_TOKEN, first_of (R_BRACK ∷ [])) ∷ (field.ASYNC_TOKEN, first_of (ASYNC_KW ∷ [])) ∷
    (field.QUESTION_MARK_TOKEN, first_of (QUESTION ∷ [])) ∷ []

abbrev pub generic_arg_list_rules : List Row
generic_arg_list_rules =
    (field.GENERIC_ARGS, all_of generic_arguments) ∷ (field.COLONCOLON_TOKEN, first_of (COLON2 ∷ [])) ∷
    (field.L_ANGLE_TOKEN, first_of (L_ANGLE ∷ [])) ∷ (field.R_ANGLE_TOKEN, first_of (R_ANGLE ∷ [])) ∷ []

abbrev pub type_arg_rules : List Row
type_arg_rules = (field.TY, first_of types) ∷ []

abbrev pub lifetime_arg_rules : List Row
lifetime_arg_rules = (field.LIFETIME, first_of (LIFETIME ∷ [])) ∷ []

abbrev pub const_arg_rules : List Row
const_arg_rules = (field.EXPR, first_of expressions) ∷ []

abbrev pub assoc_type_arg_rules : List Row
assoc_type_arg_rules =
    (field.NAME_REF, first_of (NAME_REF ∷ [])) ∷ (field.GENERIC_ARG_LIST, first_of (GENERIC_ARG_LIST ∷ [])) ∷
    (field.RETURN_TYPE_SYNTAX, first_of (RETURN_TYPE_SYNTAX ∷ [])) ∷
    (field.PARENTHESIZED_ARG_LIST, first_of (PARENTHESIZED_ARG_LIST ∷ [])) ∷
    (field.RET_TYPE, first_of (RET_TYPE ∷ [])) ∷ (field.TYPE_BOUND_LIST, first_of (TYPE_BOUND_LIST ∷ [])) ∷
    (field.TY, first_of types) ∷ (field.CONST_ARG, first_of (CONST_ARG ∷ [])) ∷
    (field.COLON_TOKEN, first_of (COLON ∷ [])) ∷ (field.EQ_TOKEN, first_of (EQ ∷ [])) ∷ []

abbrev pub use_bound_generic_args_rules : List Row
use_bound_generic_args_rules =
    (field.USE_BOUND_GENERIC_ARGS, all_of (NAME_REF ∷ LIFETIME ∷ [])) ∷ (field.L_ANGLE_TOKEN, first_of (L_ANGLE ∷ [])) ∷
    (field.R_ANGLE_TOKEN, first_of (R_ANGLE ∷ [])) ∷ []

abbrev pub generic_param_list_rules : List Row
generic_param_list_rules =
    (field.GENERIC_PARAMS, all_of generic_parameters) ∷ (field.L_ANGLE_TOKEN, first_of (L_ANGLE ∷ [])) ∷
    (field.R_ANGLE_TOKEN, first_of (R_ANGLE ∷ [])) ∷ []

abbrev pub lifetime_param_rules : List Row
lifetime_param_rules =
    (field.ATTRS, all_of (ATTR ∷ [])) ∷ (field.DOC_COMMENTS, all_of (DOC_COMMENT ∷ [])) ∷
    (field.LIFETIME, first_of (LIFETIME ∷ [])) ∷ (field.TYPE_BOUND_LIST, first_of (TYPE_BOUND_LIST ∷ [])) ∷
    (field.COLON_TOKEN, first_of (COLON ∷ [])) ∷ []

abbrev pub type_param_rules : List Row
type_param_rules =
    (field.ATTRS, all_of (ATTR ∷ [])) ∷ (field.DOC_COMMENTS, all_of (DOC_COMMENT ∷ [])) ∷
    (field.NAME, first_of (NAME ∷ [])) ∷ (field.TYPE_BOUND_LIST, first_of (TYPE_BOUND_LIST ∷ [])) ∷
    (field.DEFAULT_TYPE, first_of types) ∷ (field.COLON_TOKEN, first_of (COLON ∷ [])) ∷
    (field.EQ_TOKEN, first_of (EQ ∷ [])) ∷ []

abbrev pub const_param_rules : List Row
const_param_rules =
    (field.ATTRS, all_of (ATTR ∷ [])) ∷ (field.DOC_COMMENTS, all_of (DOC_COMMENT ∷ [])) ∷
    (field.NAME, first_of (NAME ∷ [])) ∷ (field.TY, first_of types) ∷ (field.DEFAULT_VAL, first_of (CONST_ARG ∷ [])) ∷
    (field.CONST_TOKEN, first_of (CONST_KW ∷ [])) ∷ (field.COLON_TOKEN, first_of (COLON ∷ [])) ∷
    (field.EQ_TOKEN, first_of (EQ ∷ [])) ∷ []

abbrev pub where_clause_rules : List Row
where_clause_rules = (field.PREDICATES, all_of (WHERE_PRED ∷ [])) ∷ (field.WHERE_TOKEN, first_of (WHERE_KW ∷ [])) ∷ []

abbrev pub where_pred_rules : List Row
where_pred_rules =
    (field.LIFETIME, first_of (LIFETIME ∷ [])) ∷ (field.FOR_BINDER, first_of (FOR_BINDER ∷ [])) ∷
    (field.TY, first_of types) ∷ (field.TYPE_BOUND_LIST, first_of (TYPE_BOUND_LIST ∷ [])) ∷
    (field.COLON_TOKEN, first_of (COLON ∷ [])) ∷ []

abbrev pub doc_comment_rules : List Row
doc_comment_rules =
    (field.OUTER_DOC_COMMENT_TOKEN, first_of (OUTER_DOC_COMMENT ∷ [])) ∷
    (field.INNER_DOC_COMMENT_TOKEN, first_of (INNER_DOC_COMMENT ∷ [])) ∷ []

abbrev pub attr_rules : List Row
attr_rules =
    (field.META, first_of metas) ∷ (field.POUND_TOKEN, first_of (POUND ∷ [])) ∷
    (field.EXCL_TOKEN, first_of (BANG ∷ [])) ∷ (field.L_BRACK_TOKEN, first_of (L_BRACK ∷ [])) ∷
    (field.R_BRACK_TOKEN, first_of (R_BRACK ∷ [])) ∷ []

abbrev pub unsafe_meta_rules : List Row
unsafe_meta_rules =
    (field.META, first_of metas) ∷ (field.UNSAFE_TOKEN, first_of (UNSAFE_KW ∷ [])) ∷
    (field.L_PAREN_TOKEN, first_of (L_PAREN ∷ [])) ∷ (field.R_PAREN_TOKEN, first_of (R_PAREN ∷ [])) ∷ []

abbrev pub cfg_attr_meta_rules : List Row
cfg_attr_meta_rules =
    (field.CFG_PREDICATE, first_of (CFG_ATOM ∷ CFG_COMPOSITE ∷ [])) ∷ (field.METAS, all_of metas) ∷
    (field.CFG_ATTR_TOKEN, first_of (CFG_ATTR_KW ∷ [])) ∷ (field.L_PAREN_TOKEN, first_of (L_PAREN ∷ [])) ∷
    (field.R_PAREN_TOKEN, first_of (R_PAREN ∷ [])) ∷ []

abbrev pub cfg_meta_rules : List Row
cfg_meta_rules =
    (field.CFG_PREDICATE, first_of (CFG_ATOM ∷ CFG_COMPOSITE ∷ [])) ∷ (field.CFG_TOKEN, first_of (CFG_KW ∷ [])) ∷
    (field.L_PAREN_TOKEN, first_of (L_PAREN ∷ [])) ∷ (field.COMMA_TOKEN, first_of (COMMA ∷ [])) ∷
    (field.R_PAREN_TOKEN, first_of (R_PAREN ∷ [])) ∷ []

abbrev pub cfg_atom_rules : List Row
cfg_atom_rules =
    (field.IDENT_TOKEN, first_of (IDENT ∷ [])) ∷ (field.EQ_TOKEN, first_of (EQ ∷ [])) ∷
    (field.STRING_TOKEN, first_of (STRING ∷ [])) ∷ (field.TRUE_TOKEN, first_of (TRUE_KW ∷ [])) ∷
    (field.FALSE_TOKEN, first_of (FALSE_KW ∷ [])) ∷ []

abbrev pub cfg_composite_rules : List Row
cfg_composite_rules =
    (field.CFG_PREDICATES, all_of (CFG_ATOM ∷ CFG_COMPOSITE ∷ [])) ∷ (field.IDENT_TOKEN, first_of (IDENT ∷ [])) ∷
    (field.L_PAREN_TOKEN, first_of (L_PAREN ∷ [])) ∷ (field.R_PAREN_TOKEN, first_of (R_PAREN ∷ [])) ∷ []

abbrev pub key_value_meta_rules : List Row
key_value_meta_rules =
    (field.PATH, first_of (PATH ∷ [])) ∷ (field.EXPR, first_of expressions) ∷ (field.EQ_TOKEN, first_of (EQ ∷ [])) ∷ []

abbrev pub token_tree_meta_rules : List Row
token_tree_meta_rules = (field.PATH, first_of (PATH ∷ [])) ∷ (field.TOKEN_TREE, first_of (TOKEN_TREE ∷ [])) ∷ []

abbrev pub path_meta_rules : List Row
path_meta_rules = (field.PATH, first_of (PATH ∷ [])) ∷ []

-- of the kinds from 150 on
unfoldable pub rules_15 : List (List Row)
rules_15 = error_rules ∷ [] ∷ [] ∷ [] ∷ [] ∷ [] ∷ [] ∷ [] ∷ source_file_rules ∷ macro_stmts_rules ∷ []

-- of the kinds from 160 on
unfoldable pub rules_16 : List (List Row)
rules_16 =
    macro_items_rules ∷ name_rules ∷ name_ref_rules ∷ lifetime_rules ∷ visibility_rules ∷ visibility_inner_rules ∷
    rename_rules ∷ abi_rules ∷ ret_type_rules ∷ path_rules ∷ []

-- of the kinds from 170 on
unfoldable pub rules_17 : List (List Row)
rules_17 =
    path_segment_rules ∷ type_anchor_rules ∷ return_type_syntax_rules ∷ parenthesized_arg_list_rules ∷ let_stmt_rules ∷
    expr_stmt_rules ∷ let_else_rules ∷ stmt_list_rules ∷ block_expr_rules ∷ label_rules ∷ []

-- of the kinds from 180 on
unfoldable pub rules_18 : List (List Row)
rules_18 =
    try_block_modifier_rules ∷ range_expr_rules ∷ bin_expr_rules ∷ ref_expr_rules ∷ prefix_expr_rules ∷
    call_expr_rules ∷ index_expr_rules ∷ method_call_expr_rules ∷ field_expr_rules ∷ await_expr_rules ∷ []

-- of the kinds from 190 on
unfoldable pub rules_19 : List (List Row)
rules_19 =
    try_expr_rules ∷ cast_expr_rules ∷ arg_list_rules ∷ record_expr_rules ∷ record_expr_field_rules ∷
    record_expr_field_list_rules ∷ macro_call_rules ∷ macro_expr_rules ∷ path_expr_rules ∷ literal_rules ∷ []

-- of the kinds from 200 on
unfoldable pub rules_20 : List (List Row)
rules_20 =
    underscore_expr_rules ∷ paren_expr_rules ∷ tuple_expr_rules ∷ array_expr_rules ∷ closure_expr_rules ∷
    if_expr_rules ∷ loop_expr_rules ∷ while_expr_rules ∷ for_expr_rules ∷ let_expr_rules ∷ []

-- of the kinds from 210 on
unfoldable pub rules_21 : List (List Row)
rules_21 =
    match_expr_rules ∷ match_arm_list_rules ∷ match_arm_rules ∷ match_guard_rules ∷ return_expr_rules ∷
    become_expr_rules ∷ yield_expr_rules ∷ yeet_expr_rules ∷ continue_expr_rules ∷ break_expr_rules ∷ []

-- of the kinds from 220 on
unfoldable pub rules_22 : List (List Row)
rules_22 =
    offset_of_expr_rules ∷ format_args_expr_rules ∷ format_args_arg_rules ∷ include_bytes_expr_rules ∷
    cfg_pred_expr_rules ∷ asm_expr_rules ∷ asm_clobber_abi_rules ∷ asm_options_rules ∷ asm_option_rules ∷
    asm_dir_spec_rules ∷ []

-- of the kinds from 230 on
unfoldable pub rules_23 : List (List Row)
rules_23 =
    asm_operand_expr_rules ∷ asm_reg_operand_rules ∷ asm_operand_named_rules ∷ asm_label_rules ∷ asm_const_rules ∷
    asm_sym_rules ∷ asm_reg_spec_rules ∷ module_rules ∷ item_list_rules ∷ extern_crate_rules ∷ []

-- of the kinds from 240 on
unfoldable pub rules_24 : List (List Row)
rules_24 =
    extern_block_rules ∷ extern_item_list_rules ∷ impl_restriction_rules ∷ mut_restriction_rules ∷ type_alias_rules ∷
    macro_rules_rules ∷ macro_def_rules ∷ fn_rules ∷ token_tree_rules ∷ struct_rules ∷ []

-- of the kinds from 250 on
unfoldable pub rules_25 : List (List Row)
rules_25 =
    union_rules ∷ enum_rules ∷ variant_list_rules ∷ variant_rules ∷ record_field_list_rules ∷ record_field_rules ∷
    tuple_field_list_rules ∷ tuple_field_rules ∷ const_rules ∷ static_rules ∷ []

-- of the kinds from 260 on
unfoldable pub rules_26 : List (List Row)
rules_26 =
    trait_rules ∷ impl_rules ∷ assoc_item_list_rules ∷ use_rules ∷ use_tree_rules ∷ use_tree_list_rules ∷
    param_list_rules ∷ param_rules ∷ self_param_rules ∷ or_pat_rules ∷ []

-- of the kinds from 270 on
unfoldable pub rules_27 : List (List Row)
rules_27 =
    range_pat_rules ∷ rest_pat_rules ∷ deref_pat_rules ∷ cfg_pred_pat_rules ∷ literal_pat_rules ∷
    tuple_struct_pat_rules ∷ record_pat_rules ∷ record_pat_field_list_rules ∷ record_pat_field_rules ∷ macro_pat_rules ∷
    []

-- of the kinds from 280 on
unfoldable pub rules_28 : List (List Row)
rules_28 =
    path_pat_rules ∷ wildcard_pat_rules ∷ ref_pat_rules ∷ not_null_rules ∷ paren_pat_rules ∷ tuple_pat_rules ∷
    slice_pat_rules ∷ ident_pat_rules ∷ box_pat_rules ∷ const_block_pat_rules ∷ []

-- of the kinds from 290 on
unfoldable pub rules_29 : List (List Row)
rules_29 =
    paren_type_rules ∷ tuple_type_rules ∷ never_type_rules ∷ ptr_type_rules ∷ slice_type_rules ∷ array_type_rules ∷
    ref_type_rules ∷ infer_type_rules ∷ fn_ptr_type_rules ∷ for_binder_rules ∷ []

-- of the kinds from 300 on
unfoldable pub rules_30 : List (List Row)
rules_30 =
    for_type_rules ∷ impl_trait_type_rules ∷ dyn_trait_type_rules ∷ macro_type_rules ∷ path_type_rules ∷
    pattern_type_rules ∷ type_bound_rules ∷ type_bound_list_rules ∷ generic_arg_list_rules ∷ type_arg_rules ∷ []

-- of the kinds from 310 on
unfoldable pub rules_31 : List (List Row)
rules_31 =
    lifetime_arg_rules ∷ const_arg_rules ∷ assoc_type_arg_rules ∷ use_bound_generic_args_rules ∷
    generic_param_list_rules ∷ lifetime_param_rules ∷ type_param_rules ∷ const_param_rules ∷ where_clause_rules ∷
    where_pred_rules ∷ []

-- of the kinds from 320 on
unfoldable pub rules_32 : List (List Row)
rules_32 =
    doc_comment_rules ∷ attr_rules ∷ unsafe_meta_rules ∷ cfg_attr_meta_rules ∷ cfg_meta_rules ∷ cfg_atom_rules ∷
    cfg_composite_rules ∷ key_value_meta_rules ∷ token_tree_meta_rules ∷ path_meta_rules ∷ []

-- of all kinds, by tens
abbrev pub rules : List (List (List Row))
rules =
    [] ∷ [] ∷ [] ∷ [] ∷ [] ∷ [] ∷ [] ∷ [] ∷ [] ∷ [] ∷ [] ∷ [] ∷ [] ∷ [] ∷ [] ∷ rules_15 ∷ rules_16 ∷ rules_17 ∷
    rules_18 ∷ rules_19 ∷ rules_20 ∷ rules_21 ∷ rules_22 ∷ rules_23 ∷ rules_24 ∷ rules_25 ∷ rules_26 ∷ rules_27 ∷
    rules_28 ∷ rules_29 ∷ rules_30 ∷ rules_31 ∷ rules_32 ∷ []

-- of a kind
abbrev pub rows_of : ℕ → List Row
rows_of kind = get_or (get_or rules (kind / 10) []) (kind % 10) []
