-- Written by crates/rap_base/fields from fields.txt beside it and the shapes of nodes: an edit here is lost.
-- The kinds of all nodes that the fields of a kind find, or that are left out by name.
use Rattle.std.specs.Prelude.{List, [], ℕ, ◌∷◌}
use Rattle.rap_base.specs.NodeKind.{ABI, ARG_LIST, ARRAY_EXPR, ARRAY_TYPE, ASM_CLOBBER_ABI, ASM_CONST, ASM_DIR_SPEC, ASM_EXPR, ASM_LABEL, ASM_OPERAND_EXPR, ASM_OPERAND_NAMED, ASM_OPTION, ASM_OPTIONS, ASM_REG_OPERAND, ASM_REG_SPEC, ASM_SYM, ASSOC_ITEM_LIST, ASSOC_TYPE_ARG, ATTR, AWAIT_EXPR, BECOME_EXPR, BIN_EXPR, BLOCK_EXPR, BOX_PAT, BREAK_EXPR, CALL_EXPR, CAST_EXPR, CFG_ATOM, CFG_ATTR_META, CFG_COMPOSITE, CFG_META, CFG_PRED_EXPR, CFG_PRED_PAT, CLOSURE_EXPR, CONST, CONST_ARG, CONST_BLOCK_PAT, CONST_PARAM, CONTINUE_EXPR, DEREF_PAT, DOC_COMMENT, DYN_TRAIT_TYPE, ENUM, EXPR_STMT, EXTERN_BLOCK, EXTERN_CRATE, EXTERN_ITEM_LIST, FIELD_EXPR, FN, FN_PTR_TYPE, FORMAT_ARGS_ARG, FORMAT_ARGS_EXPR, FOR_BINDER, FOR_EXPR, FOR_TYPE, GENERIC_ARG_LIST, GENERIC_PARAM_LIST, IDENT_PAT, IF_EXPR, IMPL, IMPL_RESTRICTION, IMPL_TRAIT_TYPE, INCLUDE_BYTES_EXPR, INDEX_EXPR, INFER_TYPE, ITEM_LIST, KEY_VALUE_META, LABEL, LET_ELSE, LET_EXPR, LET_STMT, LIFETIME, LIFETIME_ARG, LIFETIME_PARAM, LITERAL, LITERAL_PAT, LOOP_EXPR, MACRO_CALL, MACRO_DEF, MACRO_EXPR, MACRO_ITEMS, MACRO_PAT, MACRO_RULES, MACRO_STMTS, MACRO_TYPE, MATCH_ARM, MATCH_ARM_LIST, MATCH_EXPR, MATCH_GUARD, METHOD_CALL_EXPR, MODULE, MUT_RESTRICTION, NAME, NAME_REF, NEVER_TYPE, NOT_NULL, OFFSET_OF_EXPR, OR_PAT, PARAM, PARAM_LIST, PARENTHESIZED_ARG_LIST, PAREN_EXPR, PAREN_PAT, PAREN_TYPE, PATH, PATH_EXPR, PATH_META, PATH_PAT, PATH_SEGMENT, PATH_TYPE, PATTERN_TYPE, PREFIX_EXPR, PTR_TYPE, RANGE_EXPR, RANGE_PAT, RECORD_EXPR, RECORD_EXPR_FIELD, RECORD_EXPR_FIELD_LIST, RECORD_FIELD, RECORD_FIELD_LIST, RECORD_PAT, RECORD_PAT_FIELD, RECORD_PAT_FIELD_LIST, REF_EXPR, REF_PAT, REF_TYPE, RENAME, REST_PAT, RETURN_EXPR, RETURN_TYPE_SYNTAX, RET_TYPE, SELF_PARAM, SLICE_PAT, SLICE_TYPE, SOURCE_FILE, STATIC, STMT_LIST, STRUCT, TOKEN_TREE, TOKEN_TREE_META, TRAIT, TRY_BLOCK_MODIFIER, TRY_EXPR, TUPLE_EXPR, TUPLE_FIELD, TUPLE_FIELD_LIST, TUPLE_PAT, TUPLE_STRUCT_PAT, TUPLE_TYPE, TYPE_ALIAS, TYPE_ANCHOR, TYPE_ARG, TYPE_BOUND, TYPE_BOUND_LIST, TYPE_PARAM, UNDERSCORE_EXPR, UNION, UNSAFE_META, USE, USE_BOUND_GENERIC_ARGS, USE_TREE, USE_TREE_LIST, VARIANT, VARIANT_LIST, VISIBILITY, VISIBILITY_INNER, WHERE_CLAUSE, WHERE_PRED, WHILE_EXPR, WILDCARD_PAT, YEET_EXPR, YIELD_EXPR}
use Rattle.rap_base.specs.TokenKind.{ERROR}
use Rattle.rap_grammar_shapes.specs.Shapes.{expressions, generic_arguments, generic_parameters, items, metas, patterns, types}

abbrev pub error_found : List (List ℕ)
error_found = (PATH ∷ DOC_COMMENT ∷ ATTR ∷ []) ∷ []

abbrev pub source_file_found : List (List ℕ)
source_file_found = items ∷ (DOC_COMMENT ∷ ATTR ∷ []) ∷ []

abbrev pub macro_stmts_found : List (List ℕ)
macro_stmts_found = (LET_STMT ∷ EXPR_STMT ∷ items) ∷ expressions ∷ []

abbrev pub macro_items_found : List (List ℕ)
macro_items_found = items ∷ (DOC_COMMENT ∷ ATTR ∷ []) ∷ []

abbrev pub name_found : List (List ℕ)
name_found = []

abbrev pub name_ref_found : List (List ℕ)
name_ref_found = []

abbrev pub lifetime_found : List (List ℕ)
lifetime_found = []

abbrev pub visibility_found : List (List ℕ)
visibility_found = (VISIBILITY_INNER ∷ []) ∷ []

abbrev pub visibility_inner_found : List (List ℕ)
visibility_inner_found = (PATH ∷ []) ∷ []

abbrev pub rename_found : List (List ℕ)
rename_found = (NAME ∷ []) ∷ []

abbrev pub abi_found : List (List ℕ)
abi_found = []

abbrev pub ret_type_found : List (List ℕ)
ret_type_found = types ∷ []

abbrev pub path_found : List (List ℕ)
path_found = (PATH ∷ PATH_SEGMENT ∷ []) ∷ []

abbrev pub path_segment_found : List (List ℕ)
path_segment_found =
    (NAME_REF ∷ RET_TYPE ∷ TYPE_ANCHOR ∷ RETURN_TYPE_SYNTAX ∷ PARENTHESIZED_ARG_LIST ∷ GENERIC_ARG_LIST ∷ []) ∷ []

abbrev pub type_anchor_found : List (List ℕ)
type_anchor_found = types ∷ []

abbrev pub return_type_syntax_found : List (List ℕ)
return_type_syntax_found = []

abbrev pub parenthesized_arg_list_found : List (List ℕ)
parenthesized_arg_list_found = (TYPE_ARG ∷ []) ∷ []

abbrev pub let_stmt_found : List (List ℕ)
let_stmt_found = patterns ∷ types ∷ expressions ∷ (LET_ELSE ∷ DOC_COMMENT ∷ ATTR ∷ []) ∷ []

abbrev pub expr_stmt_found : List (List ℕ)
expr_stmt_found = expressions ∷ []

abbrev pub let_else_found : List (List ℕ)
let_else_found = (BLOCK_EXPR ∷ []) ∷ []

abbrev pub stmt_list_found : List (List ℕ)
stmt_list_found = (LET_STMT ∷ EXPR_STMT ∷ items) ∷ expressions ∷ (DOC_COMMENT ∷ ATTR ∷ []) ∷ []

abbrev pub block_expr_found : List (List ℕ)
block_expr_found = (STMT_LIST ∷ LABEL ∷ TRY_BLOCK_MODIFIER ∷ DOC_COMMENT ∷ ATTR ∷ []) ∷ []

abbrev pub label_found : List (List ℕ)
label_found = (LIFETIME ∷ []) ∷ []

abbrev pub try_block_modifier_found : List (List ℕ)
try_block_modifier_found = types ∷ []

abbrev pub range_expr_found : List (List ℕ)
range_expr_found = expressions ∷ (DOC_COMMENT ∷ ATTR ∷ []) ∷ []

abbrev pub bin_expr_found : List (List ℕ)
bin_expr_found = expressions ∷ []

abbrev pub ref_expr_found : List (List ℕ)
ref_expr_found = expressions ∷ (DOC_COMMENT ∷ ATTR ∷ []) ∷ []

abbrev pub prefix_expr_found : List (List ℕ)
prefix_expr_found = expressions ∷ (DOC_COMMENT ∷ ATTR ∷ []) ∷ []

abbrev pub call_expr_found : List (List ℕ)
call_expr_found = expressions ∷ (ARG_LIST ∷ DOC_COMMENT ∷ ATTR ∷ []) ∷ []

abbrev pub index_expr_found : List (List ℕ)
index_expr_found = expressions ∷ (DOC_COMMENT ∷ ATTR ∷ []) ∷ []

abbrev pub method_call_expr_found : List (List ℕ)
method_call_expr_found = expressions ∷ (NAME_REF ∷ ARG_LIST ∷ GENERIC_ARG_LIST ∷ DOC_COMMENT ∷ ATTR ∷ []) ∷ []

abbrev pub field_expr_found : List (List ℕ)
field_expr_found = expressions ∷ (NAME_REF ∷ DOC_COMMENT ∷ ATTR ∷ []) ∷ []

abbrev pub await_expr_found : List (List ℕ)
await_expr_found = expressions ∷ (DOC_COMMENT ∷ ATTR ∷ []) ∷ []

abbrev pub try_expr_found : List (List ℕ)
try_expr_found = expressions ∷ (DOC_COMMENT ∷ ATTR ∷ []) ∷ []

abbrev pub cast_expr_found : List (List ℕ)
cast_expr_found = expressions ∷ types ∷ []

abbrev pub arg_list_found : List (List ℕ)
arg_list_found = expressions ∷ []

abbrev pub record_expr_found : List (List ℕ)
record_expr_found = (PATH ∷ RECORD_EXPR_FIELD_LIST ∷ DOC_COMMENT ∷ ATTR ∷ []) ∷ []

abbrev pub record_expr_field_found : List (List ℕ)
record_expr_field_found = expressions ∷ (NAME_REF ∷ DOC_COMMENT ∷ ATTR ∷ []) ∷ []

abbrev pub record_expr_field_list_found : List (List ℕ)
record_expr_field_list_found = expressions ∷ (RECORD_EXPR_FIELD ∷ DOC_COMMENT ∷ ATTR ∷ []) ∷ []

abbrev pub macro_call_found : List (List ℕ)
macro_call_found = (PATH ∷ TOKEN_TREE ∷ DOC_COMMENT ∷ ATTR ∷ []) ∷ []

abbrev pub macro_expr_found : List (List ℕ)
macro_expr_found = (MACRO_CALL ∷ DOC_COMMENT ∷ ATTR ∷ []) ∷ []

abbrev pub path_expr_found : List (List ℕ)
path_expr_found = (PATH ∷ DOC_COMMENT ∷ ATTR ∷ []) ∷ []

abbrev pub literal_found : List (List ℕ)
literal_found = (DOC_COMMENT ∷ ATTR ∷ []) ∷ []

abbrev pub underscore_expr_found : List (List ℕ)
underscore_expr_found = (DOC_COMMENT ∷ ATTR ∷ []) ∷ []

abbrev pub paren_expr_found : List (List ℕ)
paren_expr_found = expressions ∷ (DOC_COMMENT ∷ ATTR ∷ []) ∷ []

abbrev pub tuple_expr_found : List (List ℕ)
tuple_expr_found = expressions ∷ (DOC_COMMENT ∷ ATTR ∷ []) ∷ []

abbrev pub array_expr_found : List (List ℕ)
array_expr_found = expressions ∷ (DOC_COMMENT ∷ ATTR ∷ []) ∷ []

abbrev pub closure_expr_found : List (List ℕ)
closure_expr_found = expressions ∷ (RET_TYPE ∷ PARAM_LIST ∷ FOR_BINDER ∷ DOC_COMMENT ∷ ATTR ∷ []) ∷ []

abbrev pub if_expr_found : List (List ℕ)
if_expr_found = expressions ∷ (BLOCK_EXPR ∷ IF_EXPR ∷ []) ∷ (BLOCK_EXPR ∷ DOC_COMMENT ∷ ATTR ∷ []) ∷ []

abbrev pub loop_expr_found : List (List ℕ)
loop_expr_found = (BLOCK_EXPR ∷ LABEL ∷ DOC_COMMENT ∷ ATTR ∷ []) ∷ []

abbrev pub while_expr_found : List (List ℕ)
while_expr_found = expressions ∷ (BLOCK_EXPR ∷ LABEL ∷ DOC_COMMENT ∷ ATTR ∷ []) ∷ []

abbrev pub for_expr_found : List (List ℕ)
for_expr_found = patterns ∷ expressions ∷ (BLOCK_EXPR ∷ LABEL ∷ DOC_COMMENT ∷ ATTR ∷ []) ∷ []

abbrev pub let_expr_found : List (List ℕ)
let_expr_found = patterns ∷ expressions ∷ (DOC_COMMENT ∷ ATTR ∷ []) ∷ []

abbrev pub match_expr_found : List (List ℕ)
match_expr_found = expressions ∷ (MATCH_ARM_LIST ∷ DOC_COMMENT ∷ ATTR ∷ []) ∷ []

abbrev pub match_arm_list_found : List (List ℕ)
match_arm_list_found = (MATCH_ARM ∷ DOC_COMMENT ∷ ATTR ∷ []) ∷ []

abbrev pub match_arm_found : List (List ℕ)
match_arm_found = patterns ∷ expressions ∷ (MATCH_GUARD ∷ DOC_COMMENT ∷ ATTR ∷ []) ∷ []

abbrev pub match_guard_found : List (List ℕ)
match_guard_found = expressions ∷ []

abbrev pub return_expr_found : List (List ℕ)
return_expr_found = expressions ∷ (DOC_COMMENT ∷ ATTR ∷ []) ∷ []

abbrev pub become_expr_found : List (List ℕ)
become_expr_found = expressions ∷ (DOC_COMMENT ∷ ATTR ∷ []) ∷ []

abbrev pub yield_expr_found : List (List ℕ)
yield_expr_found = expressions ∷ (DOC_COMMENT ∷ ATTR ∷ []) ∷ []

abbrev pub yeet_expr_found : List (List ℕ)
yeet_expr_found = expressions ∷ (DOC_COMMENT ∷ ATTR ∷ []) ∷ []

abbrev pub continue_expr_found : List (List ℕ)
continue_expr_found = (LIFETIME ∷ DOC_COMMENT ∷ ATTR ∷ []) ∷ []

abbrev pub break_expr_found : List (List ℕ)
break_expr_found = expressions ∷ (LIFETIME ∷ DOC_COMMENT ∷ ATTR ∷ []) ∷ []

abbrev pub offset_of_expr_found : List (List ℕ)
offset_of_expr_found = types ∷ (NAME_REF ∷ DOC_COMMENT ∷ ATTR ∷ []) ∷ []

abbrev pub format_args_expr_found : List (List ℕ)
format_args_expr_found = expressions ∷ (FORMAT_ARGS_ARG ∷ DOC_COMMENT ∷ ATTR ∷ []) ∷ []

abbrev pub format_args_arg_found : List (List ℕ)
format_args_arg_found = expressions ∷ (NAME ∷ []) ∷ []

abbrev pub include_bytes_expr_found : List (List ℕ)
include_bytes_expr_found = (DOC_COMMENT ∷ ATTR ∷ []) ∷ []

abbrev pub cfg_pred_expr_found : List (List ℕ)
cfg_pred_expr_found = (CFG_ATOM ∷ CFG_COMPOSITE ∷ []) ∷ (DOC_COMMENT ∷ ATTR ∷ []) ∷ []

abbrev pub asm_expr_found : List (List ℕ)
asm_expr_found =
    expressions ∷ (ASM_CLOBBER_ABI ∷ ASM_OPTIONS ∷ ASM_OPERAND_NAMED ∷ []) ∷ (VISIBILITY ∷ DOC_COMMENT ∷ ATTR ∷ []) ∷ []

abbrev pub asm_clobber_abi_found : List (List ℕ)
asm_clobber_abi_found = (DOC_COMMENT ∷ ATTR ∷ []) ∷ []

abbrev pub asm_options_found : List (List ℕ)
asm_options_found = (ASM_OPTION ∷ DOC_COMMENT ∷ ATTR ∷ []) ∷ []

abbrev pub asm_option_found : List (List ℕ)
asm_option_found = []

abbrev pub asm_dir_spec_found : List (List ℕ)
asm_dir_spec_found = []

abbrev pub asm_operand_expr_found : List (List ℕ)
asm_operand_expr_found = expressions ∷ []

abbrev pub asm_reg_operand_found : List (List ℕ)
asm_reg_operand_found = (ASM_DIR_SPEC ∷ ASM_OPERAND_EXPR ∷ ASM_REG_SPEC ∷ []) ∷ []

abbrev pub asm_operand_named_found : List (List ℕ)
asm_operand_named_found =
    (ASM_REG_OPERAND ∷ ASM_LABEL ∷ ASM_CONST ∷ ASM_SYM ∷ []) ∷ (NAME ∷ DOC_COMMENT ∷ ATTR ∷ []) ∷ []

abbrev pub asm_label_found : List (List ℕ)
asm_label_found = (BLOCK_EXPR ∷ []) ∷ []

abbrev pub asm_const_found : List (List ℕ)
asm_const_found = expressions ∷ []

abbrev pub asm_sym_found : List (List ℕ)
asm_sym_found = (PATH ∷ []) ∷ []

abbrev pub asm_reg_spec_found : List (List ℕ)
asm_reg_spec_found = (NAME_REF ∷ []) ∷ []

abbrev pub module_found : List (List ℕ)
module_found = (NAME ∷ VISIBILITY ∷ ITEM_LIST ∷ DOC_COMMENT ∷ ATTR ∷ []) ∷ []

abbrev pub item_list_found : List (List ℕ)
item_list_found = items ∷ (DOC_COMMENT ∷ ATTR ∷ []) ∷ []

abbrev pub extern_crate_found : List (List ℕ)
extern_crate_found = (NAME_REF ∷ VISIBILITY ∷ RENAME ∷ DOC_COMMENT ∷ ATTR ∷ []) ∷ []

abbrev pub extern_block_found : List (List ℕ)
extern_block_found = (VISIBILITY ∷ ABI ∷ EXTERN_ITEM_LIST ∷ IMPL_RESTRICTION ∷ DOC_COMMENT ∷ ATTR ∷ []) ∷ []

abbrev pub extern_item_list_found : List (List ℕ)
extern_item_list_found = (MACRO_CALL ∷ TYPE_ALIAS ∷ FN ∷ STATIC ∷ []) ∷ items ∷ (DOC_COMMENT ∷ ATTR ∷ []) ∷ []

abbrev pub impl_restriction_found : List (List ℕ)
impl_restriction_found = (VISIBILITY_INNER ∷ []) ∷ []

abbrev pub mut_restriction_found : List (List ℕ)
mut_restriction_found = (VISIBILITY_INNER ∷ []) ∷ []

abbrev pub type_alias_found : List (List ℕ)
type_alias_found =
    types ∷
    (NAME ∷ VISIBILITY ∷ ABI ∷ IMPL_RESTRICTION ∷ TYPE_BOUND_LIST ∷ GENERIC_PARAM_LIST ∷ WHERE_CLAUSE ∷ DOC_COMMENT ∷ ATTR ∷ []) ∷
    []

abbrev pub macro_rules_found : List (List ℕ)
macro_rules_found = (NAME ∷ VISIBILITY ∷ TOKEN_TREE ∷ DOC_COMMENT ∷ ATTR ∷ []) ∷ []

abbrev pub macro_def_found : List (List ℕ)
macro_def_found = (NAME ∷ VISIBILITY ∷ TOKEN_TREE ∷ DOC_COMMENT ∷ ATTR ∷ []) ∷ []

abbrev pub fn_found : List (List ℕ)
fn_found =
    (NAME ∷ VISIBILITY ∷ ABI ∷ RET_TYPE ∷ BLOCK_EXPR ∷ IMPL_RESTRICTION ∷ PARAM_LIST ∷ GENERIC_PARAM_LIST ∷ WHERE_CLAUSE ∷ DOC_COMMENT ∷ ATTR ∷ []) ∷
    []

abbrev pub token_tree_found : List (List ℕ)
token_tree_found = (TOKEN_TREE ∷ []) ∷ []

abbrev pub struct_found : List (List ℕ)
struct_found =
    (RECORD_FIELD_LIST ∷ TUPLE_FIELD_LIST ∷ []) ∷
    (NAME ∷ VISIBILITY ∷ GENERIC_PARAM_LIST ∷ WHERE_CLAUSE ∷ DOC_COMMENT ∷ ATTR ∷ []) ∷ []

abbrev pub union_found : List (List ℕ)
union_found = (NAME ∷ VISIBILITY ∷ RECORD_FIELD_LIST ∷ GENERIC_PARAM_LIST ∷ WHERE_CLAUSE ∷ DOC_COMMENT ∷ ATTR ∷ []) ∷ []

abbrev pub enum_found : List (List ℕ)
enum_found = (NAME ∷ VISIBILITY ∷ VARIANT_LIST ∷ GENERIC_PARAM_LIST ∷ WHERE_CLAUSE ∷ DOC_COMMENT ∷ ATTR ∷ []) ∷ []

abbrev pub variant_list_found : List (List ℕ)
variant_list_found = (VARIANT ∷ []) ∷ []

abbrev pub variant_found : List (List ℕ)
variant_found = (RECORD_FIELD_LIST ∷ TUPLE_FIELD_LIST ∷ []) ∷ (NAME ∷ CONST_ARG ∷ DOC_COMMENT ∷ ATTR ∷ []) ∷ []

abbrev pub record_field_list_found : List (List ℕ)
record_field_list_found = (RECORD_FIELD ∷ []) ∷ []

abbrev pub record_field_found : List (List ℕ)
record_field_found = types ∷ (NAME ∷ VISIBILITY ∷ MUT_RESTRICTION ∷ CONST_ARG ∷ DOC_COMMENT ∷ ATTR ∷ []) ∷ []

abbrev pub tuple_field_list_found : List (List ℕ)
tuple_field_list_found = (TUPLE_FIELD ∷ []) ∷ []

abbrev pub tuple_field_found : List (List ℕ)
tuple_field_found = types ∷ (VISIBILITY ∷ MUT_RESTRICTION ∷ DOC_COMMENT ∷ ATTR ∷ []) ∷ []

abbrev pub const_found : List (List ℕ)
const_found =
    types ∷ expressions ∷
    (NAME ∷ VISIBILITY ∷ ABI ∷ IMPL_RESTRICTION ∷ GENERIC_PARAM_LIST ∷ WHERE_CLAUSE ∷ DOC_COMMENT ∷ ATTR ∷ []) ∷ []

abbrev pub static_found : List (List ℕ)
static_found =
    types ∷ expressions ∷ (NAME ∷ VISIBILITY ∷ ABI ∷ IMPL_RESTRICTION ∷ GENERIC_PARAM_LIST ∷ DOC_COMMENT ∷ ATTR ∷ []) ∷
    []

abbrev pub trait_found : List (List ℕ)
trait_found =
    (NAME ∷ VISIBILITY ∷ ABI ∷ IMPL_RESTRICTION ∷ ASSOC_ITEM_LIST ∷ TYPE_BOUND_LIST ∷ GENERIC_PARAM_LIST ∷ WHERE_CLAUSE ∷ DOC_COMMENT ∷ ATTR ∷ []) ∷
    []

abbrev pub impl_found : List (List ℕ)
impl_found =
    types ∷
    (VISIBILITY ∷ ABI ∷ IMPL_RESTRICTION ∷ ASSOC_ITEM_LIST ∷ GENERIC_PARAM_LIST ∷ WHERE_CLAUSE ∷ DOC_COMMENT ∷ ATTR ∷ []) ∷
    []

abbrev pub assoc_item_list_found : List (List ℕ)
assoc_item_list_found = (MACRO_CALL ∷ TYPE_ALIAS ∷ FN ∷ CONST ∷ []) ∷ items ∷ (DOC_COMMENT ∷ ATTR ∷ []) ∷ []

abbrev pub use_found : List (List ℕ)
use_found = (VISIBILITY ∷ USE_TREE ∷ DOC_COMMENT ∷ ATTR ∷ []) ∷ []

abbrev pub use_tree_found : List (List ℕ)
use_tree_found = (RENAME ∷ PATH ∷ USE_TREE_LIST ∷ []) ∷ []

abbrev pub use_tree_list_found : List (List ℕ)
use_tree_list_found = (USE_TREE ∷ []) ∷ []

abbrev pub param_list_found : List (List ℕ)
param_list_found = (PARAM ∷ SELF_PARAM ∷ DOC_COMMENT ∷ ATTR ∷ []) ∷ []

abbrev pub param_found : List (List ℕ)
param_found = patterns ∷ types ∷ (DOC_COMMENT ∷ ATTR ∷ []) ∷ []

abbrev pub self_param_found : List (List ℕ)
self_param_found = types ∷ (NAME ∷ LIFETIME ∷ DOC_COMMENT ∷ ATTR ∷ []) ∷ []

abbrev pub or_pat_found : List (List ℕ)
or_pat_found = patterns ∷ []

abbrev pub range_pat_found : List (List ℕ)
range_pat_found = patterns ∷ []

abbrev pub rest_pat_found : List (List ℕ)
rest_pat_found = (DOC_COMMENT ∷ ATTR ∷ []) ∷ []

abbrev pub deref_pat_found : List (List ℕ)
deref_pat_found = patterns ∷ []

abbrev pub cfg_pred_pat_found : List (List ℕ)
cfg_pred_pat_found = (CFG_ATOM ∷ CFG_COMPOSITE ∷ []) ∷ []

abbrev pub literal_pat_found : List (List ℕ)
literal_pat_found = (LITERAL ∷ []) ∷ []

abbrev pub tuple_struct_pat_found : List (List ℕ)
tuple_struct_pat_found = patterns ∷ (PATH ∷ []) ∷ []

abbrev pub record_pat_found : List (List ℕ)
record_pat_found = (PATH ∷ RECORD_PAT_FIELD_LIST ∷ []) ∷ []

abbrev pub record_pat_field_list_found : List (List ℕ)
record_pat_field_list_found = (REST_PAT ∷ RECORD_PAT_FIELD ∷ []) ∷ []

abbrev pub record_pat_field_found : List (List ℕ)
record_pat_field_found = patterns ∷ (NAME_REF ∷ DOC_COMMENT ∷ ATTR ∷ []) ∷ []

abbrev pub macro_pat_found : List (List ℕ)
macro_pat_found = (MACRO_CALL ∷ []) ∷ []

abbrev pub path_pat_found : List (List ℕ)
path_pat_found = (PATH ∷ []) ∷ []

abbrev pub wildcard_pat_found : List (List ℕ)
wildcard_pat_found = []

abbrev pub ref_pat_found : List (List ℕ)
ref_pat_found = patterns ∷ []

abbrev pub not_null_found : List (List ℕ)
not_null_found = patterns ∷ []

abbrev pub paren_pat_found : List (List ℕ)
paren_pat_found = patterns ∷ []

abbrev pub tuple_pat_found : List (List ℕ)
tuple_pat_found = patterns ∷ []

abbrev pub slice_pat_found : List (List ℕ)
slice_pat_found = patterns ∷ []

abbrev pub ident_pat_found : List (List ℕ)
ident_pat_found = patterns ∷ (NAME ∷ []) ∷ []

abbrev pub box_pat_found : List (List ℕ)
box_pat_found = patterns ∷ []

abbrev pub const_block_pat_found : List (List ℕ)
const_block_pat_found = (BLOCK_EXPR ∷ []) ∷ []

abbrev pub paren_type_found : List (List ℕ)
paren_type_found = types ∷ []

abbrev pub tuple_type_found : List (List ℕ)
tuple_type_found = types ∷ []

abbrev pub never_type_found : List (List ℕ)
never_type_found = []

abbrev pub ptr_type_found : List (List ℕ)
ptr_type_found = types ∷ []

abbrev pub slice_type_found : List (List ℕ)
slice_type_found = types ∷ []

abbrev pub array_type_found : List (List ℕ)
array_type_found = types ∷ (CONST_ARG ∷ []) ∷ []

abbrev pub ref_type_found : List (List ℕ)
ref_type_found = types ∷ (LIFETIME ∷ []) ∷ []

abbrev pub infer_type_found : List (List ℕ)
infer_type_found = []

abbrev pub fn_ptr_type_found : List (List ℕ)
fn_ptr_type_found = (ABI ∷ RET_TYPE ∷ PARAM_LIST ∷ []) ∷ []

abbrev pub for_binder_found : List (List ℕ)
for_binder_found = (GENERIC_PARAM_LIST ∷ []) ∷ []

abbrev pub for_type_found : List (List ℕ)
for_type_found = types ∷ (FOR_BINDER ∷ []) ∷ []

abbrev pub impl_trait_type_found : List (List ℕ)
impl_trait_type_found = (TYPE_BOUND_LIST ∷ []) ∷ []

abbrev pub dyn_trait_type_found : List (List ℕ)
dyn_trait_type_found = (TYPE_BOUND_LIST ∷ []) ∷ []

abbrev pub macro_type_found : List (List ℕ)
macro_type_found = (MACRO_CALL ∷ []) ∷ []

abbrev pub path_type_found : List (List ℕ)
path_type_found = (PATH ∷ []) ∷ []

abbrev pub pattern_type_found : List (List ℕ)
pattern_type_found = types ∷ patterns ∷ []

abbrev pub type_bound_found : List (List ℕ)
type_bound_found = types ∷ (LIFETIME ∷ FOR_BINDER ∷ USE_BOUND_GENERIC_ARGS ∷ []) ∷ []

abbrev pub type_bound_list_found : List (List ℕ)
type_bound_list_found = (FOR_BINDER ∷ TYPE_BOUND ∷ []) ∷ []

abbrev pub generic_arg_list_found : List (List ℕ)
generic_arg_list_found = generic_arguments ∷ []

abbrev pub type_arg_found : List (List ℕ)
type_arg_found = types ∷ []

abbrev pub lifetime_arg_found : List (List ℕ)
lifetime_arg_found = (LIFETIME ∷ []) ∷ []

abbrev pub const_arg_found : List (List ℕ)
const_arg_found = expressions ∷ []

abbrev pub assoc_type_arg_found : List (List ℕ)
assoc_type_arg_found =
    types ∷
    (NAME_REF ∷ RET_TYPE ∷ RETURN_TYPE_SYNTAX ∷ PARENTHESIZED_ARG_LIST ∷ TYPE_BOUND_LIST ∷ GENERIC_ARG_LIST ∷ CONST_ARG ∷ []) ∷
    []

abbrev pub use_bound_generic_args_found : List (List ℕ)
use_bound_generic_args_found = (NAME_REF ∷ LIFETIME ∷ []) ∷ []

abbrev pub generic_param_list_found : List (List ℕ)
generic_param_list_found = generic_parameters ∷ []

abbrev pub lifetime_param_found : List (List ℕ)
lifetime_param_found = (LIFETIME ∷ TYPE_BOUND_LIST ∷ DOC_COMMENT ∷ ATTR ∷ []) ∷ []

abbrev pub type_param_found : List (List ℕ)
type_param_found = types ∷ (NAME ∷ TYPE_BOUND_LIST ∷ DOC_COMMENT ∷ ATTR ∷ []) ∷ []

abbrev pub const_param_found : List (List ℕ)
const_param_found = types ∷ (NAME ∷ CONST_ARG ∷ DOC_COMMENT ∷ ATTR ∷ []) ∷ []

abbrev pub where_clause_found : List (List ℕ)
where_clause_found = (WHERE_PRED ∷ []) ∷ []

abbrev pub where_pred_found : List (List ℕ)
where_pred_found = types ∷ (LIFETIME ∷ FOR_BINDER ∷ TYPE_BOUND_LIST ∷ []) ∷ []

abbrev pub doc_comment_found : List (List ℕ)
doc_comment_found = []

abbrev pub attr_found : List (List ℕ)
attr_found = metas ∷ []

abbrev pub unsafe_meta_found : List (List ℕ)
unsafe_meta_found = metas ∷ []

abbrev pub cfg_attr_meta_found : List (List ℕ)
cfg_attr_meta_found = (CFG_ATOM ∷ CFG_COMPOSITE ∷ []) ∷ metas ∷ []

abbrev pub cfg_meta_found : List (List ℕ)
cfg_meta_found = (CFG_ATOM ∷ CFG_COMPOSITE ∷ []) ∷ []

abbrev pub cfg_atom_found : List (List ℕ)
cfg_atom_found = []

abbrev pub cfg_composite_found : List (List ℕ)
cfg_composite_found = (CFG_ATOM ∷ CFG_COMPOSITE ∷ []) ∷ []

abbrev pub key_value_meta_found : List (List ℕ)
key_value_meta_found = expressions ∷ (PATH ∷ []) ∷ []

abbrev pub token_tree_meta_found : List (List ℕ)
token_tree_meta_found = (PATH ∷ TOKEN_TREE ∷ []) ∷ []

abbrev pub path_meta_found : List (List ℕ)
path_meta_found = (PATH ∷ []) ∷ []

-- of each kind
abbrev pub found : List (ℕ × List (List ℕ))
found =
    (ERROR, error_found) ∷ (SOURCE_FILE, source_file_found) ∷ (MACRO_STMTS, macro_stmts_found) ∷
    (MACRO_ITEMS, macro_items_found) ∷ (NAME, name_found) ∷ (NAME_REF, name_ref_found) ∷ (LIFETIME, lifetime_found) ∷
    (VISIBILITY, visibility_found) ∷ (VISIBILITY_INNER, visibility_inner_found) ∷ (RENAME, rename_found) ∷
    (ABI, abi_found) ∷ (RET_TYPE, ret_type_found) ∷ (PATH, path_found) ∷ (PATH_SEGMENT, path_segment_found) ∷
    (TYPE_ANCHOR, type_anchor_found) ∷ (RETURN_TYPE_SYNTAX, return_type_syntax_found) ∷
    (PARENTHESIZED_ARG_LIST, parenthesized_arg_list_found) ∷ (LET_STMT, let_stmt_found) ∷ (EXPR_STMT, expr_stmt_found) ∷
    (LET_ELSE, let_else_found) ∷ (STMT_LIST, stmt_list_found) ∷ (BLOCK_EXPR, block_expr_found) ∷ (LABEL, label_found) ∷
    (TRY_BLOCK_MODIFIER, try_block_modifier_found) ∷ (RANGE_EXPR, range_expr_found) ∷ (BIN_EXPR, bin_expr_found) ∷
    (REF_EXPR, ref_expr_found) ∷ (PREFIX_EXPR, prefix_expr_found) ∷ (CALL_EXPR, call_expr_found) ∷
    (INDEX_EXPR, index_expr_found) ∷ (METHOD_CALL_EXPR, method_call_expr_found) ∷ (FIELD_EXPR, field_expr_found) ∷
    (AWAIT_EXPR, await_expr_found) ∷ (TRY_EXPR, try_expr_found) ∷ (CAST_EXPR, cast_expr_found) ∷
    (ARG_LIST, arg_list_found) ∷ (RECORD_EXPR, record_expr_found) ∷ (RECORD_EXPR_FIELD, record_expr_field_found) ∷
    (RECORD_EXPR_FIELD_LIST, record_expr_field_list_found) ∷ (MACRO_CALL, macro_call_found) ∷
    (MACRO_EXPR, macro_expr_found) ∷ (PATH_EXPR, path_expr_found) ∷ (LITERAL, literal_found) ∷
    (UNDERSCORE_EXPR, underscore_expr_found) ∷ (PAREN_EXPR, paren_expr_found) ∷ (TUPLE_EXPR, tuple_expr_found) ∷
    (ARRAY_EXPR, array_expr_found) ∷ (CLOSURE_EXPR, closure_expr_found) ∷ (IF_EXPR, if_expr_found) ∷
    (LOOP_EXPR, loop_expr_found) ∷ (WHILE_EXPR, while_expr_found) ∷ (FOR_EXPR, for_expr_found) ∷
    (LET_EXPR, let_expr_found) ∷ (MATCH_EXPR, match_expr_found) ∷ (MATCH_ARM_LIST, match_arm_list_found) ∷
    (MATCH_ARM, match_arm_found) ∷ (MATCH_GUARD, match_guard_found) ∷ (RETURN_EXPR, return_expr_found) ∷
    (BECOME_EXPR, become_expr_found) ∷ (YIELD_EXPR, yield_expr_found) ∷ (YEET_EXPR, yeet_expr_found) ∷
    (CONTINUE_EXPR, continue_expr_found) ∷ (BREAK_EXPR, break_expr_found) ∷ (OFFSET_OF_EXPR, offset_of_expr_found) ∷
    (FORMAT_ARGS_EXPR, format_args_expr_found) ∷ (FORMAT_ARGS_ARG, format_args_arg_found) ∷
    (INCLUDE_BYTES_EXPR, include_bytes_expr_found) ∷ (CFG_PRED_EXPR, cfg_pred_expr_found) ∷ (ASM_EXPR, asm_expr_found) ∷
    (ASM_CLOBBER_ABI, asm_clobber_abi_found) ∷ (ASM_OPTIONS, asm_options_found) ∷ (ASM_OPTION, asm_option_found) ∷
    (ASM_DIR_SPEC, asm_dir_spec_found) ∷ (ASM_OPERAND_EXPR, asm_operand_expr_found) ∷
    (ASM_REG_OPERAND, asm_reg_operand_found) ∷ (ASM_OPERAND_NAMED, asm_operand_named_found) ∷
    (ASM_LABEL, asm_label_found) ∷ (ASM_CONST, asm_const_found) ∷ (ASM_SYM, asm_sym_found) ∷
    (ASM_REG_SPEC, asm_reg_spec_found) ∷ (MODULE, module_found) ∷ (ITEM_LIST, item_list_found) ∷
    (EXTERN_CRATE, extern_crate_found) ∷ (EXTERN_BLOCK, extern_block_found) ∷
    (EXTERN_ITEM_LIST, extern_item_list_found) ∷ (IMPL_RESTRICTION, impl_restriction_found) ∷
    (MUT_RESTRICTION, mut_restriction_found) ∷ (TYPE_ALIAS, type_alias_found) ∷ (MACRO_RULES, macro_rules_found) ∷
    (MACRO_DEF, macro_def_found) ∷ (FN, fn_found) ∷ (TOKEN_TREE, token_tree_found) ∷ (STRUCT, struct_found) ∷
    (UNION, union_found) ∷ (ENUM, enum_found) ∷ (VARIANT_LIST, variant_list_found) ∷ (VARIANT, variant_found) ∷
    (RECORD_FIELD_LIST, record_field_list_found) ∷ (RECORD_FIELD, record_field_found) ∷
    (TUPLE_FIELD_LIST, tuple_field_list_found) ∷ (TUPLE_FIELD, tuple_field_found) ∷ (CONST, const_found) ∷
    (STATIC, static_found) ∷ (TRAIT, trait_found) ∷ (IMPL, impl_found) ∷ (ASSOC_ITEM_LIST, assoc_item_list_found) ∷
    (USE, use_found) ∷ (USE_TREE, use_tree_found) ∷ (USE_TREE_LIST, use_tree_list_found) ∷
    (PARAM_LIST, param_list_found) ∷ (PARAM, param_found) ∷ (SELF_PARAM, self_param_found) ∷ (OR_PAT, or_pat_found) ∷
    (RANGE_PAT, range_pat_found) ∷ (REST_PAT, rest_pat_found) ∷ (DEREF_PAT, deref_pat_found) ∷
    (CFG_PRED_PAT, cfg_pred_pat_found) ∷ (LITERAL_PAT, literal_pat_found) ∷ (TUPLE_STRUCT_PAT, tuple_struct_pat_found) ∷
    (RECORD_PAT, record_pat_found) ∷ (RECORD_PAT_FIELD_LIST, record_pat_field_list_found) ∷
    (RECORD_PAT_FIELD, record_pat_field_found) ∷ (MACRO_PAT, macro_pat_found) ∷ (PATH_PAT, path_pat_found) ∷
    (WILDCARD_PAT, wildcard_pat_found) ∷ (REF_PAT, ref_pat_found) ∷ (NOT_NULL, not_null_found) ∷
    (PAREN_PAT, paren_pat_found) ∷ (TUPLE_PAT, tuple_pat_found) ∷ (SLICE_PAT, slice_pat_found) ∷
    (IDENT_PAT, ident_pat_found) ∷ (BOX_PAT, box_pat_found) ∷ (CONST_BLOCK_PAT, const_block_pat_found) ∷
    (PAREN_TYPE, paren_type_found) ∷ (TUPLE_TYPE, tuple_type_found) ∷ (NEVER_TYPE, never_type_found) ∷
    (PTR_TYPE, ptr_type_found) ∷ (SLICE_TYPE, slice_type_found) ∷ (ARRAY_TYPE, array_type_found) ∷
    (REF_TYPE, ref_type_found) ∷ (INFER_TYPE, infer_type_found) ∷ (FN_PTR_TYPE, fn_ptr_type_found) ∷
    (FOR_BINDER, for_binder_found) ∷ (FOR_TYPE, for_type_found) ∷ (IMPL_TRAIT_TYPE, impl_trait_type_found) ∷
    (DYN_TRAIT_TYPE, dyn_trait_type_found) ∷ (MACRO_TYPE, macro_type_found) ∷ (PATH_TYPE, path_type_found) ∷
    (PATTERN_TYPE, pattern_type_found) ∷ (TYPE_BOUND, type_bound_found) ∷ (TYPE_BOUND_LIST, type_bound_list_found) ∷
    (GENERIC_ARG_LIST, generic_arg_list_found) ∷ (TYPE_ARG, type_arg_found) ∷ (LIFETIME_ARG, lifetime_arg_found) ∷
    (CONST_ARG, const_arg_found) ∷ (ASSOC_TYPE_ARG, assoc_type_arg_found) ∷
    (USE_BOUND_GENERIC_ARGS, use_bound_generic_args_found) ∷ (GENERIC_PARAM_LIST, generic_param_list_found) ∷
    (LIFETIME_PARAM, lifetime_param_found) ∷ (TYPE_PARAM, type_param_found) ∷ (CONST_PARAM, const_param_found) ∷
    (WHERE_CLAUSE, where_clause_found) ∷ (WHERE_PRED, where_pred_found) ∷ (DOC_COMMENT, doc_comment_found) ∷
    (ATTR, attr_found) ∷ (UNSAFE_META, unsafe_meta_found) ∷ (CFG_ATTR_META, cfg_attr_meta_found) ∷
    (CFG_META, cfg_meta_found) ∷ (CFG_ATOM, cfg_atom_found) ∷ (CFG_COMPOSITE, cfg_composite_found) ∷
    (KEY_VALUE_META, key_value_meta_found) ∷ (TOKEN_TREE_META, token_tree_meta_found) ∷ (PATH_META, path_meta_found) ∷
    []
