-- Written by crates/rap_base/fields from fields.txt beside it and the shapes of nodes: an edit here is lost.
-- The fields that are found by the kinds of nodes alone, with how many children a whole node has of each.
use Rattle.std.specs.Prelude.{List, Some, [], ℕ, ◌∷◌}
use Rattle.rap_base.specs.NodeKind.{ABI, ARG_LIST, ARRAY_EXPR, ARRAY_TYPE, ASM_CLOBBER_ABI, ASM_CONST, ASM_DIR_SPEC, ASM_EXPR, ASM_LABEL, ASM_OPERAND_EXPR, ASM_OPERAND_NAMED, ASM_OPTION, ASM_OPTIONS, ASM_REG_OPERAND, ASM_REG_SPEC, ASM_SYM, ASSOC_ITEM_LIST, ASSOC_TYPE_ARG, ATTR, AWAIT_EXPR, BECOME_EXPR, BLOCK_EXPR, BOX_PAT, BREAK_EXPR, CALL_EXPR, CAST_EXPR, CFG_ATOM, CFG_ATTR_META, CFG_COMPOSITE, CFG_META, CFG_PRED_EXPR, CFG_PRED_PAT, CLOSURE_EXPR, CONST, CONST_ARG, CONST_BLOCK_PAT, CONST_PARAM, CONTINUE_EXPR, DEREF_PAT, DYN_TRAIT_TYPE, ENUM, EXPR_STMT, EXTERN_BLOCK, EXTERN_CRATE, EXTERN_ITEM_LIST, FIELD_EXPR, FN, FN_PTR_TYPE, FORMAT_ARGS_ARG, FORMAT_ARGS_EXPR, FOR_BINDER, FOR_EXPR, FOR_TYPE, GENERIC_ARG_LIST, GENERIC_PARAM_LIST, IDENT_PAT, IF_EXPR, IMPL, IMPL_RESTRICTION, IMPL_TRAIT_TYPE, INCLUDE_BYTES_EXPR, INDEX_EXPR, ITEM_LIST, KEY_VALUE_META, LABEL, LET_ELSE, LET_EXPR, LET_STMT, LIFETIME, LIFETIME_ARG, LIFETIME_PARAM, LITERAL, LITERAL_PAT, LOOP_EXPR, MACRO_CALL, MACRO_DEF, MACRO_EXPR, MACRO_ITEMS, MACRO_PAT, MACRO_RULES, MACRO_STMTS, MACRO_TYPE, MATCH_ARM, MATCH_ARM_LIST, MATCH_EXPR, MATCH_GUARD, METHOD_CALL_EXPR, MODULE, MUT_RESTRICTION, NAME, NAME_REF, NOT_NULL, OFFSET_OF_EXPR, OR_PAT, PARAM, PARAM_LIST, PARENTHESIZED_ARG_LIST, PAREN_EXPR, PAREN_PAT, PAREN_TYPE, PATH, PATH_EXPR, PATH_META, PATH_PAT, PATH_SEGMENT, PATH_TYPE, PATTERN_TYPE, PREFIX_EXPR, PTR_TYPE, RANGE_EXPR, RECORD_EXPR, RECORD_EXPR_FIELD, RECORD_EXPR_FIELD_LIST, RECORD_FIELD, RECORD_FIELD_LIST, RECORD_PAT, RECORD_PAT_FIELD, RECORD_PAT_FIELD_LIST, REF_EXPR, REF_PAT, REF_TYPE, RENAME, REST_PAT, RETURN_EXPR, RETURN_TYPE_SYNTAX, RET_TYPE, SELF_PARAM, SLICE_PAT, SLICE_TYPE, SOURCE_FILE, STATIC, STMT_LIST, STRUCT, TOKEN_TREE, TOKEN_TREE_META, TRAIT, TRY_BLOCK_MODIFIER, TRY_EXPR, TUPLE_EXPR, TUPLE_FIELD, TUPLE_FIELD_LIST, TUPLE_PAT, TUPLE_STRUCT_PAT, TUPLE_TYPE, TYPE_ALIAS, TYPE_ANCHOR, TYPE_ARG, TYPE_BOUND, TYPE_BOUND_LIST, TYPE_PARAM, UNDERSCORE_EXPR, UNION, UNSAFE_META, USE, USE_BOUND_GENERIC_ARGS, USE_TREE, USE_TREE_LIST, VARIANT, VARIANT_LIST, VISIBILITY, VISIBILITY_INNER, WHERE_CLAUSE, WHERE_PRED, WHILE_EXPR, YEET_EXPR, YIELD_EXPR}
use Rattle.rap_base.specs.TokenKind.{ERROR}
use Rattle.rap_fields.specs.Field.{any_number, at_least_one, at_most_one, between, exactly_one}
use Rattle.rap_fields.specs.Place.{FieldRow, anywhere, attributes, documentation}
use Rattle.rap_fields.specs.declared.rule.Which.TheVariants.{All, First, Last}
use Rattle.rap_grammar_shapes.specs.Shapes.{expressions, generic_arguments, generic_parameters, items, metas, patterns, types}
use Rattle.rap_fields.specs.FieldNames as field

abbrev pub error_fields : List FieldRow
error_fields = attributes ∷ documentation ∷ anywhere field.PATH First (exactly_one (PATH ∷ [])) ∷ []

abbrev pub source_file_fields : List FieldRow
source_file_fields = attributes ∷ documentation ∷ anywhere field.ITEMS All (any_number items) ∷ []

abbrev pub macro_stmts_fields : List FieldRow
macro_stmts_fields =
    anywhere field.STATEMENTS All (any_number (LET_STMT ∷ EXPR_STMT ∷ items)) ∷
    anywhere field.EXPR First (any_number expressions) ∷ []

abbrev pub macro_items_fields : List FieldRow
macro_items_fields = attributes ∷ documentation ∷ anywhere field.ITEMS All (any_number items) ∷ []

abbrev pub visibility_fields : List FieldRow
visibility_fields = anywhere field.VISIBILITY_INNER First (at_most_one (VISIBILITY_INNER ∷ [])) ∷ []

abbrev pub visibility_inner_fields : List FieldRow
visibility_inner_fields = anywhere field.PATH First (exactly_one (PATH ∷ [])) ∷ []

abbrev pub rename_fields : List FieldRow
rename_fields = anywhere field.NAME First (at_most_one (NAME ∷ [])) ∷ []

abbrev pub ret_type_fields : List FieldRow
ret_type_fields = anywhere field.TY First (exactly_one types) ∷ []

abbrev pub path_fields : List FieldRow
path_fields =
    anywhere field.QUALIFIER First (at_most_one (PATH ∷ [])) ∷
    anywhere field.SEGMENT First (exactly_one (PATH_SEGMENT ∷ [])) ∷ []

abbrev pub path_segment_fields : List FieldRow
path_segment_fields =
    anywhere field.TYPE_ANCHOR First (at_most_one (TYPE_ANCHOR ∷ [])) ∷
    anywhere field.NAME_REF First (at_most_one (NAME_REF ∷ [])) ∷
    anywhere field.GENERIC_ARG_LIST First (at_most_one (GENERIC_ARG_LIST ∷ [])) ∷
    anywhere field.RETURN_TYPE_SYNTAX First (at_most_one (RETURN_TYPE_SYNTAX ∷ [])) ∷
    anywhere field.PARENTHESIZED_ARG_LIST First (at_most_one (PARENTHESIZED_ARG_LIST ∷ [])) ∷
    anywhere field.RET_TYPE First (at_most_one (RET_TYPE ∷ [])) ∷ []

abbrev pub parenthesized_arg_list_fields : List FieldRow
parenthesized_arg_list_fields = anywhere field.TYPE_ARGS All (any_number (TYPE_ARG ∷ [])) ∷ []

abbrev pub let_stmt_fields : List FieldRow
let_stmt_fields =
    attributes ∷ documentation ∷ anywhere field.PAT First (exactly_one patterns) ∷
    anywhere field.TY First (at_most_one types) ∷ anywhere field.INITIALIZER First (at_most_one expressions) ∷
    anywhere field.LET_ELSE First (at_most_one (LET_ELSE ∷ [])) ∷ []

abbrev pub expr_stmt_fields : List FieldRow
expr_stmt_fields = anywhere field.EXPR First (exactly_one expressions) ∷ []

abbrev pub let_else_fields : List FieldRow
let_else_fields = anywhere field.BLOCK_EXPR First (exactly_one (BLOCK_EXPR ∷ [])) ∷ []

abbrev pub stmt_list_fields : List FieldRow
stmt_list_fields =
    attributes ∷ documentation ∷ anywhere field.STATEMENTS All (any_number (LET_STMT ∷ EXPR_STMT ∷ items)) ∷
    anywhere field.TAIL_EXPR First (any_number expressions) ∷ []

abbrev pub block_expr_fields : List FieldRow
block_expr_fields =
    attributes ∷ documentation ∷ anywhere field.LABEL First (at_most_one (LABEL ∷ [])) ∷
    anywhere field.TRY_BLOCK_MODIFIER First (at_most_one (TRY_BLOCK_MODIFIER ∷ [])) ∷
    anywhere field.STMT_LIST First (exactly_one (STMT_LIST ∷ [])) ∷ []

abbrev pub label_fields : List FieldRow
label_fields = anywhere field.LIFETIME First (exactly_one (LIFETIME ∷ [])) ∷ []

abbrev pub try_block_modifier_fields : List FieldRow
try_block_modifier_fields = anywhere field.TY First (at_most_one types) ∷ []

abbrev pub range_expr_fields : List FieldRow
range_expr_fields = attributes ∷ documentation ∷ []

abbrev pub ref_expr_fields : List FieldRow
ref_expr_fields = attributes ∷ documentation ∷ anywhere field.EXPR First (exactly_one expressions) ∷ []

abbrev pub prefix_expr_fields : List FieldRow
prefix_expr_fields = attributes ∷ documentation ∷ anywhere field.EXPR First (at_most_one expressions) ∷ []

abbrev pub call_expr_fields : List FieldRow
call_expr_fields =
    attributes ∷ documentation ∷ anywhere field.EXPR First (exactly_one expressions) ∷
    anywhere field.ARG_LIST First (exactly_one (ARG_LIST ∷ [])) ∷ []

abbrev pub index_expr_fields : List FieldRow
index_expr_fields = attributes ∷ documentation ∷ []

abbrev pub method_call_expr_fields : List FieldRow
method_call_expr_fields =
    attributes ∷ documentation ∷ anywhere field.RECEIVER First (exactly_one expressions) ∷
    anywhere field.NAME_REF First (exactly_one (NAME_REF ∷ [])) ∷
    anywhere field.GENERIC_ARG_LIST First (at_most_one (GENERIC_ARG_LIST ∷ [])) ∷
    anywhere field.ARG_LIST First (exactly_one (ARG_LIST ∷ [])) ∷ []

abbrev pub field_expr_fields : List FieldRow
field_expr_fields =
    attributes ∷ documentation ∷ anywhere field.EXPR First (exactly_one expressions) ∷
    anywhere field.NAME_REF First (exactly_one (NAME_REF ∷ [])) ∷ []

abbrev pub await_expr_fields : List FieldRow
await_expr_fields = attributes ∷ documentation ∷ anywhere field.EXPR First (exactly_one expressions) ∷ []

abbrev pub try_expr_fields : List FieldRow
try_expr_fields = attributes ∷ documentation ∷ anywhere field.EXPR First (exactly_one expressions) ∷ []

abbrev pub cast_expr_fields : List FieldRow
cast_expr_fields =
    anywhere field.EXPR First (exactly_one expressions) ∷ anywhere field.TY First (exactly_one types) ∷ []

abbrev pub arg_list_fields : List FieldRow
arg_list_fields = anywhere field.ARGS All (any_number expressions) ∷ []

abbrev pub record_expr_fields : List FieldRow
record_expr_fields =
    attributes ∷ documentation ∷ anywhere field.PATH First (exactly_one (PATH ∷ [])) ∷
    anywhere field.RECORD_EXPR_FIELD_LIST First (exactly_one (RECORD_EXPR_FIELD_LIST ∷ [])) ∷ []

abbrev pub record_expr_field_fields : List FieldRow
record_expr_field_fields =
    attributes ∷ documentation ∷ anywhere field.NAME_REF First (at_most_one (NAME_REF ∷ [])) ∷
    anywhere field.EXPR First (exactly_one expressions) ∷ []

abbrev pub record_expr_field_list_fields : List FieldRow
record_expr_field_list_fields =
    anywhere field.FIELDS All (any_number (RECORD_EXPR_FIELD ∷ [])) ∷ attributes ∷ documentation ∷
    anywhere field.SPREAD First (any_number expressions) ∷ []

abbrev pub macro_call_fields : List FieldRow
macro_call_fields =
    attributes ∷ documentation ∷ anywhere field.PATH First (exactly_one (PATH ∷ [])) ∷
    anywhere field.TOKEN_TREE First (exactly_one (TOKEN_TREE ∷ [])) ∷ []

abbrev pub macro_expr_fields : List FieldRow
macro_expr_fields = attributes ∷ documentation ∷ anywhere field.MACRO_CALL First (exactly_one (MACRO_CALL ∷ [])) ∷ []

abbrev pub path_expr_fields : List FieldRow
path_expr_fields = attributes ∷ documentation ∷ anywhere field.PATH First (exactly_one (PATH ∷ [])) ∷ []

abbrev pub literal_fields : List FieldRow
literal_fields = attributes ∷ documentation ∷ []

abbrev pub underscore_expr_fields : List FieldRow
underscore_expr_fields = attributes ∷ documentation ∷ []

abbrev pub paren_expr_fields : List FieldRow
paren_expr_fields = attributes ∷ documentation ∷ anywhere field.EXPR First (exactly_one expressions) ∷ []

abbrev pub tuple_expr_fields : List FieldRow
tuple_expr_fields = attributes ∷ documentation ∷ anywhere field.FIELDS All (any_number expressions) ∷ []

abbrev pub array_expr_fields : List FieldRow
array_expr_fields = attributes ∷ documentation ∷ []

abbrev pub closure_expr_fields : List FieldRow
closure_expr_fields =
    attributes ∷ documentation ∷ anywhere field.FOR_BINDER First (at_most_one (FOR_BINDER ∷ [])) ∷
    anywhere field.PARAM_LIST First (exactly_one (PARAM_LIST ∷ [])) ∷
    anywhere field.RET_TYPE First (at_most_one (RET_TYPE ∷ [])) ∷ anywhere field.BODY First (exactly_one expressions) ∷
    []

abbrev pub if_expr_fields : List FieldRow
if_expr_fields = attributes ∷ documentation ∷ []

abbrev pub loop_expr_fields : List FieldRow
loop_expr_fields =
    attributes ∷ documentation ∷ anywhere field.LABEL First (at_most_one (LABEL ∷ [])) ∷
    anywhere field.LOOP_BODY First (exactly_one (BLOCK_EXPR ∷ [])) ∷ []

abbrev pub while_expr_fields : List FieldRow
while_expr_fields =
    attributes ∷ documentation ∷ anywhere field.LABEL First (at_most_one (LABEL ∷ [])) ∷
    anywhere field.LOOP_BODY Last (between 1 (Some 2) (BLOCK_EXPR ∷ [])) ∷ []

abbrev pub for_expr_fields : List FieldRow
for_expr_fields =
    attributes ∷ documentation ∷ anywhere field.LABEL First (at_most_one (LABEL ∷ [])) ∷
    anywhere field.PAT First (exactly_one patterns) ∷
    anywhere field.LOOP_BODY Last (between 1 (Some 2) (BLOCK_EXPR ∷ [])) ∷ []

abbrev pub let_expr_fields : List FieldRow
let_expr_fields =
    attributes ∷ documentation ∷ anywhere field.PAT First (exactly_one patterns) ∷
    anywhere field.EXPR First (exactly_one expressions) ∷ []

abbrev pub match_expr_fields : List FieldRow
match_expr_fields =
    attributes ∷ documentation ∷ anywhere field.EXPR First (exactly_one expressions) ∷
    anywhere field.MATCH_ARM_LIST First (exactly_one (MATCH_ARM_LIST ∷ [])) ∷ []

abbrev pub match_arm_list_fields : List FieldRow
match_arm_list_fields = attributes ∷ documentation ∷ anywhere field.ARMS All (any_number (MATCH_ARM ∷ [])) ∷ []

abbrev pub match_arm_fields : List FieldRow
match_arm_fields =
    attributes ∷ documentation ∷ anywhere field.PAT First (exactly_one patterns) ∷
    anywhere field.GUARD First (at_most_one (MATCH_GUARD ∷ [])) ∷ anywhere field.EXPR First (exactly_one expressions) ∷
    []

abbrev pub match_guard_fields : List FieldRow
match_guard_fields = anywhere field.CONDITION First (exactly_one expressions) ∷ []

abbrev pub return_expr_fields : List FieldRow
return_expr_fields = attributes ∷ documentation ∷ anywhere field.EXPR First (at_most_one expressions) ∷ []

abbrev pub become_expr_fields : List FieldRow
become_expr_fields = attributes ∷ documentation ∷ anywhere field.EXPR First (exactly_one expressions) ∷ []

abbrev pub yield_expr_fields : List FieldRow
yield_expr_fields = attributes ∷ documentation ∷ anywhere field.EXPR First (at_most_one expressions) ∷ []

abbrev pub yeet_expr_fields : List FieldRow
yeet_expr_fields = attributes ∷ documentation ∷ anywhere field.EXPR First (at_most_one expressions) ∷ []

abbrev pub continue_expr_fields : List FieldRow
continue_expr_fields = attributes ∷ documentation ∷ anywhere field.LIFETIME First (at_most_one (LIFETIME ∷ [])) ∷ []

abbrev pub break_expr_fields : List FieldRow
break_expr_fields =
    attributes ∷ documentation ∷ anywhere field.LIFETIME First (at_most_one (LIFETIME ∷ [])) ∷
    anywhere field.EXPR First (at_most_one expressions) ∷ []

abbrev pub offset_of_expr_fields : List FieldRow
offset_of_expr_fields =
    attributes ∷ documentation ∷ anywhere field.TY First (exactly_one types) ∷
    anywhere field.FIELDS All (any_number (NAME_REF ∷ [])) ∷ []

abbrev pub format_args_expr_fields : List FieldRow
format_args_expr_fields =
    attributes ∷ documentation ∷ anywhere field.TEMPLATE First (exactly_one expressions) ∷
    anywhere field.ARGS All (any_number (FORMAT_ARGS_ARG ∷ [])) ∷ []

abbrev pub format_args_arg_fields : List FieldRow
format_args_arg_fields =
    anywhere field.NAME First (at_most_one (NAME ∷ [])) ∷ anywhere field.EXPR First (exactly_one expressions) ∷ []

abbrev pub include_bytes_expr_fields : List FieldRow
include_bytes_expr_fields = attributes ∷ documentation ∷ []

abbrev pub cfg_pred_expr_fields : List FieldRow
cfg_pred_expr_fields =
    attributes ∷ documentation ∷ anywhere field.CFG_PREDICATE First (exactly_one (CFG_ATOM ∷ CFG_COMPOSITE ∷ [])) ∷ []

abbrev pub asm_expr_fields : List FieldRow
asm_expr_fields =
    attributes ∷ documentation ∷ anywhere field.VISIBILITY First (at_most_one (VISIBILITY ∷ [])) ∷
    anywhere field.TEMPLATE All (at_least_one expressions) ∷
    anywhere field.ASM_PIECES All (any_number (ASM_CLOBBER_ABI ∷ ASM_OPTIONS ∷ ASM_OPERAND_NAMED ∷ [])) ∷ []

abbrev pub asm_clobber_abi_fields : List FieldRow
asm_clobber_abi_fields = attributes ∷ documentation ∷ []

abbrev pub asm_options_fields : List FieldRow
asm_options_fields = attributes ∷ documentation ∷ anywhere field.ASM_OPTIONS All (any_number (ASM_OPTION ∷ [])) ∷ []

abbrev pub asm_reg_operand_fields : List FieldRow
asm_reg_operand_fields =
    anywhere field.ASM_DIR_SPEC First (exactly_one (ASM_DIR_SPEC ∷ [])) ∷
    anywhere field.ASM_REG_SPEC First (exactly_one (ASM_REG_SPEC ∷ [])) ∷
    anywhere field.ASM_OPERAND_EXPR First (exactly_one (ASM_OPERAND_EXPR ∷ [])) ∷ []

abbrev pub asm_operand_named_fields : List FieldRow
asm_operand_named_fields =
    attributes ∷ documentation ∷ anywhere field.NAME First (at_most_one (NAME ∷ [])) ∷
    anywhere field.ASM_OPERAND First (exactly_one (ASM_REG_OPERAND ∷ ASM_LABEL ∷ ASM_CONST ∷ ASM_SYM ∷ [])) ∷ []

abbrev pub asm_label_fields : List FieldRow
asm_label_fields = anywhere field.BLOCK_EXPR First (exactly_one (BLOCK_EXPR ∷ [])) ∷ []

abbrev pub asm_const_fields : List FieldRow
asm_const_fields = anywhere field.EXPR First (exactly_one expressions) ∷ []

abbrev pub asm_sym_fields : List FieldRow
asm_sym_fields = anywhere field.PATH First (exactly_one (PATH ∷ [])) ∷ []

abbrev pub asm_reg_spec_fields : List FieldRow
asm_reg_spec_fields = anywhere field.NAME_REF First (at_most_one (NAME_REF ∷ [])) ∷ []

abbrev pub module_fields : List FieldRow
module_fields =
    attributes ∷ documentation ∷ anywhere field.VISIBILITY First (at_most_one (VISIBILITY ∷ [])) ∷
    anywhere field.NAME First (exactly_one (NAME ∷ [])) ∷
    anywhere field.ITEM_LIST First (at_most_one (ITEM_LIST ∷ [])) ∷ []

abbrev pub item_list_fields : List FieldRow
item_list_fields = attributes ∷ documentation ∷ anywhere field.ITEMS All (any_number items) ∷ []

abbrev pub extern_crate_fields : List FieldRow
extern_crate_fields =
    attributes ∷ documentation ∷ anywhere field.VISIBILITY First (at_most_one (VISIBILITY ∷ [])) ∷
    anywhere field.NAME_REF First (exactly_one (NAME_REF ∷ [])) ∷
    anywhere field.RENAME First (at_most_one (RENAME ∷ [])) ∷ []

abbrev pub extern_block_fields : List FieldRow
extern_block_fields =
    attributes ∷ documentation ∷ anywhere field.VISIBILITY First (at_most_one (VISIBILITY ∷ [])) ∷
    anywhere field.IMPL_RESTRICTION First (at_most_one (IMPL_RESTRICTION ∷ [])) ∷
    anywhere field.ABI First (exactly_one (ABI ∷ [])) ∷
    anywhere field.EXTERN_ITEM_LIST First (exactly_one (EXTERN_ITEM_LIST ∷ [])) ∷ []

abbrev pub extern_item_list_fields : List FieldRow
extern_item_list_fields =
    attributes ∷ documentation ∷
    anywhere field.EXTERN_ITEMS All (any_number (MACRO_CALL ∷ TYPE_ALIAS ∷ FN ∷ STATIC ∷ [])) ∷ []

abbrev pub impl_restriction_fields : List FieldRow
impl_restriction_fields = anywhere field.VISIBILITY_INNER First (exactly_one (VISIBILITY_INNER ∷ [])) ∷ []

abbrev pub mut_restriction_fields : List FieldRow
mut_restriction_fields = anywhere field.VISIBILITY_INNER First (exactly_one (VISIBILITY_INNER ∷ [])) ∷ []

abbrev pub type_alias_fields : List FieldRow
type_alias_fields =
    attributes ∷ documentation ∷ anywhere field.VISIBILITY First (at_most_one (VISIBILITY ∷ [])) ∷
    anywhere field.IMPL_RESTRICTION First (at_most_one (IMPL_RESTRICTION ∷ [])) ∷
    anywhere field.ABI First (at_most_one (ABI ∷ [])) ∷ anywhere field.NAME First (exactly_one (NAME ∷ [])) ∷
    anywhere field.GENERIC_PARAM_LIST First (at_most_one (GENERIC_PARAM_LIST ∷ [])) ∷
    anywhere field.TYPE_BOUND_LIST First (at_most_one (TYPE_BOUND_LIST ∷ [])) ∷
    anywhere field.TY First (at_most_one types) ∷ []

abbrev pub macro_rules_fields : List FieldRow
macro_rules_fields =
    attributes ∷ documentation ∷ anywhere field.VISIBILITY First (at_most_one (VISIBILITY ∷ [])) ∷
    anywhere field.NAME First (exactly_one (NAME ∷ [])) ∷
    anywhere field.TOKEN_TREE First (exactly_one (TOKEN_TREE ∷ [])) ∷ []

abbrev pub macro_def_fields : List FieldRow
macro_def_fields =
    attributes ∷ documentation ∷ anywhere field.VISIBILITY First (at_most_one (VISIBILITY ∷ [])) ∷
    anywhere field.NAME First (exactly_one (NAME ∷ [])) ∷
    anywhere field.BODY Last (between 1 (Some 2) (TOKEN_TREE ∷ [])) ∷ []

abbrev pub fn_fields : List FieldRow
fn_fields =
    attributes ∷ documentation ∷ anywhere field.VISIBILITY First (at_most_one (VISIBILITY ∷ [])) ∷
    anywhere field.IMPL_RESTRICTION First (at_most_one (IMPL_RESTRICTION ∷ [])) ∷
    anywhere field.ABI First (at_most_one (ABI ∷ [])) ∷ anywhere field.NAME First (exactly_one (NAME ∷ [])) ∷
    anywhere field.GENERIC_PARAM_LIST First (at_most_one (GENERIC_PARAM_LIST ∷ [])) ∷
    anywhere field.PARAM_LIST First (exactly_one (PARAM_LIST ∷ [])) ∷
    anywhere field.RET_TYPE First (at_most_one (RET_TYPE ∷ [])) ∷
    anywhere field.WHERE_CLAUSE First (at_most_one (WHERE_CLAUSE ∷ [])) ∷
    anywhere field.BODY First (at_most_one (BLOCK_EXPR ∷ [])) ∷ []

abbrev pub token_tree_fields : List FieldRow
token_tree_fields = anywhere field.TOKEN_TREES All (any_number (TOKEN_TREE ∷ [])) ∷ []

abbrev pub struct_fields : List FieldRow
struct_fields =
    attributes ∷ documentation ∷ anywhere field.VISIBILITY First (at_most_one (VISIBILITY ∷ [])) ∷
    anywhere field.NAME First (exactly_one (NAME ∷ [])) ∷
    anywhere field.GENERIC_PARAM_LIST First (at_most_one (GENERIC_PARAM_LIST ∷ [])) ∷
    anywhere field.WHERE_CLAUSE First (at_most_one (WHERE_CLAUSE ∷ [])) ∷
    anywhere field.FIELD_LIST First (at_most_one (RECORD_FIELD_LIST ∷ TUPLE_FIELD_LIST ∷ [])) ∷ []

abbrev pub union_fields : List FieldRow
union_fields =
    attributes ∷ documentation ∷ anywhere field.VISIBILITY First (at_most_one (VISIBILITY ∷ [])) ∷
    anywhere field.NAME First (exactly_one (NAME ∷ [])) ∷
    anywhere field.GENERIC_PARAM_LIST First (at_most_one (GENERIC_PARAM_LIST ∷ [])) ∷
    anywhere field.WHERE_CLAUSE First (at_most_one (WHERE_CLAUSE ∷ [])) ∷
    anywhere field.RECORD_FIELD_LIST First (at_most_one (RECORD_FIELD_LIST ∷ [])) ∷ []

abbrev pub enum_fields : List FieldRow
enum_fields =
    attributes ∷ documentation ∷ anywhere field.VISIBILITY First (at_most_one (VISIBILITY ∷ [])) ∷
    anywhere field.NAME First (exactly_one (NAME ∷ [])) ∷
    anywhere field.GENERIC_PARAM_LIST First (at_most_one (GENERIC_PARAM_LIST ∷ [])) ∷
    anywhere field.WHERE_CLAUSE First (at_most_one (WHERE_CLAUSE ∷ [])) ∷
    anywhere field.VARIANT_LIST First (exactly_one (VARIANT_LIST ∷ [])) ∷ []

abbrev pub variant_list_fields : List FieldRow
variant_list_fields = anywhere field.VARIANTS All (any_number (VARIANT ∷ [])) ∷ []

abbrev pub variant_fields : List FieldRow
variant_fields =
    attributes ∷ documentation ∷ anywhere field.NAME First (at_most_one (NAME ∷ [])) ∷
    anywhere field.FIELD_LIST First (at_most_one (RECORD_FIELD_LIST ∷ TUPLE_FIELD_LIST ∷ [])) ∷
    anywhere field.CONST_ARG First (at_most_one (CONST_ARG ∷ [])) ∷ []

abbrev pub record_field_list_fields : List FieldRow
record_field_list_fields = anywhere field.FIELDS All (any_number (RECORD_FIELD ∷ [])) ∷ []

abbrev pub record_field_fields : List FieldRow
record_field_fields =
    attributes ∷ documentation ∷ anywhere field.VISIBILITY First (at_most_one (VISIBILITY ∷ [])) ∷
    anywhere field.MUT_RESTRICTION First (between 0 (Some 2) (MUT_RESTRICTION ∷ [])) ∷
    anywhere field.NAME First (exactly_one (NAME ∷ [])) ∷ anywhere field.TY First (exactly_one types) ∷
    anywhere field.DEFAULT_VAL First (at_most_one (CONST_ARG ∷ [])) ∷ []

abbrev pub tuple_field_list_fields : List FieldRow
tuple_field_list_fields = anywhere field.FIELDS All (any_number (TUPLE_FIELD ∷ [])) ∷ []

abbrev pub tuple_field_fields : List FieldRow
tuple_field_fields =
    attributes ∷ documentation ∷ anywhere field.VISIBILITY First (at_most_one (VISIBILITY ∷ [])) ∷
    anywhere field.MUT_RESTRICTION First (at_most_one (MUT_RESTRICTION ∷ [])) ∷
    anywhere field.TY First (exactly_one types) ∷ []

abbrev pub const_fields : List FieldRow
const_fields =
    attributes ∷ documentation ∷ anywhere field.VISIBILITY First (at_most_one (VISIBILITY ∷ [])) ∷
    anywhere field.IMPL_RESTRICTION First (at_most_one (IMPL_RESTRICTION ∷ [])) ∷
    anywhere field.ABI First (at_most_one (ABI ∷ [])) ∷ anywhere field.NAME First (at_most_one (NAME ∷ [])) ∷
    anywhere field.GENERIC_PARAM_LIST First (at_most_one (GENERIC_PARAM_LIST ∷ [])) ∷
    anywhere field.TY First (exactly_one types) ∷ anywhere field.BODY First (at_most_one expressions) ∷
    anywhere field.WHERE_CLAUSE First (at_most_one (WHERE_CLAUSE ∷ [])) ∷ []

abbrev pub static_fields : List FieldRow
static_fields =
    attributes ∷ documentation ∷ anywhere field.VISIBILITY First (at_most_one (VISIBILITY ∷ [])) ∷
    anywhere field.IMPL_RESTRICTION First (at_most_one (IMPL_RESTRICTION ∷ [])) ∷
    anywhere field.ABI First (at_most_one (ABI ∷ [])) ∷ anywhere field.NAME First (exactly_one (NAME ∷ [])) ∷
    anywhere field.GENERIC_PARAM_LIST First (at_most_one (GENERIC_PARAM_LIST ∷ [])) ∷
    anywhere field.TY First (exactly_one types) ∷ anywhere field.BODY First (at_most_one expressions) ∷ []

abbrev pub trait_fields : List FieldRow
trait_fields =
    attributes ∷ documentation ∷ anywhere field.VISIBILITY First (at_most_one (VISIBILITY ∷ [])) ∷
    anywhere field.IMPL_RESTRICTION First (at_most_one (IMPL_RESTRICTION ∷ [])) ∷
    anywhere field.ABI First (at_most_one (ABI ∷ [])) ∷ anywhere field.NAME First (exactly_one (NAME ∷ [])) ∷
    anywhere field.GENERIC_PARAM_LIST First (at_most_one (GENERIC_PARAM_LIST ∷ [])) ∷
    anywhere field.TYPE_BOUND_LIST First (at_most_one (TYPE_BOUND_LIST ∷ [])) ∷
    anywhere field.WHERE_CLAUSE First (at_most_one (WHERE_CLAUSE ∷ [])) ∷
    anywhere field.ASSOC_ITEM_LIST First (at_most_one (ASSOC_ITEM_LIST ∷ [])) ∷ []

abbrev pub impl_fields : List FieldRow
impl_fields =
    attributes ∷ documentation ∷ anywhere field.VISIBILITY First (at_most_one (VISIBILITY ∷ [])) ∷
    anywhere field.IMPL_RESTRICTION First (at_most_one (IMPL_RESTRICTION ∷ [])) ∷
    anywhere field.ABI First (at_most_one (ABI ∷ [])) ∷
    anywhere field.GENERIC_PARAM_LIST First (at_most_one (GENERIC_PARAM_LIST ∷ [])) ∷
    anywhere field.WHERE_CLAUSE First (at_most_one (WHERE_CLAUSE ∷ [])) ∷
    anywhere field.ASSOC_ITEM_LIST First (exactly_one (ASSOC_ITEM_LIST ∷ [])) ∷ []

abbrev pub assoc_item_list_fields : List FieldRow
assoc_item_list_fields =
    attributes ∷ documentation ∷
    anywhere field.ASSOC_ITEMS All (any_number (MACRO_CALL ∷ TYPE_ALIAS ∷ FN ∷ CONST ∷ [])) ∷ []

abbrev pub use_fields : List FieldRow
use_fields =
    attributes ∷ documentation ∷ anywhere field.VISIBILITY First (at_most_one (VISIBILITY ∷ [])) ∷
    anywhere field.USE_TREE First (exactly_one (USE_TREE ∷ [])) ∷ []

abbrev pub use_tree_fields : List FieldRow
use_tree_fields =
    anywhere field.PATH First (at_most_one (PATH ∷ [])) ∷
    anywhere field.USE_TREE_LIST First (at_most_one (USE_TREE_LIST ∷ [])) ∷
    anywhere field.RENAME First (at_most_one (RENAME ∷ [])) ∷ []

abbrev pub use_tree_list_fields : List FieldRow
use_tree_list_fields = anywhere field.USE_TREES All (any_number (USE_TREE ∷ [])) ∷ []

abbrev pub param_list_fields : List FieldRow
param_list_fields =
    attributes ∷ documentation ∷ anywhere field.SELF_PARAM First (at_most_one (SELF_PARAM ∷ [])) ∷
    anywhere field.PARAMS All (any_number (PARAM ∷ [])) ∷ []

abbrev pub param_fields : List FieldRow
param_fields =
    attributes ∷ documentation ∷ anywhere field.PAT First (at_most_one patterns) ∷
    anywhere field.TY First (at_most_one types) ∷ []

abbrev pub self_param_fields : List FieldRow
self_param_fields =
    attributes ∷ documentation ∷ anywhere field.LIFETIME First (at_most_one (LIFETIME ∷ [])) ∷
    anywhere field.NAME First (exactly_one (NAME ∷ [])) ∷ anywhere field.TY First (at_most_one types) ∷ []

abbrev pub or_pat_fields : List FieldRow
or_pat_fields = anywhere field.PATS All (at_least_one patterns) ∷ []

abbrev pub rest_pat_fields : List FieldRow
rest_pat_fields = attributes ∷ documentation ∷ []

abbrev pub deref_pat_fields : List FieldRow
deref_pat_fields = anywhere field.PAT First (exactly_one patterns) ∷ []

abbrev pub cfg_pred_pat_fields : List FieldRow
cfg_pred_pat_fields = anywhere field.CFG_PREDICATE First (exactly_one (CFG_ATOM ∷ CFG_COMPOSITE ∷ [])) ∷ []

abbrev pub literal_pat_fields : List FieldRow
literal_pat_fields = anywhere field.LITERAL First (exactly_one (LITERAL ∷ [])) ∷ []

abbrev pub tuple_struct_pat_fields : List FieldRow
tuple_struct_pat_fields =
    anywhere field.PATH First (exactly_one (PATH ∷ [])) ∷ anywhere field.FIELDS All (any_number patterns) ∷ []

abbrev pub record_pat_fields : List FieldRow
record_pat_fields =
    anywhere field.PATH First (exactly_one (PATH ∷ [])) ∷
    anywhere field.RECORD_PAT_FIELD_LIST First (exactly_one (RECORD_PAT_FIELD_LIST ∷ [])) ∷ []

abbrev pub record_pat_field_list_fields : List FieldRow
record_pat_field_list_fields =
    anywhere field.FIELDS All (any_number (RECORD_PAT_FIELD ∷ [])) ∷
    anywhere field.REST_PAT First (any_number (REST_PAT ∷ [])) ∷ []

abbrev pub record_pat_field_fields : List FieldRow
record_pat_field_fields =
    attributes ∷ documentation ∷ anywhere field.NAME_REF First (at_most_one (NAME_REF ∷ [])) ∷
    anywhere field.PAT First (exactly_one patterns) ∷ []

abbrev pub macro_pat_fields : List FieldRow
macro_pat_fields = anywhere field.MACRO_CALL First (exactly_one (MACRO_CALL ∷ [])) ∷ []

abbrev pub path_pat_fields : List FieldRow
path_pat_fields = anywhere field.PATH First (exactly_one (PATH ∷ [])) ∷ []

abbrev pub ref_pat_fields : List FieldRow
ref_pat_fields = anywhere field.PAT First (exactly_one patterns) ∷ []

abbrev pub not_null_fields : List FieldRow
not_null_fields = anywhere field.PAT First (exactly_one patterns) ∷ []

abbrev pub paren_pat_fields : List FieldRow
paren_pat_fields = anywhere field.PAT First (exactly_one patterns) ∷ []

abbrev pub tuple_pat_fields : List FieldRow
tuple_pat_fields = anywhere field.FIELDS All (any_number patterns) ∷ []

abbrev pub slice_pat_fields : List FieldRow
slice_pat_fields = anywhere field.PATS All (any_number patterns) ∷ []

abbrev pub ident_pat_fields : List FieldRow
ident_pat_fields =
    anywhere field.NAME First (exactly_one (NAME ∷ [])) ∷ anywhere field.PAT First (at_most_one patterns) ∷ []

abbrev pub box_pat_fields : List FieldRow
box_pat_fields = anywhere field.PAT First (exactly_one patterns) ∷ []

abbrev pub const_block_pat_fields : List FieldRow
const_block_pat_fields = anywhere field.BLOCK_EXPR First (exactly_one (BLOCK_EXPR ∷ [])) ∷ []

abbrev pub paren_type_fields : List FieldRow
paren_type_fields = anywhere field.TY First (exactly_one types) ∷ []

abbrev pub tuple_type_fields : List FieldRow
tuple_type_fields = anywhere field.FIELDS All (any_number types) ∷ []

abbrev pub ptr_type_fields : List FieldRow
ptr_type_fields = anywhere field.TY First (exactly_one types) ∷ []

abbrev pub slice_type_fields : List FieldRow
slice_type_fields = anywhere field.TY First (exactly_one types) ∷ []

abbrev pub array_type_fields : List FieldRow
array_type_fields =
    anywhere field.TY First (exactly_one types) ∷ anywhere field.CONST_ARG First (exactly_one (CONST_ARG ∷ [])) ∷ []

abbrev pub ref_type_fields : List FieldRow
ref_type_fields =
    anywhere field.LIFETIME First (at_most_one (LIFETIME ∷ [])) ∷ anywhere field.TY First (exactly_one types) ∷ []

abbrev pub fn_ptr_type_fields : List FieldRow
fn_ptr_type_fields =
    anywhere field.ABI First (at_most_one (ABI ∷ [])) ∷
    anywhere field.PARAM_LIST First (exactly_one (PARAM_LIST ∷ [])) ∷
    anywhere field.RET_TYPE First (at_most_one (RET_TYPE ∷ [])) ∷ []

abbrev pub for_binder_fields : List FieldRow
for_binder_fields = anywhere field.GENERIC_PARAM_LIST First (exactly_one (GENERIC_PARAM_LIST ∷ [])) ∷ []

abbrev pub for_type_fields : List FieldRow
for_type_fields =
    anywhere field.FOR_BINDER First (exactly_one (FOR_BINDER ∷ [])) ∷ anywhere field.TY First (exactly_one types) ∷ []

abbrev pub impl_trait_type_fields : List FieldRow
impl_trait_type_fields = anywhere field.TYPE_BOUND_LIST First (exactly_one (TYPE_BOUND_LIST ∷ [])) ∷ []

abbrev pub dyn_trait_type_fields : List FieldRow
dyn_trait_type_fields = anywhere field.TYPE_BOUND_LIST First (exactly_one (TYPE_BOUND_LIST ∷ [])) ∷ []

abbrev pub macro_type_fields : List FieldRow
macro_type_fields = anywhere field.MACRO_CALL First (exactly_one (MACRO_CALL ∷ [])) ∷ []

abbrev pub path_type_fields : List FieldRow
path_type_fields = anywhere field.PATH First (exactly_one (PATH ∷ [])) ∷ []

abbrev pub pattern_type_fields : List FieldRow
pattern_type_fields = anywhere field.TY First (exactly_one types) ∷ anywhere field.PAT First (exactly_one patterns) ∷ []

abbrev pub type_bound_fields : List FieldRow
type_bound_fields =
    anywhere field.LIFETIME First (at_most_one (LIFETIME ∷ [])) ∷
    anywhere field.USE_BOUND_GENERIC_ARGS First (at_most_one (USE_BOUND_GENERIC_ARGS ∷ [])) ∷
    anywhere field.FOR_BINDER First (at_most_one (FOR_BINDER ∷ [])) ∷ anywhere field.TY First (at_most_one types) ∷ []

abbrev pub type_bound_list_fields : List FieldRow
type_bound_list_fields =
    anywhere field.BOUNDS All (any_number (TYPE_BOUND ∷ [])) ∷
    anywhere field.FOR_BINDER First (at_most_one (FOR_BINDER ∷ [])) ∷ []

abbrev pub generic_arg_list_fields : List FieldRow
generic_arg_list_fields = anywhere field.GENERIC_ARGS All (any_number generic_arguments) ∷ []

abbrev pub type_arg_fields : List FieldRow
type_arg_fields = anywhere field.TY First (exactly_one types) ∷ []

abbrev pub lifetime_arg_fields : List FieldRow
lifetime_arg_fields = anywhere field.LIFETIME First (exactly_one (LIFETIME ∷ [])) ∷ []

abbrev pub const_arg_fields : List FieldRow
const_arg_fields = anywhere field.EXPR First (exactly_one expressions) ∷ []

abbrev pub assoc_type_arg_fields : List FieldRow
assoc_type_arg_fields =
    anywhere field.NAME_REF First (exactly_one (NAME_REF ∷ [])) ∷
    anywhere field.GENERIC_ARG_LIST First (at_most_one (GENERIC_ARG_LIST ∷ [])) ∷
    anywhere field.RETURN_TYPE_SYNTAX First (at_most_one (RETURN_TYPE_SYNTAX ∷ [])) ∷
    anywhere field.PARENTHESIZED_ARG_LIST First (at_most_one (PARENTHESIZED_ARG_LIST ∷ [])) ∷
    anywhere field.RET_TYPE First (at_most_one (RET_TYPE ∷ [])) ∷
    anywhere field.TYPE_BOUND_LIST First (at_most_one (TYPE_BOUND_LIST ∷ [])) ∷
    anywhere field.TY First (at_most_one types) ∷ anywhere field.CONST_ARG First (at_most_one (CONST_ARG ∷ [])) ∷ []

abbrev pub use_bound_generic_args_fields : List FieldRow
use_bound_generic_args_fields = anywhere field.USE_BOUND_GENERIC_ARGS All (any_number (NAME_REF ∷ LIFETIME ∷ [])) ∷ []

abbrev pub generic_param_list_fields : List FieldRow
generic_param_list_fields = anywhere field.GENERIC_PARAMS All (any_number generic_parameters) ∷ []

abbrev pub lifetime_param_fields : List FieldRow
lifetime_param_fields =
    attributes ∷ documentation ∷ anywhere field.LIFETIME First (exactly_one (LIFETIME ∷ [])) ∷
    anywhere field.TYPE_BOUND_LIST First (at_most_one (TYPE_BOUND_LIST ∷ [])) ∷ []

abbrev pub type_param_fields : List FieldRow
type_param_fields =
    attributes ∷ documentation ∷ anywhere field.NAME First (exactly_one (NAME ∷ [])) ∷
    anywhere field.TYPE_BOUND_LIST First (at_most_one (TYPE_BOUND_LIST ∷ [])) ∷
    anywhere field.DEFAULT_TYPE First (at_most_one types) ∷ []

abbrev pub const_param_fields : List FieldRow
const_param_fields =
    attributes ∷ documentation ∷ anywhere field.NAME First (exactly_one (NAME ∷ [])) ∷
    anywhere field.TY First (exactly_one types) ∷ anywhere field.DEFAULT_VAL First (at_most_one (CONST_ARG ∷ [])) ∷ []

abbrev pub where_clause_fields : List FieldRow
where_clause_fields = anywhere field.PREDICATES All (any_number (WHERE_PRED ∷ [])) ∷ []

abbrev pub where_pred_fields : List FieldRow
where_pred_fields =
    anywhere field.LIFETIME First (at_most_one (LIFETIME ∷ [])) ∷
    anywhere field.FOR_BINDER First (at_most_one (FOR_BINDER ∷ [])) ∷ anywhere field.TY First (at_most_one types) ∷
    anywhere field.TYPE_BOUND_LIST First (exactly_one (TYPE_BOUND_LIST ∷ [])) ∷ []

abbrev pub attr_fields : List FieldRow
attr_fields = anywhere field.META First (exactly_one metas) ∷ []

abbrev pub unsafe_meta_fields : List FieldRow
unsafe_meta_fields = anywhere field.META First (exactly_one metas) ∷ []

abbrev pub cfg_attr_meta_fields : List FieldRow
cfg_attr_meta_fields =
    anywhere field.CFG_PREDICATE First (exactly_one (CFG_ATOM ∷ CFG_COMPOSITE ∷ [])) ∷
    anywhere field.METAS All (any_number metas) ∷ []

abbrev pub cfg_meta_fields : List FieldRow
cfg_meta_fields = anywhere field.CFG_PREDICATE First (exactly_one (CFG_ATOM ∷ CFG_COMPOSITE ∷ [])) ∷ []

abbrev pub cfg_composite_fields : List FieldRow
cfg_composite_fields = anywhere field.CFG_PREDICATES All (any_number (CFG_ATOM ∷ CFG_COMPOSITE ∷ [])) ∷ []

abbrev pub key_value_meta_fields : List FieldRow
key_value_meta_fields =
    anywhere field.PATH First (exactly_one (PATH ∷ [])) ∷ anywhere field.EXPR First (exactly_one expressions) ∷ []

abbrev pub token_tree_meta_fields : List FieldRow
token_tree_meta_fields =
    anywhere field.PATH First (exactly_one (PATH ∷ [])) ∷
    anywhere field.TOKEN_TREE First (exactly_one (TOKEN_TREE ∷ [])) ∷ []

abbrev pub path_meta_fields : List FieldRow
path_meta_fields = anywhere field.PATH First (exactly_one (PATH ∷ [])) ∷ []

-- of each kind
abbrev pub fields : List (ℕ × List FieldRow)
fields =
    (ERROR, error_fields) ∷ (SOURCE_FILE, source_file_fields) ∷ (MACRO_STMTS, macro_stmts_fields) ∷
    (MACRO_ITEMS, macro_items_fields) ∷ (VISIBILITY, visibility_fields) ∷ (VISIBILITY_INNER, visibility_inner_fields) ∷
    (RENAME, rename_fields) ∷ (RET_TYPE, ret_type_fields) ∷ (PATH, path_fields) ∷ (PATH_SEGMENT, path_segment_fields) ∷
    (PARENTHESIZED_ARG_LIST, parenthesized_arg_list_fields) ∷ (LET_STMT, let_stmt_fields) ∷
    (EXPR_STMT, expr_stmt_fields) ∷ (LET_ELSE, let_else_fields) ∷ (STMT_LIST, stmt_list_fields) ∷
    (BLOCK_EXPR, block_expr_fields) ∷ (LABEL, label_fields) ∷ (TRY_BLOCK_MODIFIER, try_block_modifier_fields) ∷
    (RANGE_EXPR, range_expr_fields) ∷ (REF_EXPR, ref_expr_fields) ∷ (PREFIX_EXPR, prefix_expr_fields) ∷
    (CALL_EXPR, call_expr_fields) ∷ (INDEX_EXPR, index_expr_fields) ∷ (METHOD_CALL_EXPR, method_call_expr_fields) ∷
    (FIELD_EXPR, field_expr_fields) ∷ (AWAIT_EXPR, await_expr_fields) ∷ (TRY_EXPR, try_expr_fields) ∷
    (CAST_EXPR, cast_expr_fields) ∷ (ARG_LIST, arg_list_fields) ∷ (RECORD_EXPR, record_expr_fields) ∷
    (RECORD_EXPR_FIELD, record_expr_field_fields) ∷ (RECORD_EXPR_FIELD_LIST, record_expr_field_list_fields) ∷
    (MACRO_CALL, macro_call_fields) ∷ (MACRO_EXPR, macro_expr_fields) ∷ (PATH_EXPR, path_expr_fields) ∷
    (LITERAL, literal_fields) ∷ (UNDERSCORE_EXPR, underscore_expr_fields) ∷ (PAREN_EXPR, paren_expr_fields) ∷
    (TUPLE_EXPR, tuple_expr_fields) ∷ (ARRAY_EXPR, array_expr_fields) ∷ (CLOSURE_EXPR, closure_expr_fields) ∷
    (IF_EXPR, if_expr_fields) ∷ (LOOP_EXPR, loop_expr_fields) ∷ (WHILE_EXPR, while_expr_fields) ∷
    (FOR_EXPR, for_expr_fields) ∷ (LET_EXPR, let_expr_fields) ∷ (MATCH_EXPR, match_expr_fields) ∷
    (MATCH_ARM_LIST, match_arm_list_fields) ∷ (MATCH_ARM, match_arm_fields) ∷ (MATCH_GUARD, match_guard_fields) ∷
    (RETURN_EXPR, return_expr_fields) ∷ (BECOME_EXPR, become_expr_fields) ∷ (YIELD_EXPR, yield_expr_fields) ∷
    (YEET_EXPR, yeet_expr_fields) ∷ (CONTINUE_EXPR, continue_expr_fields) ∷ (BREAK_EXPR, break_expr_fields) ∷
    (OFFSET_OF_EXPR, offset_of_expr_fields) ∷ (FORMAT_ARGS_EXPR, format_args_expr_fields) ∷
    (FORMAT_ARGS_ARG, format_args_arg_fields) ∷ (INCLUDE_BYTES_EXPR, include_bytes_expr_fields) ∷
    (CFG_PRED_EXPR, cfg_pred_expr_fields) ∷ (ASM_EXPR, asm_expr_fields) ∷ (ASM_CLOBBER_ABI, asm_clobber_abi_fields) ∷
    (ASM_OPTIONS, asm_options_fields) ∷ (ASM_REG_OPERAND, asm_reg_operand_fields) ∷
    (ASM_OPERAND_NAMED, asm_operand_named_fields) ∷ (ASM_LABEL, asm_label_fields) ∷ (ASM_CONST, asm_const_fields) ∷
    (ASM_SYM, asm_sym_fields) ∷ (ASM_REG_SPEC, asm_reg_spec_fields) ∷ (MODULE, module_fields) ∷
    (ITEM_LIST, item_list_fields) ∷ (EXTERN_CRATE, extern_crate_fields) ∷ (EXTERN_BLOCK, extern_block_fields) ∷
    (EXTERN_ITEM_LIST, extern_item_list_fields) ∷ (IMPL_RESTRICTION, impl_restriction_fields) ∷
    (MUT_RESTRICTION, mut_restriction_fields) ∷ (TYPE_ALIAS, type_alias_fields) ∷ (MACRO_RULES, macro_rules_fields) ∷
    (MACRO_DEF, macro_def_fields) ∷ (FN, fn_fields) ∷ (TOKEN_TREE, token_tree_fields) ∷ (STRUCT, struct_fields) ∷
    (UNION, union_fields) ∷ (ENUM, enum_fields) ∷ (VARIANT_LIST, variant_list_fields) ∷ (VARIANT, variant_fields) ∷
    (RECORD_FIELD_LIST, record_field_list_fields) ∷ (RECORD_FIELD, record_field_fields) ∷
    (TUPLE_FIELD_LIST, tuple_field_list_fields) ∷ (TUPLE_FIELD, tuple_field_fields) ∷ (CONST, const_fields) ∷
    (STATIC, static_fields) ∷ (TRAIT, trait_fields) ∷ (IMPL, impl_fields) ∷ (ASSOC_ITEM_LIST, assoc_item_list_fields) ∷
    (USE, use_fields) ∷ (USE_TREE, use_tree_fields) ∷ (USE_TREE_LIST, use_tree_list_fields) ∷
    (PARAM_LIST, param_list_fields) ∷ (PARAM, param_fields) ∷ (SELF_PARAM, self_param_fields) ∷
    (OR_PAT, or_pat_fields) ∷ (REST_PAT, rest_pat_fields) ∷ (DEREF_PAT, deref_pat_fields) ∷
    (CFG_PRED_PAT, cfg_pred_pat_fields) ∷ (LITERAL_PAT, literal_pat_fields) ∷
    (TUPLE_STRUCT_PAT, tuple_struct_pat_fields) ∷ (RECORD_PAT, record_pat_fields) ∷
    (RECORD_PAT_FIELD_LIST, record_pat_field_list_fields) ∷ (RECORD_PAT_FIELD, record_pat_field_fields) ∷
    (MACRO_PAT, macro_pat_fields) ∷ (PATH_PAT, path_pat_fields) ∷ (REF_PAT, ref_pat_fields) ∷
    (NOT_NULL, not_null_fields) ∷ (PAREN_PAT, paren_pat_fields) ∷ (TUPLE_PAT, tuple_pat_fields) ∷
    (SLICE_PAT, slice_pat_fields) ∷ (IDENT_PAT, ident_pat_fields) ∷ (BOX_PAT, box_pat_fields) ∷
    (CONST_BLOCK_PAT, const_block_pat_fields) ∷ (PAREN_TYPE, paren_type_fields) ∷ (TUPLE_TYPE, tuple_type_fields) ∷
    (PTR_TYPE, ptr_type_fields) ∷ (SLICE_TYPE, slice_type_fields) ∷ (ARRAY_TYPE, array_type_fields) ∷
    (REF_TYPE, ref_type_fields) ∷ (FN_PTR_TYPE, fn_ptr_type_fields) ∷ (FOR_BINDER, for_binder_fields) ∷
    (FOR_TYPE, for_type_fields) ∷ (IMPL_TRAIT_TYPE, impl_trait_type_fields) ∷ (DYN_TRAIT_TYPE, dyn_trait_type_fields) ∷
    (MACRO_TYPE, macro_type_fields) ∷ (PATH_TYPE, path_type_fields) ∷ (PATTERN_TYPE, pattern_type_fields) ∷
    (TYPE_BOUND, type_bound_fields) ∷ (TYPE_BOUND_LIST, type_bound_list_fields) ∷
    (GENERIC_ARG_LIST, generic_arg_list_fields) ∷ (TYPE_ARG, type_arg_fields) ∷ (LIFETIME_ARG, lifetime_arg_fields) ∷
    (CONST_ARG, const_arg_fields) ∷ (ASSOC_TYPE_ARG, assoc_type_arg_fields) ∷
    (USE_BOUND_GENERIC_ARGS, use_bound_generic_args_fields) ∷ (GENERIC_PARAM_LIST, generic_param_list_fields) ∷
    (LIFETIME_PARAM, lifetime_param_fields) ∷ (TYPE_PARAM, type_param_fields) ∷ (CONST_PARAM, const_param_fields) ∷
    (WHERE_CLAUSE, where_clause_fields) ∷ (WHERE_PRED, where_pred_fields) ∷ (ATTR, attr_fields) ∷
    (UNSAFE_META, unsafe_meta_fields) ∷ (CFG_ATTR_META, cfg_attr_meta_fields) ∷ (CFG_META, cfg_meta_fields) ∷
    (CFG_COMPOSITE, cfg_composite_fields) ∷ (KEY_VALUE_META, key_value_meta_fields) ∷
    (TOKEN_TREE_META, token_tree_meta_fields) ∷ (PATH_META, path_meta_fields) ∷ []
