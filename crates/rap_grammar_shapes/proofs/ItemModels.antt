-- Written by crates/rap_grammar_shapes/models from specs/Shapes.antt: an edit here is lost.
-- The automata of items and of what they are made of, by their shapes.
-- State 0 of each is its shape, and the others are what is left of it after some children.
use Rattle.std.specs.Prelude.{ℕ, true, false, List, [], ◌∷◌}
use Rattle.rap_base.specs.NodeKind.{ABI, ASSOC_ITEM_LIST, BLOCK_EXPR, CONST_ARG, EXTERN_ITEM_LIST, GENERIC_PARAM_LIST, IMPL_RESTRICTION, ITEM_LIST, LIFETIME, MUT_RESTRICTION, NAME, NAME_REF, OR_PAT, PARAM, PARAM_LIST, PATH, RECORD_FIELD, RECORD_FIELD_LIST, RENAME, RET_TYPE, SELF_PARAM, TOKEN_TREE, TUPLE_FIELD, TUPLE_FIELD_LIST, TYPE_BOUND_LIST, USE_TREE, USE_TREE_LIST, VARIANT, VARIANT_LIST, VISIBILITY, VISIBILITY_INNER, WHERE_CLAUSE}
use Rattle.rap_base.specs.TokenKind.{AMP, ASYNC_KW, AUTO_KW, BANG, COLON, COLON2, COMMA, CONST_KW, CRATE_KW, DEFAULT_KW, DOT3, ENUM_KW, EQ, EXTERN_KW, FN_KW, FOR_KW, GEN_KW, IMPL_KW, IN_KW, L_CURLY, L_PAREN, MACRO_KW, MACRO_RULES_KW, MOD_KW, MUT_KW, PIPE, PUB_KW, R_BRACK, R_CURLY, R_PAREN, SAFE_KW, SEMICOLON, STAR, STATIC_KW, STRING, STRUCT_KW, THIN_ARROW, TRAIT_KW, TYPE_KW, UNDERSCORE, UNION_KW, UNSAFE_KW, USE_KW}
use Rattle.rap_grammar_shapes.proofs.Automata.{State, Step, by_any, by_leaf, by_node, state}
use Rattle.rap_grammar_shapes.specs.Shapes.{attribute_kinds, expressions, items, single_patterns, types}

-- a step by a leaf or a node of one kind
abbrev pub by_token : ℕ → ℕ → Step
by_token kind to = by_leaf (kind ∷ []) to

abbrev pub by_one : ℕ → ℕ → Step
by_one kind to = by_node (kind ∷ []) to

abbrev pub visibility_states : List State
visibility_states =
    state false (by_token PUB_KW 1 ∷ []) ∷ state true (by_one VISIBILITY_INNER 2 ∷ []) ∷ state true [] ∷ []

abbrev pub visibility_inner_states : List State
visibility_inner_states =
    state false (by_token L_PAREN 1 ∷ []) ∷ state false (by_token IN_KW 2 ∷ by_one PATH 3 ∷ []) ∷
    state false (by_one PATH 3 ∷ []) ∷ state false (by_token R_PAREN 4 ∷ []) ∷ state true [] ∷ []

abbrev pub abi_states : List State
abi_states = state false (by_token EXTERN_KW 1 ∷ []) ∷ state true (by_token STRING 2 ∷ []) ∷ state true [] ∷ []

abbrev pub ret_type_states : List State
ret_type_states = state false (by_token THIN_ARROW 1 ∷ []) ∷ state false (by_node types 2 ∷ []) ∷ state true [] ∷ []

abbrev pub macro_call_states : List State
macro_call_states =
    state false (by_node attribute_kinds 0 ∷ by_one PATH 1 ∷ []) ∷ state false (by_token BANG 2 ∷ []) ∷
    state false (by_one TOKEN_TREE 3 ∷ []) ∷ state true (by_token SEMICOLON 4 ∷ []) ∷ state true [] ∷ []

abbrev pub module_states : List State
module_states =
    state false (by_node attribute_kinds 0 ∷ by_one VISIBILITY 1 ∷ by_token MOD_KW 2 ∷ []) ∷
    state false (by_token MOD_KW 2 ∷ []) ∷ state false (by_one NAME 3 ∷ []) ∷ state false (by_token SEMICOLON 4 ∷
    by_one ITEM_LIST 4 ∷ []) ∷ state true [] ∷ []

abbrev pub item_list_states : List State
item_list_states =
    state false (by_token L_CURLY 1 ∷ []) ∷ state false (by_node attribute_kinds 1 ∷ by_node items 2 ∷
    by_token R_CURLY 3 ∷ []) ∷ state false (by_node items 2 ∷ by_token R_CURLY 3 ∷ []) ∷ state true [] ∷ []

abbrev pub extern_crate_states : List State
extern_crate_states =
    state false (by_node attribute_kinds 0 ∷ by_one VISIBILITY 1 ∷ by_token EXTERN_KW 2 ∷ []) ∷
    state false (by_token EXTERN_KW 2 ∷ []) ∷ state false (by_token CRATE_KW 3 ∷ []) ∷ state false (by_one NAME_REF 4 ∷
    []) ∷ state false (by_one RENAME 5 ∷ by_token SEMICOLON 6 ∷ []) ∷ state false (by_token SEMICOLON 6 ∷ []) ∷
    state true [] ∷ []

abbrev pub extern_block_states : List State
extern_block_states =
    state false (by_node attribute_kinds 0 ∷ by_one VISIBILITY 1 ∷ by_one IMPL_RESTRICTION 2 ∷ by_token CONST_KW 3 ∷
    by_token ASYNC_KW 4 ∷ by_token UNSAFE_KW 5 ∷ by_token SAFE_KW 6 ∷ by_one ABI 7 ∷ []) ∷
    state false (by_one IMPL_RESTRICTION 2 ∷ by_token CONST_KW 3 ∷ by_token ASYNC_KW 4 ∷ by_token UNSAFE_KW 5 ∷
    by_token SAFE_KW 6 ∷ by_one ABI 7 ∷ []) ∷ state false (by_token CONST_KW 3 ∷ by_token ASYNC_KW 4 ∷
    by_token UNSAFE_KW 5 ∷ by_token SAFE_KW 6 ∷ by_one ABI 7 ∷ []) ∷ state false (by_token ASYNC_KW 4 ∷
    by_token UNSAFE_KW 5 ∷ by_token SAFE_KW 6 ∷ by_one ABI 7 ∷ []) ∷ state false (by_token UNSAFE_KW 5 ∷
    by_token SAFE_KW 6 ∷ by_one ABI 7 ∷ []) ∷ state false (by_token SAFE_KW 6 ∷ by_one ABI 7 ∷ []) ∷
    state false (by_one ABI 7 ∷ []) ∷ state false (by_one EXTERN_ITEM_LIST 8 ∷ []) ∷ state true [] ∷ []

abbrev pub extern_item_list_states : List State
extern_item_list_states =
    state false (by_token L_CURLY 1 ∷ []) ∷ state false (by_node attribute_kinds 1 ∷ by_node items 2 ∷
    by_token R_CURLY 3 ∷ []) ∷ state false (by_node items 2 ∷ by_token R_CURLY 3 ∷ []) ∷ state true [] ∷ []

abbrev pub impl_restriction_states : List State
impl_restriction_states =
    state false (by_token IMPL_KW 1 ∷ []) ∷ state false (by_one VISIBILITY_INNER 2 ∷ []) ∷ state true [] ∷ []

abbrev pub mut_restriction_states : List State
mut_restriction_states =
    state false (by_token MUT_KW 1 ∷ []) ∷ state false (by_one VISIBILITY_INNER 2 ∷ []) ∷ state true [] ∷ []

abbrev pub type_alias_states : List State
type_alias_states =
    state false (by_node attribute_kinds 0 ∷ by_one VISIBILITY 1 ∷ by_one IMPL_RESTRICTION 2 ∷ by_token CONST_KW 3 ∷
    by_token ASYNC_KW 4 ∷ by_token UNSAFE_KW 5 ∷ by_token SAFE_KW 6 ∷ by_one ABI 7 ∷ by_token DEFAULT_KW 8 ∷
    by_token TYPE_KW 9 ∷ []) ∷ state false (by_one IMPL_RESTRICTION 2 ∷ by_token CONST_KW 3 ∷ by_token ASYNC_KW 4 ∷
    by_token UNSAFE_KW 5 ∷ by_token SAFE_KW 6 ∷ by_one ABI 7 ∷ by_token DEFAULT_KW 8 ∷ by_token TYPE_KW 9 ∷ []) ∷
    state false (by_token CONST_KW 3 ∷ by_token ASYNC_KW 4 ∷ by_token UNSAFE_KW 5 ∷ by_token SAFE_KW 6 ∷ by_one ABI 7 ∷
    by_token DEFAULT_KW 8 ∷ by_token TYPE_KW 9 ∷ []) ∷ state false (by_token ASYNC_KW 4 ∷ by_token UNSAFE_KW 5 ∷
    by_token SAFE_KW 6 ∷ by_one ABI 7 ∷ by_token DEFAULT_KW 8 ∷ by_token TYPE_KW 9 ∷ []) ∷
    state false (by_token UNSAFE_KW 5 ∷ by_token SAFE_KW 6 ∷ by_one ABI 7 ∷ by_token DEFAULT_KW 8 ∷ by_token TYPE_KW 9 ∷
    []) ∷ state false (by_token SAFE_KW 6 ∷ by_one ABI 7 ∷ by_token DEFAULT_KW 8 ∷ by_token TYPE_KW 9 ∷ []) ∷
    state false (by_one ABI 7 ∷ by_token DEFAULT_KW 8 ∷ by_token TYPE_KW 9 ∷ []) ∷ state false (by_token DEFAULT_KW 8 ∷
    by_token TYPE_KW 9 ∷ []) ∷ state false (by_token TYPE_KW 9 ∷ []) ∷ state false (by_one NAME 10 ∷ []) ∷
    state false (by_one GENERIC_PARAM_LIST 11 ∷ by_token COLON 12 ∷ by_one WHERE_CLAUSE 13 ∷ by_token EQ 14 ∷
    by_token SEMICOLON 15 ∷ []) ∷ state false (by_token COLON 12 ∷ by_one WHERE_CLAUSE 13 ∷ by_token EQ 14 ∷
    by_token SEMICOLON 15 ∷ []) ∷ state false (by_one TYPE_BOUND_LIST 16 ∷ []) ∷ state false (by_token EQ 14 ∷
    by_one WHERE_CLAUSE 17 ∷ by_token SEMICOLON 15 ∷ []) ∷ state false (by_node types 18 ∷ []) ∷ state true [] ∷
    state false (by_one WHERE_CLAUSE 13 ∷ by_token EQ 14 ∷ by_token SEMICOLON 15 ∷ []) ∷
    state false (by_token SEMICOLON 15 ∷ []) ∷ state false (by_one WHERE_CLAUSE 17 ∷ by_token SEMICOLON 15 ∷ []) ∷ []

abbrev pub macro_rules_states : List State
macro_rules_states =
    state false (by_node attribute_kinds 0 ∷ by_one VISIBILITY 1 ∷ by_token MACRO_RULES_KW 2 ∷ []) ∷
    state false (by_token MACRO_RULES_KW 2 ∷ []) ∷ state false (by_token BANG 3 ∷ []) ∷ state false (by_one NAME 4 ∷ [])
    ∷ state false (by_one TOKEN_TREE 5 ∷ []) ∷ state true (by_token SEMICOLON 6 ∷ []) ∷ state true [] ∷ []

abbrev pub macro_def_states : List State
macro_def_states =
    state false (by_node attribute_kinds 0 ∷ by_one VISIBILITY 1 ∷ by_token MACRO_KW 2 ∷ []) ∷
    state false (by_token MACRO_KW 2 ∷ []) ∷ state false (by_one NAME 3 ∷ []) ∷ state false (by_one TOKEN_TREE 4 ∷ []) ∷
    state true (by_one TOKEN_TREE 5 ∷ []) ∷ state true [] ∷ []

abbrev pub fn_states : List State
fn_states =
    state false (by_node attribute_kinds 0 ∷ by_one VISIBILITY 1 ∷ by_one IMPL_RESTRICTION 2 ∷ by_token CONST_KW 3 ∷
    by_token ASYNC_KW 4 ∷ by_token GEN_KW 5 ∷ by_token UNSAFE_KW 6 ∷ by_token SAFE_KW 7 ∷ by_one ABI 8 ∷
    by_token DEFAULT_KW 9 ∷ by_token FN_KW 10 ∷ []) ∷ state false (by_one IMPL_RESTRICTION 2 ∷ by_token CONST_KW 3 ∷
    by_token ASYNC_KW 4 ∷ by_token GEN_KW 5 ∷ by_token UNSAFE_KW 6 ∷ by_token SAFE_KW 7 ∷ by_one ABI 8 ∷
    by_token DEFAULT_KW 9 ∷ by_token FN_KW 10 ∷ []) ∷ state false (by_token CONST_KW 3 ∷ by_token ASYNC_KW 4 ∷
    by_token GEN_KW 5 ∷ by_token UNSAFE_KW 6 ∷ by_token SAFE_KW 7 ∷ by_one ABI 8 ∷ by_token DEFAULT_KW 9 ∷
    by_token FN_KW 10 ∷ []) ∷ state false (by_token ASYNC_KW 4 ∷ by_token GEN_KW 5 ∷ by_token UNSAFE_KW 6 ∷
    by_token SAFE_KW 7 ∷ by_one ABI 8 ∷ by_token DEFAULT_KW 9 ∷ by_token FN_KW 10 ∷ []) ∷ state false (by_token GEN_KW 5
    ∷ by_token UNSAFE_KW 6 ∷ by_token SAFE_KW 7 ∷ by_one ABI 8 ∷ by_token DEFAULT_KW 9 ∷ by_token FN_KW 10 ∷ []) ∷
    state false (by_token FN_KW 10 ∷ []) ∷ state false (by_token SAFE_KW 7 ∷ by_one ABI 8 ∷ by_token DEFAULT_KW 9 ∷
    by_token FN_KW 10 ∷ []) ∷ state false (by_one ABI 8 ∷ by_token DEFAULT_KW 9 ∷ by_token FN_KW 10 ∷ []) ∷
    state false (by_token DEFAULT_KW 9 ∷ by_token FN_KW 10 ∷ []) ∷ state false (by_token ASYNC_KW 11 ∷
    by_token UNSAFE_KW 5 ∷ by_token FN_KW 10 ∷ []) ∷ state false (by_one NAME 12 ∷ []) ∷
    state false (by_token UNSAFE_KW 5 ∷ by_token FN_KW 10 ∷ []) ∷ state false (by_one GENERIC_PARAM_LIST 13 ∷
    by_one PARAM_LIST 14 ∷ []) ∷ state false (by_one PARAM_LIST 14 ∷ []) ∷ state false (by_one RET_TYPE 15 ∷
    by_one WHERE_CLAUSE 16 ∷ by_token SEMICOLON 17 ∷ by_one BLOCK_EXPR 17 ∷ []) ∷ state false (by_one WHERE_CLAUSE 16 ∷
    by_token SEMICOLON 17 ∷ by_one BLOCK_EXPR 17 ∷ []) ∷ state false (by_token SEMICOLON 17 ∷ by_one BLOCK_EXPR 17 ∷ [])
    ∷ state true [] ∷ []

abbrev pub token_tree_states : List State
token_tree_states =
    state false (by_any 1 ∷ []) ∷ state false (by_any 1 ∷ by_one TOKEN_TREE 1 ∷ by_leaf (R_BRACK ∷ R_CURLY ∷ R_PAREN ∷
    []) 2 ∷ []) ∷ state true [] ∷ []

abbrev pub struct_states : List State
struct_states =
    state false (by_node attribute_kinds 0 ∷ by_one VISIBILITY 1 ∷ by_token STRUCT_KW 2 ∷ []) ∷
    state false (by_token STRUCT_KW 2 ∷ []) ∷ state false (by_one NAME 3 ∷ []) ∷
    state false (by_one GENERIC_PARAM_LIST 4 ∷ by_one WHERE_CLAUSE 5 ∷ by_token SEMICOLON 6 ∷ by_one RECORD_FIELD_LIST 6
    ∷ by_one TUPLE_FIELD_LIST 7 ∷ []) ∷ state false (by_one WHERE_CLAUSE 5 ∷ by_token SEMICOLON 6 ∷
    by_one RECORD_FIELD_LIST 6 ∷ by_one TUPLE_FIELD_LIST 7 ∷ []) ∷ state false (by_token SEMICOLON 6 ∷
    by_one RECORD_FIELD_LIST 6 ∷ []) ∷ state true [] ∷ state false (by_one WHERE_CLAUSE 8 ∷ by_token SEMICOLON 6 ∷ []) ∷
    state false (by_token SEMICOLON 6 ∷ []) ∷ []

abbrev pub union_states : List State
union_states =
    state false (by_node attribute_kinds 0 ∷ by_one VISIBILITY 1 ∷ by_token UNION_KW 2 ∷ []) ∷
    state false (by_token UNION_KW 2 ∷ []) ∷ state false (by_one NAME 3 ∷ []) ∷ state false (by_one GENERIC_PARAM_LIST 4
    ∷ by_one WHERE_CLAUSE 5 ∷ by_one RECORD_FIELD_LIST 6 ∷ []) ∷ state false (by_one WHERE_CLAUSE 5 ∷
    by_one RECORD_FIELD_LIST 6 ∷ []) ∷ state false (by_one RECORD_FIELD_LIST 6 ∷ by_token SEMICOLON 6 ∷ []) ∷
    state true [] ∷ []

abbrev pub enum_states : List State
enum_states =
    state false (by_node attribute_kinds 0 ∷ by_one VISIBILITY 1 ∷ by_token ENUM_KW 2 ∷ []) ∷
    state false (by_token ENUM_KW 2 ∷ []) ∷ state false (by_one NAME 3 ∷ []) ∷ state false (by_one GENERIC_PARAM_LIST 4
    ∷ by_one WHERE_CLAUSE 5 ∷ by_one VARIANT_LIST 6 ∷ []) ∷ state false (by_one WHERE_CLAUSE 5 ∷ by_one VARIANT_LIST 6 ∷
    []) ∷ state false (by_one VARIANT_LIST 6 ∷ []) ∷ state true [] ∷ []

abbrev pub variant_list_states : List State
variant_list_states =
    state false (by_token L_CURLY 1 ∷ []) ∷ state false (by_one VARIANT 2 ∷ by_token R_CURLY 3 ∷ []) ∷
    state false (by_token COMMA 1 ∷ by_token R_CURLY 3 ∷ []) ∷ state true [] ∷ []

abbrev pub variant_states : List State
variant_states =
    state false (by_node attribute_kinds 0 ∷ by_one NAME 1 ∷ by_token UNDERSCORE 1 ∷ []) ∷
    state true (by_node (RECORD_FIELD_LIST ∷ TUPLE_FIELD_LIST ∷ []) 2 ∷ by_token EQ 3 ∷ []) ∷ state true (by_token EQ 3
    ∷ []) ∷ state false (by_one CONST_ARG 4 ∷ []) ∷ state true [] ∷ []

abbrev pub record_field_list_states : List State
record_field_list_states =
    state false (by_token L_CURLY 1 ∷ []) ∷ state false (by_one RECORD_FIELD 2 ∷ by_token R_CURLY 3 ∷ []) ∷
    state false (by_token COMMA 1 ∷ by_token R_CURLY 3 ∷ []) ∷ state true [] ∷ []

abbrev pub record_field_states : List State
record_field_states =
    state false (by_node attribute_kinds 0 ∷ by_one VISIBILITY 1 ∷ by_one MUT_RESTRICTION 2 ∷ by_token UNSAFE_KW 3 ∷
    by_one NAME 4 ∷ []) ∷ state false (by_one MUT_RESTRICTION 2 ∷ by_token UNSAFE_KW 3 ∷ by_one NAME 4 ∷ []) ∷
    state false (by_token UNSAFE_KW 3 ∷ by_one NAME 4 ∷ []) ∷ state false (by_one MUT_RESTRICTION 5 ∷ by_one NAME 4 ∷
    []) ∷ state false (by_token COLON 6 ∷ []) ∷ state false (by_one NAME 4 ∷ []) ∷ state false (by_node types 7 ∷ []) ∷
    state true (by_token EQ 8 ∷ []) ∷ state false (by_one CONST_ARG 9 ∷ []) ∷ state true [] ∷ []

abbrev pub tuple_field_list_states : List State
tuple_field_list_states =
    state false (by_token L_PAREN 1 ∷ []) ∷ state false (by_one TUPLE_FIELD 2 ∷ by_token R_PAREN 3 ∷ []) ∷
    state false (by_token COMMA 1 ∷ by_token R_PAREN 3 ∷ []) ∷ state true [] ∷ []

abbrev pub tuple_field_states : List State
tuple_field_states =
    state false (by_node attribute_kinds 0 ∷ by_one VISIBILITY 1 ∷ by_one MUT_RESTRICTION 2 ∷ by_node types 3 ∷ []) ∷
    state false (by_one MUT_RESTRICTION 2 ∷ by_node types 3 ∷ []) ∷ state false (by_node types 3 ∷ []) ∷ state true [] ∷
    []

abbrev pub const_states : List State
const_states =
    state false (by_node attribute_kinds 0 ∷ by_one VISIBILITY 1 ∷ by_one IMPL_RESTRICTION 2 ∷ by_token CONST_KW 3 ∷
    by_token ASYNC_KW 4 ∷ by_token UNSAFE_KW 5 ∷ by_token SAFE_KW 6 ∷ by_one ABI 7 ∷ by_token DEFAULT_KW 8 ∷
    by_token TYPE_KW 9 ∷ []) ∷ state false (by_one IMPL_RESTRICTION 2 ∷ by_token CONST_KW 3 ∷ by_token ASYNC_KW 4 ∷
    by_token UNSAFE_KW 5 ∷ by_token SAFE_KW 6 ∷ by_one ABI 7 ∷ by_token DEFAULT_KW 8 ∷ by_token TYPE_KW 9 ∷ []) ∷
    state false (by_token CONST_KW 3 ∷ by_token ASYNC_KW 4 ∷ by_token UNSAFE_KW 5 ∷ by_token SAFE_KW 6 ∷ by_one ABI 7 ∷
    by_token DEFAULT_KW 8 ∷ by_token TYPE_KW 9 ∷ []) ∷ state false (by_token ASYNC_KW 4 ∷ by_token UNSAFE_KW 5 ∷
    by_token SAFE_KW 6 ∷ by_one ABI 7 ∷ by_token DEFAULT_KW 8 ∷ by_token TYPE_KW 9 ∷ by_token CONST_KW 10 ∷
    by_token MUT_KW 11 ∷ by_one NAME 12 ∷ by_token UNDERSCORE 12 ∷ []) ∷ state false (by_token UNSAFE_KW 5 ∷
    by_token SAFE_KW 6 ∷ by_one ABI 7 ∷ by_token DEFAULT_KW 8 ∷ by_token TYPE_KW 9 ∷ by_token CONST_KW 10 ∷ []) ∷
    state false (by_token SAFE_KW 6 ∷ by_one ABI 7 ∷ by_token DEFAULT_KW 8 ∷ by_token TYPE_KW 9 ∷ by_token CONST_KW 10 ∷
    []) ∷ state false (by_one ABI 7 ∷ by_token DEFAULT_KW 8 ∷ by_token TYPE_KW 9 ∷ by_token CONST_KW 10 ∷ []) ∷
    state false (by_token DEFAULT_KW 8 ∷ by_token TYPE_KW 9 ∷ by_token CONST_KW 10 ∷ []) ∷
    state false (by_token TYPE_KW 9 ∷ by_token CONST_KW 10 ∷ []) ∷ state false (by_token CONST_KW 10 ∷ []) ∷
    state false (by_token MUT_KW 11 ∷ by_one NAME 12 ∷ by_token UNDERSCORE 12 ∷ []) ∷ state false (by_one NAME 12 ∷
    by_token UNDERSCORE 12 ∷ []) ∷ state false (by_one GENERIC_PARAM_LIST 13 ∷ by_token COLON 14 ∷ []) ∷
    state false (by_token COLON 14 ∷ []) ∷ state false (by_node types 15 ∷ []) ∷ state false (by_token EQ 16 ∷
    by_one WHERE_CLAUSE 17 ∷ by_token SEMICOLON 18 ∷ []) ∷ state false (by_node expressions 19 ∷ []) ∷
    state false (by_token SEMICOLON 18 ∷ []) ∷ state true [] ∷ state false (by_one WHERE_CLAUSE 17 ∷
    by_token SEMICOLON 18 ∷ []) ∷ []

abbrev pub static_states : List State
static_states =
    state false (by_node attribute_kinds 0 ∷ by_one VISIBILITY 1 ∷ by_one IMPL_RESTRICTION 2 ∷ by_token CONST_KW 3 ∷
    by_token ASYNC_KW 4 ∷ by_token UNSAFE_KW 5 ∷ by_token SAFE_KW 6 ∷ by_one ABI 7 ∷ by_token STATIC_KW 8 ∷ []) ∷
    state false (by_one IMPL_RESTRICTION 2 ∷ by_token CONST_KW 3 ∷ by_token ASYNC_KW 4 ∷ by_token UNSAFE_KW 5 ∷
    by_token SAFE_KW 6 ∷ by_one ABI 7 ∷ by_token STATIC_KW 8 ∷ []) ∷ state false (by_token CONST_KW 3 ∷
    by_token ASYNC_KW 4 ∷ by_token UNSAFE_KW 5 ∷ by_token SAFE_KW 6 ∷ by_one ABI 7 ∷ by_token STATIC_KW 8 ∷ []) ∷
    state false (by_token ASYNC_KW 4 ∷ by_token UNSAFE_KW 5 ∷ by_token SAFE_KW 6 ∷ by_one ABI 7 ∷ by_token STATIC_KW 8 ∷
    []) ∷ state false (by_token UNSAFE_KW 5 ∷ by_token SAFE_KW 6 ∷ by_one ABI 7 ∷ by_token STATIC_KW 8 ∷ []) ∷
    state false (by_token SAFE_KW 6 ∷ by_one ABI 7 ∷ by_token STATIC_KW 8 ∷ []) ∷ state false (by_one ABI 7 ∷
    by_token STATIC_KW 8 ∷ []) ∷ state false (by_token STATIC_KW 8 ∷ []) ∷ state false (by_token MUT_KW 9 ∷
    by_one NAME 10 ∷ []) ∷ state false (by_one NAME 10 ∷ []) ∷ state false (by_one GENERIC_PARAM_LIST 11 ∷
    by_token COLON 12 ∷ []) ∷ state false (by_token COLON 12 ∷ []) ∷ state false (by_node types 13 ∷ []) ∷
    state false (by_token EQ 14 ∷ by_token SEMICOLON 15 ∷ []) ∷ state false (by_node expressions 16 ∷ []) ∷
    state true [] ∷ state false (by_token SEMICOLON 15 ∷ []) ∷ []

abbrev pub trait_states : List State
trait_states =
    state false (by_node attribute_kinds 0 ∷ by_one VISIBILITY 1 ∷ by_one IMPL_RESTRICTION 2 ∷ by_token CONST_KW 3 ∷
    by_token ASYNC_KW 4 ∷ by_token UNSAFE_KW 5 ∷ by_token SAFE_KW 6 ∷ by_one ABI 7 ∷ by_token AUTO_KW 8 ∷
    by_token TRAIT_KW 9 ∷ []) ∷ state false (by_one IMPL_RESTRICTION 2 ∷ by_token CONST_KW 3 ∷ by_token ASYNC_KW 4 ∷
    by_token UNSAFE_KW 5 ∷ by_token SAFE_KW 6 ∷ by_one ABI 7 ∷ by_token AUTO_KW 8 ∷ by_token TRAIT_KW 9 ∷ []) ∷
    state false (by_token CONST_KW 3 ∷ by_token ASYNC_KW 4 ∷ by_token UNSAFE_KW 5 ∷ by_token SAFE_KW 6 ∷ by_one ABI 7 ∷
    by_token AUTO_KW 8 ∷ by_token TRAIT_KW 9 ∷ []) ∷ state false (by_token ASYNC_KW 4 ∷ by_token UNSAFE_KW 5 ∷
    by_token SAFE_KW 6 ∷ by_one ABI 7 ∷ by_token AUTO_KW 8 ∷ by_token TRAIT_KW 9 ∷ []) ∷
    state false (by_token UNSAFE_KW 5 ∷ by_token SAFE_KW 6 ∷ by_one ABI 7 ∷ by_token AUTO_KW 8 ∷ by_token TRAIT_KW 9 ∷
    []) ∷ state false (by_token SAFE_KW 6 ∷ by_one ABI 7 ∷ by_token AUTO_KW 8 ∷ by_token TRAIT_KW 9 ∷ []) ∷
    state false (by_one ABI 7 ∷ by_token AUTO_KW 8 ∷ by_token TRAIT_KW 9 ∷ []) ∷ state false (by_token AUTO_KW 8 ∷
    by_token TRAIT_KW 9 ∷ []) ∷ state false (by_token TRAIT_KW 9 ∷ []) ∷ state false (by_one NAME 10 ∷ []) ∷
    state false (by_one GENERIC_PARAM_LIST 11 ∷ by_token COLON 12 ∷ by_one WHERE_CLAUSE 13 ∷ by_one ASSOC_ITEM_LIST 14 ∷
    by_token EQ 15 ∷ []) ∷ state false (by_token COLON 12 ∷ by_one WHERE_CLAUSE 13 ∷ by_one ASSOC_ITEM_LIST 14 ∷
    by_token EQ 15 ∷ []) ∷ state false (by_one TYPE_BOUND_LIST 16 ∷ []) ∷ state false (by_one ASSOC_ITEM_LIST 14 ∷ []) ∷
    state true [] ∷ state false (by_one TYPE_BOUND_LIST 17 ∷ []) ∷ state false (by_one WHERE_CLAUSE 13 ∷
    by_one ASSOC_ITEM_LIST 14 ∷ []) ∷ state false (by_one WHERE_CLAUSE 18 ∷ by_token SEMICOLON 14 ∷ []) ∷
    state false (by_token SEMICOLON 14 ∷ []) ∷ []

abbrev pub impl_states : List State
impl_states =
    state false (by_node attribute_kinds 0 ∷ by_one VISIBILITY 1 ∷ by_one IMPL_RESTRICTION 2 ∷ by_token CONST_KW 3 ∷
    by_token ASYNC_KW 4 ∷ by_token UNSAFE_KW 5 ∷ by_token SAFE_KW 6 ∷ by_one ABI 7 ∷ by_token DEFAULT_KW 8 ∷
    by_token IMPL_KW 9 ∷ []) ∷ state false (by_one IMPL_RESTRICTION 2 ∷ by_token CONST_KW 3 ∷ by_token ASYNC_KW 4 ∷
    by_token UNSAFE_KW 5 ∷ by_token SAFE_KW 6 ∷ by_one ABI 7 ∷ by_token DEFAULT_KW 8 ∷ by_token IMPL_KW 9 ∷ []) ∷
    state false (by_token CONST_KW 3 ∷ by_token ASYNC_KW 4 ∷ by_token UNSAFE_KW 5 ∷ by_token SAFE_KW 6 ∷ by_one ABI 7 ∷
    by_token DEFAULT_KW 8 ∷ by_token IMPL_KW 9 ∷ []) ∷ state false (by_token ASYNC_KW 4 ∷ by_token UNSAFE_KW 5 ∷
    by_token SAFE_KW 6 ∷ by_one ABI 7 ∷ by_token DEFAULT_KW 8 ∷ by_token IMPL_KW 9 ∷ []) ∷
    state false (by_token UNSAFE_KW 5 ∷ by_token SAFE_KW 6 ∷ by_one ABI 7 ∷ by_token DEFAULT_KW 8 ∷ by_token IMPL_KW 9 ∷
    []) ∷ state false (by_token SAFE_KW 6 ∷ by_one ABI 7 ∷ by_token DEFAULT_KW 8 ∷ by_token IMPL_KW 9 ∷ []) ∷
    state false (by_one ABI 7 ∷ by_token DEFAULT_KW 8 ∷ by_token IMPL_KW 9 ∷ []) ∷ state false (by_token DEFAULT_KW 8 ∷
    by_token IMPL_KW 9 ∷ []) ∷ state false (by_token UNSAFE_KW 10 ∷ by_token IMPL_KW 9 ∷ []) ∷
    state false (by_one GENERIC_PARAM_LIST 11 ∷ by_token CONST_KW 12 ∷ by_token BANG 13 ∷ by_node types 14 ∷ []) ∷
    state false (by_token IMPL_KW 9 ∷ []) ∷ state false (by_token CONST_KW 12 ∷ by_token BANG 13 ∷ by_node types 14 ∷
    []) ∷ state false (by_token BANG 13 ∷ by_node types 14 ∷ []) ∷ state false (by_node types 14 ∷ []) ∷
    state false (by_token FOR_KW 15 ∷ by_one WHERE_CLAUSE 16 ∷ by_one ASSOC_ITEM_LIST 17 ∷ []) ∷
    state false (by_node types 18 ∷ []) ∷ state false (by_one ASSOC_ITEM_LIST 17 ∷ []) ∷ state true [] ∷
    state false (by_one WHERE_CLAUSE 16 ∷ by_one ASSOC_ITEM_LIST 17 ∷ []) ∷ []

abbrev pub assoc_item_list_states : List State
assoc_item_list_states =
    state false (by_token L_CURLY 1 ∷ []) ∷ state false (by_node attribute_kinds 1 ∷ by_node items 2 ∷
    by_token R_CURLY 3 ∷ []) ∷ state false (by_node items 2 ∷ by_token R_CURLY 3 ∷ []) ∷ state true [] ∷ []

abbrev pub use_states : List State
use_states =
    state false (by_node attribute_kinds 0 ∷ by_one VISIBILITY 1 ∷ by_token USE_KW 2 ∷ []) ∷
    state false (by_token USE_KW 2 ∷ []) ∷ state false (by_one USE_TREE 3 ∷ []) ∷ state false (by_token SEMICOLON 4 ∷
    []) ∷ state true [] ∷ []

abbrev pub use_tree_states : List State
use_tree_states =
    state false (by_token COLON2 1 ∷ by_token STAR 2 ∷ by_one USE_TREE_LIST 2 ∷ by_one PATH 3 ∷ []) ∷
    state false (by_token STAR 2 ∷ by_one USE_TREE_LIST 2 ∷ []) ∷ state true [] ∷ state true (by_one RENAME 2 ∷
    by_token COLON2 1 ∷ []) ∷ []

abbrev pub use_tree_list_states : List State
use_tree_list_states =
    state false (by_token L_CURLY 1 ∷ []) ∷ state false (by_one USE_TREE 2 ∷ by_token R_CURLY 3 ∷ []) ∷
    state false (by_token COMMA 1 ∷ by_token R_CURLY 3 ∷ []) ∷ state true [] ∷ []

abbrev pub param_list_states : List State
param_list_states =
    state false (by_token L_PAREN 1 ∷ by_token PIPE 2 ∷ []) ∷ state false (by_node attribute_kinds 3 ∷
    by_one SELF_PARAM 4 ∷ by_one PARAM 5 ∷ by_token R_PAREN 6 ∷ []) ∷ state false (by_one PARAM 7 ∷ by_token PIPE 6 ∷
    []) ∷ state false (by_node attribute_kinds 3 ∷ by_token R_PAREN 6 ∷ []) ∷ state false (by_token COMMA 8 ∷
    by_token R_PAREN 6 ∷ []) ∷ state false (by_token COMMA 8 ∷ by_token R_PAREN 6 ∷ []) ∷ state true [] ∷
    state false (by_token COMMA 2 ∷ by_token PIPE 6 ∷ []) ∷ state false (by_one PARAM 5 ∷ by_token R_PAREN 6 ∷ []) ∷ []

abbrev pub param_states : List State
param_states =
    state false (by_node attribute_kinds 0 ∷ by_node types 1 ∷ by_token DOT3 1 ∷ by_one OR_PAT 2 ∷
    by_node single_patterns 3 ∷ []) ∷ state true [] ∷ state false (by_token COLON 4 ∷ []) ∷ state true (by_token COLON 4
    ∷ []) ∷ state false (by_node types 1 ∷ by_token DOT3 1 ∷ []) ∷ []

abbrev pub self_param_states : List State
self_param_states =
    state false (by_node attribute_kinds 0 ∷ by_token MUT_KW 1 ∷ by_one NAME 2 ∷ by_token AMP 3 ∷ []) ∷
    state false (by_one NAME 2 ∷ []) ∷ state true (by_token COLON 4 ∷ []) ∷ state false (by_one LIFETIME 5 ∷
    by_token MUT_KW 6 ∷ by_one NAME 7 ∷ []) ∷ state false (by_node types 7 ∷ []) ∷ state false (by_token MUT_KW 6 ∷
    by_one NAME 7 ∷ []) ∷ state false (by_one NAME 7 ∷ []) ∷ state true [] ∷ []
