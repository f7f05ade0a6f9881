-- The rows of items.
use Rattle.std.specs.Prelude.{ℕ, List, [], ◌∷◌, ◌++◌, ◌==◌, not, Option, Some, map}
use Rattle.rap_base.specs.KeywordTable.{contextual_ever}
use Rattle.rap_base.specs.NodeKind.{CONST, CONST_ARG, ENUM, FN, ITEM_LIST, MODULE, NAME, NAME_REF, PARAM, PARAM_LIST, PATH, PATH_SEGMENT, RECORD_FIELD_LIST, SELF_PARAM, STATIC, STRUCT, TUPLE_FIELD, TUPLE_FIELD_LIST, TYPE_ALIAS, VARIANT, VARIANT_LIST, VISIBILITY, VISIBILITY_INNER, RENAME, USE, USE_TREE, USE_TREE_LIST, EXTERN_CRATE, EXTERN_BLOCK, EXTERN_ITEM_LIST, ASSOC_ITEM_LIST, MACRO_DEF, MACRO_RULES, MACRO_CALL, UNION, TRAIT, IMPL}
use Rattle.rap_base.specs.TokenKind.{DOT3, AUTO_KW, DEFAULT_KW, L_BRACK, R_BRACK, EOF, IDENT, SEMICOLON, COMMA, COLON, COLON2, EQ, L_PAREN, R_PAREN, L_CURLY, R_CURLY, AMP, UNDERSCORE, ASYNC_KW, CONST_KW, CRATE_KW, ENUM_KW, EXTERN_KW, FN_KW, IN_KW, MOD_KW, MUT_KW, PUB_KW, SELF_KW, STATIC_KW, STRUCT_KW, SUPER_KW, TYPE_KW, UNSAFE_KW, AS_KW, STAR, BANG, L_ANGLE, UNION_KW, USE_KW, TRAIT_KW, IMPL_KW, FOR_KW, MACRO_KW, MACRO_RULES_KW, SAFE_KW, POUND, R_ANGLE, LIFETIME_IDENT}
use Rattle.rap_grammar_scripts.specs.First.{one_of}
use Rattle.rap_grammar_scripts.specs.Test.{Test, also, comes, kind_so, negated, or_else}
use Rattle.rap_grammar_scripts.specs.Words.{is_at, kind_is, next_is, next_so}
use Rattle.rap_grammar_table.specs.AttributeRows.{tree_in}
use Rattle.rap_grammar_table.specs.Category.{Ty, PlainTy, Generics, Where, ParamPattern, Expr, Block, Visibility, RecordField, Variant, FnParams, Item, Bounds, TraitRef, UseTree}
use Rattle.rap_grammar_table.specs.SharedRows.{abi, attrs, lifetime, name, inner_attrs, name_ref, plain_segment, use_names}
use Rattle.rap_grammar_table.specs.Notation.{those, Part, ◌⊳◌, t, c, node, opt, either, many, commas, alone, guard, op, weak, fold}
use Rattle.rap_grammar_table.specs.Table.{piece, tok}
use Rattle.rap_grammar_table.specs.TypeRows.{ret}

-- A path of plain names, as in an import; a visibility, with a restriction to a module or without one.
abbrev pub use_path : Part
use_path = node PATH (node PATH_SEGMENT (opt (op COLON2) ⊳ name_ref use_names)) ⊳ fold PATH (op COLON2 ⊳ plain_segment)

abbrev pub one_name : Part
one_name = node PATH (node PATH_SEGMENT (name_ref (CRATE_KW ∷ SELF_KW ∷ SUPER_KW ∷ [])))

abbrev pub restriction : Part
restriction = node VISIBILITY_INNER (t L_PAREN ⊳ either one_name (t IN_KW ⊳ use_path) ⊳ t R_PAREN)

abbrev pub visibility_rows : List Part
visibility_rows = node VISIBILITY (t PUB_KW) ∷ node VISIBILITY (t PUB_KW ⊳ restriction) ∷ []

abbrev pub opt_visibility : Part
opt_visibility = alone (opt (c Visibility))

-- a restriction comes next: a `crate`, `self` or `super` alone in parentheses, or an `in`
abbrev pub restricts : Test
restricts =
    or_else
    (also (is_at L_PAREN)
    (also (kind_so 1 (one_of (CRATE_KW ∷ SELF_KW ∷ SUPER_KW ∷ []))) (negated (kind_is 2 COLON))))
    (also (is_at L_PAREN) (comes 1 IN_KW))

-- the same before a type, whose parentheses may read as a restriction
abbrev pub field_visibility : Part
field_visibility =
    either (node VISIBILITY (t PUB_KW ⊳ restriction))
    (node VISIBILITY (t PUB_KW) ⊳ guard restricts)

-- the fields of a struct or of a variant
abbrev pub record_fields : Part
record_fields = node RECORD_FIELD_LIST (t L_CURLY ⊳ commas (c RecordField) ⊳ t R_CURLY)

abbrev pub tuple_fields : Part
tuple_fields =
    node TUPLE_FIELD_LIST (t L_PAREN ⊳ commas (node TUPLE_FIELD (attrs ⊳ opt field_visibility ⊳ c Ty)) ⊳ t R_PAREN)

-- the parameters of a function
abbrev pub param : Part
param = node PARAM (attrs ⊳ either (c ParamPattern ⊳ guard (is_at COLON2) ⊳ t COLON ⊳ either (c Ty) (op DOT3)) (op DOT3))

abbrev pub self_name : Part
self_name = node NAME (t SELF_KW)

abbrev pub self_param : Part
self_param =
    node SELF_PARAM
    (attrs ⊳
    either (opt (t MUT_KW) ⊳ self_name ⊳ opt (guard (is_at COLON2) ⊳ t COLON ⊳ c Ty)) (t AMP ⊳ opt lifetime ⊳ opt (t MUT_KW) ⊳ self_name))

abbrev pub fn_params_rows : List Part
fn_params_rows =
    node PARAM_LIST (t L_PAREN ⊳ opt (either self_param param ⊳ opt (t COMMA ⊳ commas param)) ⊳ t R_PAREN) ∷ []

abbrev pub opt_generics : Part
opt_generics = alone (opt (c Generics))

-- items; a `default` stands before other words than those that stand before a function else
abbrev pub fn_qualifiers : Part
fn_qualifiers =
    either (opt (t CONST_KW) ⊳ opt (t ASYNC_KW) ⊳ opt (t UNSAFE_KW) ⊳ opt abi)
    (weak DEFAULT_KW ⊳ opt (t ASYNC_KW) ⊳ opt (t UNSAFE_KW))

abbrev pub fn_item : Part
fn_item =
    node FN
    (attrs ⊳ opt_visibility ⊳ fn_qualifiers ⊳ t FN_KW ⊳ name ⊳ opt_generics ⊳ c FnParams ⊳ alone (opt (ret PlainTy)) ⊳ opt (c Where) ⊳ alone (either (t SEMICOLON) (c Block)))

abbrev pub struct_head : Part
struct_head = attrs ⊳ opt_visibility ⊳ t STRUCT_KW ⊳ name ⊳ opt_generics

abbrev pub struct_items : List Part
struct_items =
    node STRUCT (struct_head ⊳ opt (c Where) ⊳ either (t SEMICOLON) record_fields)
    ∷ node STRUCT (struct_head ⊳ tuple_fields ⊳ opt (c Where) ⊳ t SEMICOLON)
    ∷ node UNION (attrs ⊳ opt_visibility ⊳ weak UNION_KW ⊳ name ⊳ opt_generics ⊳ opt (c Where) ⊳ record_fields)
    ∷ []

abbrev pub variant_rows : List Part
variant_rows =
    node VARIANT
    (attrs ⊳ name ⊳ alone (opt (either record_fields tuple_fields)) ⊳ alone (opt (t EQ ⊳ node CONST_ARG (c Expr)))) ∷ []

abbrev pub variant_list : Part
variant_list = node VARIANT_LIST (t L_CURLY ⊳ commas (c Variant) ⊳ t R_CURLY)

abbrev pub enum_item : Part
enum_item =
    node ENUM
    (attrs ⊳ opt_visibility ⊳ t ENUM_KW ⊳ name ⊳ opt_generics ⊳ opt (c Where) ⊳ variant_list)

-- items in braces, under a node of this kind
abbrev pub items_under : ℕ → Part
items_under kind = node kind (t L_CURLY ⊳ inner_attrs ⊳ many (c Item) ⊳ t R_CURLY)

abbrev pub other_items : List Part
other_items =
    node MODULE
    (attrs ⊳ opt_visibility ⊳ t MOD_KW ⊳ name ⊳
    either (t SEMICOLON) (items_under ITEM_LIST))
    ∷ node TYPE_ALIAS
    (attrs ⊳ opt_visibility ⊳ opt (weak DEFAULT_KW) ⊳ t TYPE_KW ⊳ name ⊳ opt_generics ⊳ opt (t COLON ⊳ c Bounds) ⊳
    opt (c Where) ⊳
    opt (t EQ ⊳ c Ty ⊳ opt (c Where)) ⊳ t SEMICOLON)
    ∷ node CONST
    (attrs ⊳ opt_visibility ⊳ opt (weak DEFAULT_KW) ⊳ t CONST_KW ⊳ either name (t UNDERSCORE) ⊳ opt (c Generics) ⊳ t COLON ⊳ c Ty ⊳
    opt (t EQ ⊳ c Expr) ⊳ opt (c Where) ⊳ t SEMICOLON)
    ∷ node STATIC
    (attrs ⊳ opt_visibility ⊳ t STATIC_KW ⊳ opt (t MUT_KW) ⊳ name ⊳ t COLON ⊳ c Ty ⊳ opt (t EQ ⊳ c Expr) ⊳
    t SEMICOLON)
    ∷ enum_item ∷ fn_item
    ∷ node MACRO_DEF
    (attrs ⊳ opt_visibility ⊳ t MACRO_KW ⊳ name ⊳
    either (tree_in L_CURLY R_CURLY) (tree_in L_PAREN R_PAREN ⊳ tree_in L_CURLY R_CURLY))
    ∷ []

-- imports
abbrev pub rename : Part
rename = node RENAME (t AS_KW ⊳ either (t UNDERSCORE) name)

abbrev pub use_list : Part
use_list = node USE_TREE_LIST (t L_CURLY ⊳ commas (c UseTree) ⊳ t R_CURLY)

abbrev pub use_tree_rows : List Part
use_tree_rows =
    node USE_TREE (opt (op COLON2) ⊳ either (t STAR) use_list)
    ∷ node USE_TREE (use_path ⊳ opt rename)
    ∷ node USE_TREE (use_path ⊳ op COLON2 ⊳ either (t STAR) use_list)
    ∷ []

abbrev pub import_items : List Part
import_items =
    node USE (attrs ⊳ opt_visibility ⊳ t USE_KW ⊳ c UseTree ⊳ t SEMICOLON)
    ∷ node EXTERN_CRATE
    (attrs ⊳ opt_visibility ⊳ t EXTERN_KW ⊳ t CRATE_KW ⊳ name_ref (IDENT ∷ SELF_KW ∷ []) ⊳ alone (opt rename) ⊳
    t SEMICOLON)
    ∷ []

-- Traits, implementations and blocks of foreign items. After an `impl` no type begins with `<`, `(`, `!`,
-- `impl` or `const`.
abbrev pub assoc_list : Part
assoc_list = items_under ASSOC_ITEM_LIST

-- parameters come next, and no path that begins with a type: where both may be meant, as in `<T> ::a`, parameters
abbrev pub begins_params : Test
begins_params =
    also (is_at L_ANGLE)
    (or_else (kind_so 1 (one_of (POUND ∷ R_ANGLE ∷ CONST_KW ∷ [])))
    (also (kind_so 1 (one_of (LIFETIME_IDENT ∷ IDENT ∷ [])))
    (kind_so 2 (one_of (R_ANGLE ∷ COMMA ∷ COLON ∷ EQ ∷ [])))))

abbrev pub impl_params : Part
impl_params = opt (guard (negated begins_params) ⊳ c Generics)

abbrev pub no_impl_type : Test
no_impl_type = next_so (one_of (L_ANGLE ∷ L_PAREN ∷ BANG ∷ IMPL_KW ∷ CONST_KW ∷ []))

abbrev pub trait_items : List Part
trait_items =
    node TRAIT
    (attrs ⊳ opt_visibility ⊳ opt (t UNSAFE_KW) ⊳ opt (weak AUTO_KW) ⊳ t TRAIT_KW ⊳ name ⊳ opt_generics ⊳ opt (t COLON ⊳ c Bounds) ⊳
    opt (c Where) ⊳ assoc_list)
    ∷ node IMPL
    (attrs ⊳ opt (t UNSAFE_KW) ⊳ t IMPL_KW ⊳ impl_params ⊳ guard no_impl_type ⊳ c Ty ⊳ opt (c Where) ⊳ assoc_list)
    ∷ node IMPL
    (attrs ⊳ opt (t UNSAFE_KW) ⊳ t IMPL_KW ⊳ impl_params ⊳ opt (t CONST_KW) ⊳ opt (t BANG) ⊳ c TraitRef ⊳ t FOR_KW ⊳
    guard (next_is IMPL_KW) ⊳ c Ty ⊳ opt (c Where) ⊳ assoc_list)
    ∷ node EXTERN_BLOCK
    (attrs ⊳ opt (t UNSAFE_KW) ⊳ abi ⊳ items_under EXTERN_ITEM_LIST)
    ∷ []

-- Macros, and calls of them: behind other brackets than braces stands a semicolon.
abbrev pub tree_and_end : Part
tree_and_end =
    either (tree_in L_CURLY R_CURLY)
    (either (tree_in L_PAREN R_PAREN ⊳ t SEMICOLON) (tree_in L_BRACK R_BRACK ⊳ t SEMICOLON))

abbrev pub call_words : Option (List ℕ)
call_words = Some (EOF ∷ IDENT ∷ those (λ kind. not (kind == SAFE_KW)) (map (λ row. row.1) contextual_ever))

abbrev pub call_path : Part
call_path =
    node PATH (node PATH_SEGMENT (node NAME_REF (λ r. piece (tok use_names call_words) r))) ⊳
    fold PATH (op COLON2 ⊳ plain_segment)

abbrev pub macro_items : List Part
macro_items =
    node MACRO_RULES (attrs ⊳ opt_visibility ⊳ weak MACRO_RULES_KW ⊳ t BANG ⊳ name ⊳ tree_and_end)
    ∷ node MACRO_CALL (attrs ⊳ call_path ⊳ t BANG ⊳ tree_and_end)
    ∷ []

abbrev pub item_rows : List Part
item_rows = struct_items ++ other_items ++ import_items ++ trait_items ++ macro_items
