-- Structs, unions and enums.
use Rattle.std.specs.Prelude.{List, ℕ, Bool, true, false, if◌then◌else◌, ◌==◌, ◌||◌, codes, [], ◌∷◌}
use Rattle.rap_base.specs.TokenKind.{EOF, ERROR, L_CURLY, R_CURLY, L_PAREN, R_PAREN, COMMA, COLON, SEMICOLON, EQ, UNDERSCORE, IDENT, STRUCT_KW, UNION_KW, ENUM_KW, WHERE_KW, MUT_KW, UNSAFE_KW, PUB_KW}
use Rattle.rap_base.specs.NodeKind.{STRUCT, UNION, ENUM, VARIANT_LIST, VARIANT, RECORD_FIELD_LIST, RECORD_FIELD, TUPLE_FIELD_LIST, TUPLE_FIELD, MUT_RESTRICTION, CONST_ARG}
use Rattle.rap_grammar_scripts.specs.Attributes.{outer_attrs}
use Rattle.rap_grammar_scripts.specs.Blocks.{error_block}
use Rattle.rap_grammar_scripts.specs.Test.{Test, also}
use Rattle.rap_grammar_scripts.specs.ThroughKnot.{expr, type_, opt_generic_param_list, opt_where_clause}
use Rattle.rap_grammar_scripts.specs.First.{is_type_first, is_outer_attr_first}
use Rattle.rap_grammar_scripts.specs.Names.{name, name_r}
use Rattle.rap_grammar_scripts.specs.Lists.{delimited}
use Rattle.rap_grammar_scripts.specs.declared.rule.Rule.{Rule}
use Rattle.rap_grammar_scripts.specs.Recovery.{is_item_recovery}
use Rattle.rap_grammar_scripts.specs.Script.{Script, Outcome, nothing, give, test, token, bear, report, skip, start, finish, abandon, after, loop, again}
use Rattle.rap_grammar_scripts.specs.Visibility.{opt_visibility, opt_visibility_inner}
use Rattle.rap_grammar_scripts.specs.Words.{done, if_some, expect, ◌▸◌, call, choose, optional, next_so, kind_is, is_at}

-- where a field or a variant is missing: a message, with the next token in an `ERROR` unless the list ends there
unfoldable pub missing_in_list : List ℕ → Script Rule
missing_in_list message = test (is_at R_CURLY) (report message ▸ done) (skip message ▸ done)

-- on to the next one in braces
unfoldable pub comma_in_braces : Script Rule
comma_in_braces = test (is_at R_CURLY) done (expect COMMA ▸ done)

-- the value of a field or a variant, if it has one
unfoldable pub opt_value : Script Rule
opt_value = optional (is_at EQ) (token EQ ▸ start ▸ call expr ▸ finish CONST_ARG ▸ done)

-- the `mut` restriction of a field
unfoldable pub mut_restriction : Script Rule
mut_restriction =
    start ▸ token MUT_KW ▸
    after (opt_visibility_inner false) (λ v.
    if_some v (finish MUT_RESTRICTION ▸ done)
    (report (codes "expected a mut restriction") ▸ finish MUT_RESTRICTION ▸ done))

abbrev pub is_mut_restriction_start : Test
is_mut_restriction_start = also (is_at MUT_KW) (kind_is 1 L_PAREN)

unfoldable pub opt_mut_restriction : Script Rule
opt_mut_restriction = optional is_mut_restriction_start mut_restriction

-- an `unsafe`, and then it may be said who may change the field
unfoldable pub opt_unsafe : Script Rule
opt_unsafe = optional (is_at UNSAFE_KW) (token UNSAFE_KW ▸ opt_mut_restriction)

-- a field from its name on; its node is open
unfoldable pub named_field : Script Rule
named_field =
    test (is_at IDENT) (call name ▸ expect COLON ▸ call type_ ▸ call opt_value ▸ finish RECORD_FIELD ▸ done)
    (abandon ▸ missing_in_list (codes "expected field declaration"))

-- the same from what stands before its name on
unfoldable pub restricted_field : Script Rule
restricted_field = call opt_mut_restriction ▸ call opt_unsafe ▸ named_field

unfoldable pub visible_field : Script Rule
visible_field = call (opt_visibility false) ▸ restricted_field

unfoldable pub record_field : Script Rule
record_field = start ▸ call outer_attrs ▸ visible_field

-- a field, with the comma after it; or a block in its place
unfoldable pub field_or_block : Script Rule
field_or_block = test (is_at L_CURLY) (error_block (codes "expected field")) (call record_field ▸ comma_in_braces)

abbrev pub field_turn : Bool → Bool → Script Rule
field_turn a b = choose ((is_at R_CURLY, done) ∷ (is_at EOF, done) ∷ []) (call field_or_block ▸ give (again a b))

unfoldable pub record_fields : Script Rule
record_fields = loop field_turn false false

unfoldable pub record_field_list : Script Rule
record_field_list = start ▸ token L_CURLY ▸ call record_fields ▸ expect R_CURLY ▸ finish RECORD_FIELD_LIST ▸ done

-- a field without a name, or what stands before it
abbrev pub is_tuple_field_first : ℕ → Bool
is_tuple_field_first kind = (is_type_first kind || is_outer_attr_first kind) || (kind == PUB_KW)

-- a field without a name, from its type on; its node is open, and is kept where no type begins but `pub` was taken
unfoldable pub typed_field : Outcome → Script Rule
typed_field has_vis =
    test (next_so is_type_first) (call type_ ▸ finish TUPLE_FIELD ▸ done)
    (report (codes "expected a type") ▸ if_some has_vis (finish ERROR ▸ give nothing) (abandon ▸ give nothing))

unfoldable pub restricted_tuple_field : Outcome → Script Rule
restricted_tuple_field has_vis = call opt_mut_restriction ▸ typed_field has_vis

unfoldable pub tuple_field : Script Rule
tuple_field = start ▸ call outer_attrs ▸ after (opt_visibility true) (λ has_vis. restricted_tuple_field has_vis)

unfoldable pub tuple_field_list : Script Rule
tuple_field_list =
    start ▸ call (delimited tuple_field L_PAREN R_PAREN COMMA (codes "expected tuple field") is_tuple_field_first) ▸
    finish TUPLE_FIELD_LIST ▸ done

-- the fields of a variant
unfoldable pub variant_fields : Script Rule
variant_fields = choose ((is_at L_CURLY, record_field_list) ∷ (is_at L_PAREN, tuple_field_list) ∷ []) done

-- what stands after a variant's name; its node is open
unfoldable pub after_variant_name : Script Rule
after_variant_name = call variant_fields ▸ call opt_value ▸ finish VARIANT ▸ done

-- a variant from its name on; its node is open
unfoldable pub named_variant : Script Rule
named_variant =
    choose
    ((is_at IDENT, call name ▸ after_variant_name)
    ∷ (is_at UNDERSCORE, token UNDERSCORE ▸ after_variant_name)
    ∷ [])
    (abandon ▸ missing_in_list (codes "expected enum variant"))

unfoldable pub variant : Script Rule
variant = start ▸ call outer_attrs ▸ named_variant

-- a variant, with the comma after it; or a block in its place
unfoldable pub variant_or_block : Script Rule
variant_or_block = test (is_at L_CURLY) (error_block (codes "expected enum variant")) (call variant ▸ comma_in_braces)

abbrev pub variant_turn : Bool → Bool → Script Rule
variant_turn a b = choose ((is_at EOF, done) ∷ (is_at R_CURLY, done) ∷ []) (call variant_or_block ▸ give (again a b))

unfoldable pub variants : Script Rule
variants = loop variant_turn false false

unfoldable pub variant_list : Script Rule
variant_list = start ▸ token L_CURLY ▸ call variants ▸ expect R_CURLY ▸ finish VARIANT_LIST ▸ done

unfoldable pub enum_ : Script Rule
enum_ =
    token ENUM_KW ▸ call (name_r is_item_recovery) ▸ call opt_generic_param_list ▸ call opt_where_clause ▸
    test (is_at L_CURLY) (call variant_list ▸ finish ENUM ▸ done) (report (codes "expected `{`") ▸ finish ENUM ▸ done)

-- fields after a `where`
unfoldable pub fields_behind_where : Script Rule
fields_behind_where =
    call opt_where_clause ▸
    choose
    ((is_at SEMICOLON, token SEMICOLON ▸ done)
    ∷ (is_at L_CURLY, record_field_list)
    ∷ [])
    (report (codes "expected `;` or `{`") ▸ done)

-- fields in parentheses, and what stands after them
unfoldable pub tuple_fields : Script Rule
tuple_fields = call tuple_field_list ▸ call opt_where_clause ▸ expect SEMICOLON ▸ done

-- what only a struct may have in place of named fields
unfoldable pub struct_fields : Script Rule
struct_fields =
    choose
    ((is_at SEMICOLON, token SEMICOLON ▸ done)
    ∷ (is_at L_PAREN, tuple_fields)
    ∷ [])
    (report (codes "expected `;`, `{`, or `(`") ▸ done)

unfoldable pub fields : Bool → Script Rule
fields is_struct =
    choose
    ((is_at WHERE_KW, fields_behind_where)
    ∷ (is_at L_CURLY, record_field_list)
    ∷ [])
    (if is_struct then struct_fields else (report (codes "expected `{`") ▸ done))

-- a struct or a union from its name on
unfoldable pub struct_or_union : Bool → Script Rule
struct_or_union is_struct = call (name_r is_item_recovery) ▸ call opt_generic_param_list ▸ fields is_struct

unfoldable pub strukt : Script Rule
strukt = token STRUCT_KW ▸ call (struct_or_union true) ▸ finish STRUCT ▸ done

unfoldable pub union : Script Rule
union = bear UNION_KW ▸ call (struct_or_union false) ▸ finish UNION ▸ done
