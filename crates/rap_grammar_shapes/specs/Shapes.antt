-- What the children of a node are, by their kinds, where none of them is a message or an ERROR: a shape for each kind.
-- A sequence reads from left to right. A leaf is a token as the parser takes it, without white space and comments.
-- The line above a shape says what its kind is: docs/nodes takes the page of the kinds from here.
use Rattle.std.specs.Prelude.{◌==◌, ℕ, List, [], ◌∷◌, ◌++◌, if◌then◌else◌}
use Rattle.rap_base.specs.NodeKind.{ABI, ARG_LIST, ARRAY_EXPR, ARRAY_TYPE, ASM_CLOBBER_ABI, ASM_CONST, ASM_DIR_SPEC, ASM_EXPR, ASM_LABEL, ASM_OPERAND_EXPR, ASM_OPERAND_NAMED, ASM_OPTION, ASM_OPTIONS, ASM_REG_OPERAND, ASM_REG_SPEC, ASM_SYM, ASSOC_ITEM_LIST, ASSOC_TYPE_ARG, ATTR, AWAIT_EXPR, BECOME_EXPR, BIN_EXPR, BLOCK_EXPR, BOX_PAT, BREAK_EXPR, CALL_EXPR, CAST_EXPR, CFG_ATOM, CFG_ATTR_META, CFG_COMPOSITE, CFG_META, CFG_PRED_EXPR, CFG_PRED_PAT, CLOSURE_EXPR, CONST, CONST_ARG, CONST_BLOCK_PAT, CONST_PARAM, CONTINUE_EXPR, DEREF_PAT, DOC_COMMENT, DYN_TRAIT_TYPE, ENUM, EXPR_STMT, EXTERN_BLOCK, EXTERN_CRATE, EXTERN_ITEM_LIST, FIELD_EXPR, FN, FN_PTR_TYPE, FORMAT_ARGS_ARG, FORMAT_ARGS_EXPR, FOR_BINDER, FOR_EXPR, FOR_TYPE, GENERIC_ARG_LIST, GENERIC_PARAM_LIST, IDENT_PAT, IF_EXPR, IMPL, IMPL_RESTRICTION, IMPL_TRAIT_TYPE, INCLUDE_BYTES_EXPR, INDEX_EXPR, INFER_TYPE, ITEM_LIST, KEY_VALUE_META, LABEL, LET_ELSE, LET_EXPR, LET_STMT, LIFETIME, LIFETIME_ARG, LIFETIME_PARAM, LITERAL, LITERAL_PAT, LOOP_EXPR, MACRO_CALL, MACRO_DEF, MACRO_EXPR, MACRO_ITEMS, MACRO_PAT, MACRO_RULES, MACRO_STMTS, MACRO_TYPE, MATCH_ARM, MATCH_ARM_LIST, MATCH_EXPR, MATCH_GUARD, METHOD_CALL_EXPR, MODULE, MUT_RESTRICTION, NAME, NAME_REF, NEVER_TYPE, NOT_NULL, OFFSET_OF_EXPR, OR_PAT, PARAM, PARAM_LIST, PARENTHESIZED_ARG_LIST, PAREN_EXPR, PAREN_PAT, PAREN_TYPE, PATH, PATH_EXPR, PATH_META, PATH_PAT, PATH_SEGMENT, PATH_TYPE, PATTERN_TYPE, PREFIX_EXPR, PTR_TYPE, RANGE_EXPR, RANGE_PAT, RECORD_EXPR, RECORD_EXPR_FIELD, RECORD_EXPR_FIELD_LIST, RECORD_FIELD, RECORD_FIELD_LIST, RECORD_PAT, RECORD_PAT_FIELD, RECORD_PAT_FIELD_LIST, REF_EXPR, REF_PAT, REF_TYPE, RENAME, REST_PAT, RETURN_EXPR, RETURN_TYPE_SYNTAX, RET_TYPE, SELF_PARAM, SLICE_PAT, SLICE_TYPE, SOURCE_FILE, STATIC, STMT_LIST, STRUCT, TOKEN_TREE, TOKEN_TREE_META, TRAIT, TRY_BLOCK_MODIFIER, TRY_EXPR, TUPLE_EXPR, TUPLE_FIELD, TUPLE_FIELD_LIST, TUPLE_PAT, TUPLE_STRUCT_PAT, TUPLE_TYPE, TYPE_ALIAS, TYPE_ANCHOR, TYPE_ARG, TYPE_BOUND, TYPE_BOUND_LIST, TYPE_PARAM, UNDERSCORE_EXPR, UNION, UNSAFE_META, USE, USE_BOUND_GENERIC_ARGS, USE_TREE, USE_TREE_LIST, VARIANT, VARIANT_LIST, VISIBILITY, VISIBILITY_INNER, WHERE_CLAUSE, WHERE_PRED, WHILE_EXPR, WILDCARD_PAT, YEET_EXPR, YIELD_EXPR}
use Rattle.rap_base.specs.TokenKind.{AMP, AMP2, AMPEQ, ASM_KW, ASYNC_KW, AS_KW, AT, ATT_SYNTAX_KW, AUTO_KW, AWAIT_KW, BANG, BECOME_KW, BIKESHED_KW, BOX_KW, BREAK_KW, BUILTIN_KW, BYTE, BYTE_STRING, CARET, CARETEQ, CFG_ATTR_KW, CFG_KW, CHAR, CLOBBER_ABI_KW, COLON, COLON2, COMMA, CONST_KW, CONTINUE_KW, CRATE_KW, C_STRING, DEFAULT_KW, DEREF_KW, DOT, DOT2, DOT2EQ, DOT3, DO_KW, DYN_KW, ELSE_KW, ENUM_KW, EQ, EQ2, ERROR, EXTERN_KW, FALSE_KW, FAT_ARROW, FLOAT_NUMBER, FN_KW, FORMAT_ARGS_KW, FOR_KW, FRONTMATTER, GEN_KW, GLOBAL_ASM_KW, GTEQ, IDENT, IF_KW, IMPL_KW, INCLUDE_BYTES_KW, INLATEOUT_KW, INNER_DOC_COMMENT, INOUT_KW, INT_NUMBER, IN_KW, IS_KW, LABEL_KW, LATEOUT_KW, LET_KW, LIFETIME_IDENT, LOOP_KW, LTEQ, L_ANGLE, L_BRACK, L_CURLY, L_PAREN, MACRO_KW, MACRO_RULES_KW, MATCH_KW, MAY_UNWIND_KW, MINUS, MINUSEQ, MOD_KW, MOVE_KW, MUT_KW, NAKED_ASM_KW, NEQ, NOMEM_KW, NORETURN_KW, NOSTACK_KW, OFFSET_OF_KW, OPTIONS_KW, OUTER_DOC_COMMENT, OUT_KW, PATTERN_TYPE_KW, PERCENT, PERCENTEQ, PIPE, PIPE2, PIPEEQ, PLUS, PLUSEQ, POUND, PRESERVES_FLAGS_KW, PUB_KW, PURE_KW, QUESTION, RAW_KW, READONLY_KW, REF_KW, RETURN_KW, R_ANGLE, R_BRACK, R_CURLY, R_PAREN, SAFE_KW, SELF_KW, SELF_TYPE_KW, SEMICOLON, SHEBANG, SHL, SHLEQ, SHR, SHREQ, SLASH, SLASHEQ, STAR, STAREQ, STATIC_KW, STRING, STRUCT_KW, SUPER_KW, SYM_KW, THIN_ARROW, TILDE, TRAIT_KW, TRUE_KW, TRY_KW, TYPE_KW, UNDERSCORE, UNION_KW, UNSAFE_KW, USE_KW, WHERE_KW, WHILE_KW, YEET_KW, YIELD_KW}
use Rattle.rap_grammar_table.specs.Shapes.{Shape, nothing, leaf_of, any_leaf, node_of, ◌⋅◌, ◌or◌, any_of}

-- what the children of nodes of a kind are
infix 3 ◌has◌
abbrev pub ◌has◌ : ℕ → Shape → ℕ × Shape
kind has a = (kind, a)

-- A token or a node of one kind; a shape or nothing; all of a shape in a pair of brackets.
abbrev pub token : ℕ → Shape
token kind = leaf_of (kind ∷ [])

abbrev pub one : ℕ → Shape
one kind = node_of (kind ∷ [])

abbrev pub opt : Shape → Shape
opt a = a or nothing

abbrev pub in_parens : Shape → Shape
in_parens a = token L_PAREN ⋅ a ⋅ token R_PAREN

abbrev pub in_brackets : Shape → Shape
in_brackets a = token L_BRACK ⋅ a ⋅ token R_BRACK

abbrev pub in_braces : Shape → Shape
in_braces a = token L_CURLY ⋅ a ⋅ token R_CURLY

abbrev pub in_angles : Shape → Shape
in_angles a = token L_ANGLE ⋅ a ⋅ token R_ANGLE

-- elements with a comma between, of which one may stand last; and of one element alone, that comma at least
abbrev pub listed : Shape → Shape
listed a = any_of (a ⋅ token COMMA) ⋅ opt a

abbrev pub not_one : Shape → Shape
not_one a = opt (a ⋅ token COMMA ⋅ listed a)

-- Kinds of expressions: those that a call, a field or a `?` may stand behind, first without fields; and all.
abbrev pub other_operands : List ℕ
other_operands =
    ARRAY_EXPR ∷ ASM_EXPR ∷ AWAIT_EXPR ∷ BECOME_EXPR ∷ BLOCK_EXPR ∷ BREAK_EXPR ∷ CALL_EXPR ∷ CFG_PRED_EXPR ∷
    CLOSURE_EXPR ∷ CONTINUE_EXPR ∷ FORMAT_ARGS_EXPR ∷ FOR_EXPR ∷ IF_EXPR ∷ INCLUDE_BYTES_EXPR ∷ INDEX_EXPR ∷
    LET_EXPR ∷ LITERAL ∷ LOOP_EXPR ∷ MACRO_EXPR ∷ MATCH_EXPR ∷ METHOD_CALL_EXPR ∷ OFFSET_OF_EXPR ∷ PAREN_EXPR ∷
    PATH_EXPR ∷ RECORD_EXPR ∷ RETURN_EXPR ∷ TRY_EXPR ∷ TUPLE_EXPR ∷ UNDERSCORE_EXPR ∷ WHILE_EXPR ∷ YEET_EXPR ∷
    YIELD_EXPR ∷ []

abbrev pub operands : List ℕ
operands = FIELD_EXPR ∷ other_operands

abbrev pub expressions : List ℕ
expressions = BIN_EXPR ∷ CAST_EXPR ∷ PREFIX_EXPR ∷ RANGE_EXPR ∷ REF_EXPR ∷ operands

abbrev pub operators : List ℕ
operators =
    PIPE2 ∷ AMP2 ∷ EQ2 ∷ NEQ ∷ LTEQ ∷ GTEQ ∷ L_ANGLE ∷ R_ANGLE ∷ PLUS ∷ STAR ∷ MINUS ∷ SLASH ∷ PERCENT ∷ SHL ∷ SHR ∷
    CARET ∷ PIPE ∷ AMP ∷ EQ ∷ PLUSEQ ∷ SLASHEQ ∷ STAREQ ∷ PERCENTEQ ∷ SHREQ ∷ SHLEQ ∷ MINUSEQ ∷ PIPEEQ ∷ AMPEQ ∷
    CARETEQ ∷ []

-- kinds of types; of patterns: those that an end of a range may be, those without `|`, and all
abbrev pub types : List ℕ
types =
    ARRAY_TYPE ∷ DYN_TRAIT_TYPE ∷ FN_PTR_TYPE ∷ FOR_TYPE ∷ IMPL_TRAIT_TYPE ∷ INFER_TYPE ∷ MACRO_TYPE ∷ NEVER_TYPE ∷
    PAREN_TYPE ∷ PATH_TYPE ∷ PATTERN_TYPE ∷ PTR_TYPE ∷ REF_TYPE ∷ SLICE_TYPE ∷ TUPLE_TYPE ∷ []

abbrev pub range_ends : List ℕ
range_ends =
    BOX_PAT ∷ CFG_PRED_PAT ∷ CONST_BLOCK_PAT ∷ DEREF_PAT ∷ IDENT_PAT ∷ LITERAL_PAT ∷ MACRO_PAT ∷ NOT_NULL ∷
    PAREN_PAT ∷ PATH_PAT ∷ RECORD_PAT ∷ REF_PAT ∷ SLICE_PAT ∷ TUPLE_PAT ∷ TUPLE_STRUCT_PAT ∷ WILDCARD_PAT ∷ []

abbrev pub single_patterns : List ℕ
single_patterns = RANGE_PAT ∷ REST_PAT ∷ range_ends

abbrev pub patterns : List ℕ
patterns = OR_PAT ∷ single_patterns

-- kinds of items, first those that are items only; and of the nodes that are statements
abbrev pub declarations : List ℕ
declarations =
    CONST ∷ ENUM ∷ EXTERN_BLOCK ∷ EXTERN_CRATE ∷ FN ∷ IMPL ∷ MACRO_DEF ∷ MACRO_RULES ∷ MODULE ∷ STATIC ∷ STRUCT ∷
    TRAIT ∷ TYPE_ALIAS ∷ UNION ∷ USE ∷ []

abbrev pub items : List ℕ
items = ASM_EXPR ∷ MACRO_CALL ∷ declarations

abbrev pub statement_nodes : List ℕ
statement_nodes = EXPR_STMT ∷ LET_STMT ∷ (declarations ++ expressions)

-- kinds of attributes, of what stands in one, and of what `cfg` asks; of generic parameters and arguments
abbrev pub attribute_kinds : List ℕ
attribute_kinds = ATTR ∷ DOC_COMMENT ∷ []

abbrev pub metas : List ℕ
metas = CFG_ATTR_META ∷ CFG_META ∷ KEY_VALUE_META ∷ PATH_META ∷ TOKEN_TREE_META ∷ UNSAFE_META ∷ []

abbrev pub predicates : List ℕ
predicates = CFG_ATOM ∷ CFG_COMPOSITE ∷ []

abbrev pub generic_parameters : List ℕ
generic_parameters = CONST_PARAM ∷ LIFETIME_PARAM ∷ TYPE_PARAM ∷ []

abbrev pub generic_arguments : List ℕ
generic_arguments = ASSOC_TYPE_ARG ∷ CONST_ARG ∷ LIFETIME_ARG ∷ TYPE_ARG ∷ []

-- one of these
abbrev pub expression : Shape
expression = node_of expressions

abbrev pub operand : Shape
operand = node_of operands

abbrev pub other_operand : Shape
other_operand = node_of other_operands

abbrev pub operator : Shape
operator = leaf_of operators

abbrev pub type : Shape
type = node_of types

abbrev pub pattern : Shape
pattern = node_of patterns

abbrev pub single_pattern : Shape
single_pattern = node_of single_patterns

abbrev pub range_end : Shape
range_end = node_of range_ends

abbrev pub item : Shape
item = node_of items

abbrev pub statement : Shape
statement = token SEMICOLON or node_of statement_nodes

abbrev pub meta : Shape
meta = node_of metas

abbrev pub predicate : Shape
predicate = node_of predicates

abbrev pub generic_parameter : Shape
generic_parameter = node_of generic_parameters

abbrev pub generic_argument : Shape
generic_argument = node_of generic_arguments

-- attributes and comments of documentation before something
abbrev pub attributes : Shape
attributes = any_of (node_of attribute_kinds)

-- what follows a colon or `=`
abbrev pub typed : Shape
typed = token COLON ⋅ type

abbrev pub bounded : Shape
bounded = opt (token COLON ⋅ one TYPE_BOUND_LIST)

abbrev pub default_type : Shape
default_type = opt (token EQ ⋅ type)

abbrev pub default_value : Shape
default_value = opt (token EQ ⋅ one CONST_ARG)

-- What stands before an item; and where it may have modifiers, the first of them, how safe it is, and all that each has.
abbrev pub visible : Shape
visible = attributes ⋅ opt (one VISIBILITY)

abbrev pub before_safety : Shape
before_safety = visible ⋅ opt (one IMPL_RESTRICTION) ⋅ opt (token CONST_KW) ⋅ opt (token ASYNC_KW)

abbrev pub safety : Shape
safety = opt (token UNSAFE_KW) ⋅ opt (token SAFE_KW)

abbrev pub modified : Shape
modified = before_safety ⋅ safety ⋅ opt (one ABI)

-- the parameters of a declaration, and its conditions
abbrev pub generic : Shape
generic = opt (one GENERIC_PARAM_LIST)

abbrev pub where_clause : Shape
where_clause = opt (one WHERE_CLAUSE)

-- the arguments of a name in a path
abbrev pub arguments : Shape
arguments =
    opt (node_of (GENERIC_ARG_LIST ∷ RETURN_TYPE_SYNTAX ∷ []) or one PARENTHESIZED_ARG_LIST ⋅ opt (one RET_TYPE))

-- what stands before the trait of a bound; and a bound
abbrev pub bound_modifiers : Shape
bound_modifiers =
    opt (one FOR_BINDER) ⋅ opt (token CONST_KW or in_brackets (token CONST_KW) or token TILDE ⋅ token CONST_KW) ⋅
    opt (token ASYNC_KW) ⋅ opt (token QUESTION)

abbrev pub bound : Shape
bound =
    one LIFETIME or token USE_KW ⋅ one USE_BOUND_GENERIC_ARGS or bound_modifiers ⋅ one PATH_TYPE

-- An operand and the dot behind it, which is a part of a field whose float ends in it.
abbrev pub of_operand : Shape
of_operand = other_operand ⋅ token DOT or one FIELD_EXPR ⋅ opt (token DOT)

-- `builtin # word`, and names with dots between
abbrev pub built_in : ℕ → Shape
built_in word = token BUILTIN_KW ⋅ token POUND ⋅ token word

abbrev pub dotted_names : Shape
dotted_names = any_of (one NAME_REF ⋅ token DOT) ⋅ opt (one NAME_REF)

-- Whole texts
abbrev pub text_shapes : List (ℕ × Shape)
text_shapes =
    -- a file
    (SOURCE_FILE has opt (token SHEBANG) ⋅ opt (token FRONTMATTER) ⋅ attributes ⋅ any_of item)
    -- the items that a macro gives
    ∷ (MACRO_ITEMS has attributes ⋅ any_of item)
    -- the statements that a macro gives
    ∷ (MACRO_STMTS has any_of statement)
    -- what stands where it must not; one without a message in it is a path in place of an item
    ∷ (ERROR has attributes ⋅ one PATH)
    ∷ []

-- Names and paths
abbrev pub name_shapes : List (ℕ × Shape)
name_shapes =
    -- a name where it is declared
    (NAME has leaf_of (IDENT ∷ SELF_KW ∷ []))
    -- a name where it is used: a word, `self` and the like, or the number of a field
    ∷ (NAME_REF has leaf_of (IDENT ∷ SELF_KW ∷ SUPER_KW ∷ CRATE_KW ∷ SELF_TYPE_KW ∷ INT_NUMBER ∷ []))
    -- a lifetime
    ∷ (LIFETIME has token LIFETIME_IDENT)
    -- another name for what is imported
    ∷ (RENAME has token AS_KW ⋅ (one NAME or token UNDERSCORE))
    -- a path: its last segment behind the path before it
    ∷ (PATH has opt (one PATH ⋅ token COLON2) ⋅ one PATH_SEGMENT)
    -- a segment of a path: a name with its arguments, or a type in angle brackets
    ∷ (PATH_SEGMENT has one TYPE_ANCHOR or opt (token COLON2) ⋅ one NAME_REF ⋅ arguments)
    -- a type in angle brackets that a path begins with, perhaps as a trait
    ∷ (TYPE_ANCHOR has in_angles (type ⋅ opt (token AS_KW ⋅ node_of (DYN_TRAIT_TYPE ∷ PATH_TYPE ∷ []))))
    -- `(..)` behind a method, for the type that it returns
    ∷ (RETURN_TYPE_SYNTAX has opt (token COLON2) ⋅ in_parens (token DOT2))
    ∷ []

-- Generic parameters, arguments and bounds
abbrev pub generic_shapes : List (ℕ × Shape)
generic_shapes =
    -- the generic arguments in angle brackets
    (GENERIC_ARG_LIST has opt (token COLON2) ⋅ in_angles (listed generic_argument))
    -- arguments in brackets, as `Fn(A, B)` has them
    ∷ (PARENTHESIZED_ARG_LIST has opt (token COLON2) ⋅ in_parens (listed (one TYPE_ARG)))
    -- a type as an argument
    ∷ (TYPE_ARG has type)
    -- a lifetime as an argument
    ∷ (LIFETIME_ARG has one LIFETIME)
    -- a constant as an argument, a length, a default or the value of a variant
    ∷ (CONST_ARG has expression)
    -- an associated type or constant, with its value or its bounds
    ∷ (ASSOC_TYPE_ARG has
    one NAME_REF ⋅ arguments ⋅
    (token COLON ⋅ one TYPE_BOUND_LIST or token EQ ⋅ (type or one CONST_ARG)))
    -- the generic parameters of a declaration
    ∷ (GENERIC_PARAM_LIST has in_angles (listed generic_parameter))
    -- a lifetime as a parameter
    ∷ (LIFETIME_PARAM has attributes ⋅ one LIFETIME ⋅ bounded)
    -- a type as a parameter
    ∷ (TYPE_PARAM has attributes ⋅ one NAME ⋅ bounded ⋅ default_type)
    -- a constant as a parameter
    ∷ (CONST_PARAM has attributes ⋅ token CONST_KW ⋅ one NAME ⋅ typed ⋅ default_value)
    -- `for` with lifetimes
    ∷ (FOR_BINDER has token FOR_KW ⋅ one GENERIC_PARAM_LIST)
    -- bounds with `+` between
    ∷ (TYPE_BOUND_LIST has
    any_of (one TYPE_BOUND ⋅ token PLUS) ⋅
    (one TYPE_BOUND or opt (token L_PAREN) ⋅ bound_modifiers))
    -- a bound, perhaps in brackets
    ∷ (TYPE_BOUND has bound or node_of (FOR_TYPE ∷ MACRO_TYPE ∷ []) or in_parens bound)
    -- the parameters that an opaque type captures
    ∷ (USE_BOUND_GENERIC_ARGS has in_angles (listed (node_of (LIFETIME ∷ NAME_REF ∷ []))))
    -- the conditions of a declaration
    ∷ (WHERE_CLAUSE has token WHERE_KW ⋅ listed (one WHERE_PRED))
    -- a condition: the bounds of a lifetime or a type
    ∷ (WHERE_PRED has
    (one LIFETIME or opt (one FOR_BINDER) ⋅ type) ⋅ token COLON ⋅ one TYPE_BOUND_LIST)
    ∷ []

-- Items
abbrev pub item_shapes : List (ℕ × Shape)
item_shapes =
    -- a module, with its items or in a file of its own
    (MODULE has visible ⋅ token MOD_KW ⋅ one NAME ⋅ (token SEMICOLON or one ITEM_LIST))
    -- the items of a module
    ∷ (ITEM_LIST has in_braces (attributes ⋅ any_of item))
    -- a crate that is named
    ∷ (EXTERN_CRATE has
    visible ⋅ token EXTERN_KW ⋅ token CRATE_KW ⋅ one NAME_REF ⋅ opt (one RENAME) ⋅ token SEMICOLON)
    -- an import
    ∷ (USE has visible ⋅ token USE_KW ⋅ one USE_TREE ⋅ token SEMICOLON)
    -- a path of an import, `*` or a list behind a path
    ∷ (USE_TREE has
    opt (token COLON2) ⋅ (token STAR or one USE_TREE_LIST)
    or one PATH ⋅ opt (one RENAME or token COLON2 ⋅ (token STAR or one USE_TREE_LIST)))
    -- the paths of an import, in braces
    ∷ (USE_TREE_LIST has in_braces (listed (one USE_TREE)))
    -- a function
    ∷ (FN has
    before_safety ⋅
    (token GEN_KW
    or safety ⋅ opt (one ABI) ⋅ opt (token DEFAULT_KW ⋅ opt (token ASYNC_KW) ⋅ opt (token UNSAFE_KW))) ⋅
    token FN_KW ⋅ one NAME ⋅ generic ⋅ one PARAM_LIST ⋅ opt (one RET_TYPE) ⋅ where_clause ⋅
    (token SEMICOLON or one BLOCK_EXPR))
    -- the parameters of a function, in brackets, or of a closure, between bars
    ∷ (PARAM_LIST has
    in_parens (attributes or one SELF_PARAM or opt (one SELF_PARAM ⋅ token COMMA) ⋅ listed (one PARAM))
    or token PIPE ⋅ listed (one PARAM) ⋅ token PIPE)
    -- a parameter: a pattern with its type, one of them alone, or `...`
    ∷ (PARAM has
    attributes ⋅
    ((type or token DOT3)
    or one OR_PAT ⋅ token COLON ⋅ (type or token DOT3)
    or single_pattern ⋅ opt (token COLON ⋅ (type or token DOT3))))
    -- `self` as a parameter
    ∷ (SELF_PARAM has
    attributes ⋅
    (opt (token MUT_KW) ⋅ one NAME ⋅ opt typed
    or token AMP ⋅ opt (one LIFETIME) ⋅ opt (token MUT_KW) ⋅ one NAME))
    -- the type of what a function returns
    ∷ (RET_TYPE has token THIN_ARROW ⋅ type)
    -- `extern`, perhaps with the name of an ABI
    ∷ (ABI has token EXTERN_KW ⋅ opt (token STRING))
    -- a name for a type, or an associated type
    ∷ (TYPE_ALIAS has
    modified ⋅ opt (token DEFAULT_KW) ⋅ token TYPE_KW ⋅ one NAME ⋅ generic ⋅ bounded ⋅ where_clause ⋅ default_type ⋅ where_clause ⋅
    token SEMICOLON)
    -- a structure
    ∷ (STRUCT has
    visible ⋅ token STRUCT_KW ⋅ one NAME ⋅ generic ⋅
    (where_clause ⋅ (token SEMICOLON or one RECORD_FIELD_LIST)
    or one TUPLE_FIELD_LIST ⋅ where_clause ⋅ token SEMICOLON))
    -- a union
    ∷ (UNION has
    visible ⋅ token UNION_KW ⋅ one NAME ⋅ generic ⋅
    (where_clause ⋅ one RECORD_FIELD_LIST or one WHERE_CLAUSE ⋅ token SEMICOLON))
    -- fields with names, in braces
    ∷ (RECORD_FIELD_LIST has in_braces (listed (one RECORD_FIELD)))
    -- a field with a name
    ∷ (RECORD_FIELD has
    visible ⋅ opt (one MUT_RESTRICTION) ⋅ opt (token UNSAFE_KW ⋅ opt (one MUT_RESTRICTION)) ⋅ one NAME ⋅ typed ⋅
    default_value)
    -- fields without names, in brackets
    ∷ (TUPLE_FIELD_LIST has in_parens (listed (one TUPLE_FIELD)))
    -- a field without a name
    ∷ (TUPLE_FIELD has visible ⋅ opt (one MUT_RESTRICTION) ⋅ type)
    -- an enumeration
    ∷ (ENUM has visible ⋅ token ENUM_KW ⋅ one NAME ⋅ generic ⋅ where_clause ⋅ one VARIANT_LIST)
    -- the variants of an enumeration
    ∷ (VARIANT_LIST has in_braces (listed (one VARIANT)))
    -- a variant of an enumeration
    ∷ (VARIANT has
    attributes ⋅ (one NAME or token UNDERSCORE) ⋅ opt (node_of (RECORD_FIELD_LIST ∷ TUPLE_FIELD_LIST ∷ [])) ⋅
    default_value)
    -- a constant
    ∷ (CONST has
    modified ⋅ opt (token DEFAULT_KW) ⋅ opt (token TYPE_KW) ⋅ token CONST_KW ⋅ opt (token MUT_KW) ⋅ (one NAME or token UNDERSCORE) ⋅ generic ⋅
    typed ⋅ opt (token EQ ⋅ expression) ⋅ where_clause ⋅ token SEMICOLON)
    -- a static variable
    ∷ (STATIC has
    modified ⋅ token STATIC_KW ⋅ opt (token MUT_KW) ⋅ one NAME ⋅ generic ⋅ typed ⋅ opt (token EQ ⋅ expression) ⋅
    token SEMICOLON)
    -- a trait, or a name for bounds
    ∷ (TRAIT has
    modified ⋅ opt (token AUTO_KW) ⋅ token TRAIT_KW ⋅ one NAME ⋅ generic ⋅
    (bounded ⋅ where_clause ⋅ one ASSOC_ITEM_LIST
    or token EQ ⋅ one TYPE_BOUND_LIST ⋅ where_clause ⋅ token SEMICOLON))
    -- the implementation of a trait or of a type
    ∷ (IMPL has
    modified ⋅ opt (token DEFAULT_KW ⋅ opt (token UNSAFE_KW)) ⋅ token IMPL_KW ⋅ generic ⋅ opt (token CONST_KW) ⋅ opt (token BANG) ⋅ type ⋅
    opt (token FOR_KW ⋅ type) ⋅ where_clause ⋅ one ASSOC_ITEM_LIST)
    -- the items of a trait or of an implementation
    ∷ (ASSOC_ITEM_LIST has in_braces (attributes ⋅ any_of item))
    -- a block of items that are defined elsewhere
    ∷ (EXTERN_BLOCK has before_safety ⋅ safety ⋅ one ABI ⋅ one EXTERN_ITEM_LIST)
    -- the items of such a block
    ∷ (EXTERN_ITEM_LIST has in_braces (attributes ⋅ any_of item))
    -- who may see what follows
    ∷ (VISIBILITY has token PUB_KW ⋅ opt (one VISIBILITY_INNER))
    -- where it is seen or may be used, in brackets
    ∷ (VISIBILITY_INNER has in_parens (opt (token IN_KW) ⋅ one PATH))
    -- where a trait may be implemented
    ∷ (IMPL_RESTRICTION has token IMPL_KW ⋅ one VISIBILITY_INNER)
    -- where a field may be changed
    ∷ (MUT_RESTRICTION has token MUT_KW ⋅ one VISIBILITY_INNER)
    -- a macro by its rules
    ∷ (MACRO_RULES has
    visible ⋅ token MACRO_RULES_KW ⋅ token BANG ⋅ one NAME ⋅ one TOKEN_TREE ⋅ opt (token SEMICOLON))
    -- a macro with one rule or with several
    ∷ (MACRO_DEF has visible ⋅ token MACRO_KW ⋅ one NAME ⋅ one TOKEN_TREE ⋅ opt (one TOKEN_TREE))
    -- a call of a macro
    ∷ (MACRO_CALL has attributes ⋅ one PATH ⋅ token BANG ⋅ one TOKEN_TREE ⋅ opt (token SEMICOLON))
    -- any tokens in a pair of brackets
    ∷ (TOKEN_TREE has
    any_leaf ⋅ any_of (any_leaf or one TOKEN_TREE) ⋅ leaf_of (R_BRACK ∷ R_CURLY ∷ R_PAREN ∷ []))
    ∷ []

-- Attributes
abbrev pub attribute_shapes : List (ℕ × Shape)
attribute_shapes =
    -- a comment of documentation
    (DOC_COMMENT has leaf_of (OUTER_DOC_COMMENT ∷ INNER_DOC_COMMENT ∷ []))
    -- an attribute
    ∷ (ATTR has token POUND ⋅ opt (token BANG) ⋅ in_brackets meta)
    -- an attribute that is a path alone
    ∷ (PATH_META has one PATH)
    -- an attribute with a value
    ∷ (KEY_VALUE_META has one PATH ⋅ token EQ ⋅ expression)
    -- an attribute with tokens in brackets
    ∷ (TOKEN_TREE_META has one PATH ⋅ one TOKEN_TREE)
    -- an attribute in `unsafe(..)`
    ∷ (UNSAFE_META has token UNSAFE_KW ⋅ in_parens meta)
    -- a condition
    ∷ (CFG_META has token CFG_KW ⋅ in_parens (predicate ⋅ opt (token COMMA)))
    -- attributes under a condition
    ∷ (CFG_ATTR_META has token CFG_ATTR_KW ⋅ in_parens (predicate ⋅ token COMMA ⋅ listed meta))
    -- an option, perhaps with its value, or `true` or `false`
    ∷ (CFG_ATOM has token IDENT ⋅ opt (token EQ ⋅ token STRING) or leaf_of (TRUE_KW ∷ FALSE_KW ∷ []))
    -- `all`, `any` or `not` of conditions
    ∷ (CFG_COMPOSITE has token IDENT ⋅ in_parens (listed predicate))
    ∷ []

-- Types
abbrev pub type_shapes : List (ℕ × Shape)
type_shapes =
    -- a path as a type
    (PATH_TYPE has one PATH)
    -- a reference
    ∷ (REF_TYPE has token AMP ⋅ opt (one LIFETIME) ⋅ opt (token MUT_KW) ⋅ type)
    -- a raw pointer: `mut` or `const` behind the star
    ∷ (PTR_TYPE has token STAR ⋅ leaf_of (CONST_KW ∷ MUT_KW ∷ []) ⋅ type)
    -- a slice
    ∷ (SLICE_TYPE has in_brackets type)
    -- an array
    ∷ (ARRAY_TYPE has in_brackets (type ⋅ token SEMICOLON ⋅ one CONST_ARG))
    -- a tuple
    ∷ (TUPLE_TYPE has in_parens (not_one type))
    -- a type in brackets
    ∷ (PAREN_TYPE has in_parens type)
    -- the type without values
    ∷ (NEVER_TYPE has token BANG)
    -- a type that is left to be inferred
    ∷ (INFER_TYPE has token UNDERSCORE)
    -- a pointer to a function
    ∷ (FN_PTR_TYPE has
    opt (token UNSAFE_KW) ⋅ opt (one ABI) ⋅ token FN_KW ⋅ one PARAM_LIST ⋅ opt (one RET_TYPE))
    -- a type with `for` before it
    ∷ (FOR_TYPE has one FOR_BINDER ⋅ type)
    -- some type with these bounds
    ∷ (IMPL_TRAIT_TYPE has token IMPL_KW ⋅ one TYPE_BOUND_LIST)
    -- any value with these bounds
    ∷ (DYN_TRAIT_TYPE has opt (token DYN_KW) ⋅ one TYPE_BOUND_LIST)
    -- a call of a macro as a type
    ∷ (MACRO_TYPE has one MACRO_CALL)
    -- a type with a pattern that its values match
    ∷ (PATTERN_TYPE has built_in PATTERN_TYPE_KW ⋅ in_parens (type ⋅ token IS_KW ⋅ pattern))
    ∷ []

-- Patterns
abbrev pub pattern_shapes : List (ℕ × Shape)
pattern_shapes =
    -- a name that is bound
    (IDENT_PAT has opt (token REF_KW) ⋅ opt (token MUT_KW) ⋅ one NAME ⋅ opt (token AT ⋅ single_pattern))
    -- what matches anything
    ∷ (WILDCARD_PAT has token UNDERSCORE)
    -- the other elements or fields
    ∷ (REST_PAT has attributes ⋅ token DOT2)
    -- a path as a pattern
    ∷ (PATH_PAT has one PATH)
    -- a literal, perhaps with a minus
    ∷ (LITERAL_PAT has opt (token MINUS) ⋅ one LITERAL)
    -- a range, of which one end may be missing
    ∷ (RANGE_PAT has
    leaf_of (DOT2 ∷ DOT2EQ ∷ []) ⋅ range_end
    or range_end ⋅ leaf_of (DOT2 ∷ DOT2EQ ∷ DOT3 ∷ []) ⋅ opt range_end)
    -- a reference
    ∷ (REF_PAT has token AMP ⋅ opt (token MUT_KW) ⋅ single_pattern)
    -- a pattern in brackets
    ∷ (PAREN_PAT has in_parens pattern)
    -- a tuple
    ∷ (TUPLE_PAT has in_parens (listed pattern))
    -- a slice or an array
    ∷ (SLICE_PAT has in_brackets (listed pattern))
    -- a path with patterns in brackets
    ∷ (TUPLE_STRUCT_PAT has one PATH ⋅ in_parens (listed pattern))
    -- a path with fields in braces
    ∷ (RECORD_PAT has one PATH ⋅ one RECORD_PAT_FIELD_LIST)
    -- those fields
    ∷ (RECORD_PAT_FIELD_LIST has in_braces (listed (node_of (RECORD_PAT_FIELD ∷ REST_PAT ∷ []))))
    -- a field with its pattern, or its name alone
    ∷ (RECORD_PAT_FIELD has
    attributes ⋅ (node_of (BOX_PAT ∷ IDENT_PAT ∷ []) or one NAME_REF ⋅ token COLON ⋅ pattern))
    -- one of several patterns
    ∷ (OR_PAT has opt (token PIPE) ⋅ single_pattern ⋅ any_of (token PIPE ⋅ single_pattern))
    -- a call of a macro as a pattern
    ∷ (MACRO_PAT has one MACRO_CALL)
    -- what is in a box
    ∷ (BOX_PAT has token BOX_KW ⋅ single_pattern)
    -- a block of constants as a pattern
    ∷ (CONST_BLOCK_PAT has token CONST_KW ⋅ one BLOCK_EXPR)
    -- what is not null, in a pattern type
    ∷ (NOT_NULL has token BANG ⋅ single_pattern)
    -- what a smart pointer points to
    ∷ (DEREF_PAT has built_in DEREF_KW ⋅ in_parens pattern)
    -- a condition as a pattern
    ∷ (CFG_PRED_PAT has built_in CFG_KW ⋅ in_parens (predicate ⋅ opt (token COMMA)))
    ∷ []

-- Statements
abbrev pub statement_shapes : List (ℕ × Shape)
statement_shapes =
    -- a declaration of variables
    (LET_STMT has
    attributes ⋅ opt (token SUPER_KW) ⋅ token LET_KW ⋅ pattern ⋅ opt typed ⋅ opt (token EQ ⋅ expression) ⋅
    opt (one LET_ELSE) ⋅ opt (token SEMICOLON))
    -- what is done where the pattern does not match
    ∷ (LET_ELSE has token ELSE_KW ⋅ one BLOCK_EXPR)
    -- an expression as a statement
    ∷ (EXPR_STMT has expression ⋅ opt (token SEMICOLON))
    -- the statements of a block
    ∷ (STMT_LIST has in_braces (attributes ⋅ any_of statement))
    ∷ []

-- Expressions
abbrev pub expression_shapes : List (ℕ × Shape)
expression_shapes =
    -- a literal
    (LITERAL has
    attributes ⋅
    leaf_of (INT_NUMBER ∷ FLOAT_NUMBER ∷ CHAR ∷ BYTE ∷ STRING ∷ BYTE_STRING ∷ C_STRING ∷ TRUE_KW ∷ FALSE_KW ∷ []))
    -- a path as an expression
    ∷ (PATH_EXPR has attributes ⋅ one PATH)
    -- `_` as an expression
    ∷ (UNDERSCORE_EXPR has attributes ⋅ token UNDERSCORE)
    -- an expression in brackets
    ∷ (PAREN_EXPR has attributes ⋅ in_parens expression)
    -- a tuple
    ∷ (TUPLE_EXPR has attributes ⋅ in_parens (not_one expression))
    -- an array: its elements, or one and how many
    ∷ (ARRAY_EXPR has attributes ⋅ in_brackets (listed expression or expression ⋅ token SEMICOLON ⋅ opt expression))
    -- a value of a structure
    ∷ (RECORD_EXPR has attributes ⋅ one PATH ⋅ one RECORD_EXPR_FIELD_LIST)
    -- its fields, and `..` with the value that the others are taken from
    ∷ (RECORD_EXPR_FIELD_LIST has
    in_braces (any_of ((one RECORD_EXPR_FIELD or attributes ⋅ token DOT2 ⋅ expression) ⋅ token COMMA) ⋅
    opt (one RECORD_EXPR_FIELD or attributes ⋅ token DOT2 ⋅ opt expression)))
    -- a field with its value, or a variable of the same name
    ∷ (RECORD_EXPR_FIELD has attributes ⋅ opt (one NAME_REF ⋅ token COLON) ⋅ expression)
    -- a call of a macro as an expression
    ∷ (MACRO_EXPR has attributes ⋅ one MACRO_CALL)
    -- a sign before an expression
    ∷ (PREFIX_EXPR has attributes ⋅ (token MINUS ⋅ opt expression or leaf_of (BANG ∷ MINUS ∷ STAR ∷ []) ⋅ expression))
    -- a reference, or a raw pointer
    ∷ (REF_EXPR has
    attributes ⋅ token AMP ⋅
    opt (token MUT_KW or token RAW_KW ⋅ opt (leaf_of (CONST_KW ∷ MUT_KW ∷ []))) ⋅ expression)
    -- an operator between two expressions
    ∷ (BIN_EXPR has expression ⋅ operator ⋅ expression)
    -- a range, of which either end may be missing
    ∷ (RANGE_EXPR has attributes ⋅ opt expression ⋅ leaf_of (DOT2 ∷ DOT2EQ ∷ []) ⋅ opt expression)
    -- a value as another type
    ∷ (CAST_EXPR has expression ⋅ token AS_KW ⋅ type)
    -- a call
    ∷ (CALL_EXPR has attributes ⋅ operand ⋅ one ARG_LIST)
    -- the arguments of a call
    ∷ (ARG_LIST has in_parens (listed expression))
    -- a call of a method
    ∷ (METHOD_CALL_EXPR has
    attributes ⋅ of_operand ⋅ one NAME_REF ⋅ opt (one GENERIC_ARG_LIST) ⋅ one ARG_LIST)
    -- a field by its name or its number
    ∷ (FIELD_EXPR has attributes ⋅ of_operand ⋅ one NAME_REF)
    -- an element by its index
    ∷ (INDEX_EXPR has attributes ⋅ operand ⋅ in_brackets expression)
    -- a future that is awaited
    ∷ (AWAIT_EXPR has attributes ⋅ of_operand ⋅ token AWAIT_KW)
    -- `?` behind an expression
    ∷ (TRY_EXPR has attributes ⋅ operand ⋅ token QUESTION)
    -- a block, perhaps with a label, or with words as `unsafe` or `async`
    ∷ (BLOCK_EXPR has
    attributes ⋅
    opt (node_of (LABEL ∷ TRY_BLOCK_MODIFIER ∷ [])
    or leaf_of (CONST_KW ∷ UNSAFE_KW ∷ [])
    or token ASYNC_KW ⋅ opt (token GEN_KW) ⋅ opt (token MOVE_KW)
    or token GEN_KW ⋅ opt (token MOVE_KW)) ⋅
    one STMT_LIST)
    -- the label of a block or a loop
    ∷ (LABEL has one LIFETIME ⋅ token COLON)
    -- `try` before a block
    ∷ (TRY_BLOCK_MODIFIER has token TRY_KW ⋅ opt (token BIKESHED_KW ⋅ type))
    -- a closure
    ∷ (CLOSURE_EXPR has
    attributes ⋅
    opt (one FOR_BINDER ⋅ opt (token CONST_KW) ⋅ opt (token STATIC_KW) ⋅ opt (token ASYNC_KW) ⋅ opt (token GEN_KW)
    or token CONST_KW ⋅ opt (token STATIC_KW) ⋅ opt (token ASYNC_KW) ⋅ opt (token GEN_KW)
    or token STATIC_KW ⋅ opt (token ASYNC_KW) ⋅ opt (token GEN_KW)
    or token ASYNC_KW ⋅ opt (token GEN_KW)) ⋅
    opt (token MOVE_KW) ⋅ one PARAM_LIST ⋅ (expression or one RET_TYPE ⋅ one BLOCK_EXPR))
    -- a choice by a condition
    ∷ (IF_EXPR has
    attributes ⋅ token IF_KW ⋅ expression ⋅ one BLOCK_EXPR ⋅
    opt (token ELSE_KW ⋅ node_of (BLOCK_EXPR ∷ IF_EXPR ∷ [])))
    -- a pattern as a condition
    ∷ (LET_EXPR has attributes ⋅ token LET_KW ⋅ pattern ⋅ token EQ ⋅ expression)
    -- a loop without an end
    ∷ (LOOP_EXPR has attributes ⋅ opt (one LABEL) ⋅ token LOOP_KW ⋅ one BLOCK_EXPR)
    -- a loop by a condition
    ∷ (WHILE_EXPR has attributes ⋅ opt (one LABEL) ⋅ token WHILE_KW ⋅ expression ⋅ one BLOCK_EXPR)
    -- a loop over values
    ∷ (FOR_EXPR has
    attributes ⋅ opt (one LABEL) ⋅ token FOR_KW ⋅ pattern ⋅ token IN_KW ⋅ expression ⋅ one BLOCK_EXPR)
    -- a choice by patterns
    ∷ (MATCH_EXPR has attributes ⋅ token MATCH_KW ⋅ expression ⋅ one MATCH_ARM_LIST)
    -- the arms of a choice
    ∷ (MATCH_ARM_LIST has in_braces (attributes ⋅ any_of (one MATCH_ARM)))
    -- an arm: its pattern, and what is done
    ∷ (MATCH_ARM has
    attributes ⋅ pattern ⋅ opt (one MATCH_GUARD) ⋅ token FAT_ARROW ⋅ expression ⋅ opt (token COMMA))
    -- the condition of an arm
    ∷ (MATCH_GUARD has token IF_KW ⋅ expression)
    -- the return from a function
    ∷ (RETURN_EXPR has attributes ⋅ token RETURN_KW ⋅ opt expression)
    -- a call that takes the place of the function's own
    ∷ (BECOME_EXPR has attributes ⋅ token BECOME_KW ⋅ expression)
    -- a value that a generator yields
    ∷ (YIELD_EXPR has attributes ⋅ token YIELD_KW ⋅ opt expression)
    -- an error that is returned
    ∷ (YEET_EXPR has attributes ⋅ token DO_KW ⋅ opt (token YEET_KW) ⋅ opt expression)
    -- the next turn of a loop
    ∷ (CONTINUE_EXPR has attributes ⋅ token CONTINUE_KW ⋅ opt (one LIFETIME))
    -- the end of a loop or a block
    ∷ (BREAK_EXPR has attributes ⋅ token BREAK_KW ⋅ opt (one LIFETIME) ⋅ opt expression)
    ∷ []

-- Expressions that are built in
abbrev pub built_in_shapes : List (ℕ × Shape)
built_in_shapes =
    -- the offset of a field
    (OFFSET_OF_EXPR has
    attributes ⋅ built_in OFFSET_OF_KW ⋅
    in_parens (type ⋅ token COMMA ⋅ (in_parens dotted_names or dotted_names)))
    -- a text with arguments to format
    ∷ (FORMAT_ARGS_EXPR has
    attributes ⋅ built_in FORMAT_ARGS_KW ⋅
    in_parens (expression ⋅ opt (token COMMA ⋅ listed (one FORMAT_ARGS_ARG))))
    -- such an argument, perhaps with a name
    ∷ (FORMAT_ARGS_ARG has opt (one NAME ⋅ token EQ) ⋅ expression)
    -- `include_bytes`, of which these words alone are taken
    ∷ (INCLUDE_BYTES_EXPR has attributes ⋅ built_in INCLUDE_BYTES_KW)
    -- whether a condition holds
    ∷ (CFG_PRED_EXPR has attributes ⋅ built_in CFG_KW ⋅ in_parens (predicate ⋅ opt (token COMMA)))
    -- assembly: an expression or, where it is global, an item
    ∷ (ASM_EXPR has
    attributes ⋅
    (token BUILTIN_KW ⋅ token POUND ⋅ leaf_of (ASM_KW ∷ GLOBAL_ASM_KW ∷ NAKED_ASM_KW ∷ [])
    or one VISIBILITY ⋅ built_in GLOBAL_ASM_KW) ⋅
    in_parens (expression ⋅
    any_of (token COMMA ⋅
    (node_of (ASM_CLOBBER_ABI ∷ ASM_OPERAND_NAMED ∷ ASM_OPTIONS ∷ []) or attributes ⋅ expression)) ⋅
    opt (token COMMA)))
    -- the ABIs whose registers are overwritten
    ∷ (ASM_CLOBBER_ABI has
    attributes ⋅ token CLOBBER_ABI_KW ⋅ token L_PAREN ⋅ any_of (token STRING ⋅ token COMMA) ⋅
    opt (opt (token STRING) ⋅ token R_PAREN))
    -- the options of assembly
    ∷ (ASM_OPTIONS has
    attributes ⋅ token OPTIONS_KW ⋅ token L_PAREN ⋅ any_of (one ASM_OPTION ⋅ token COMMA) ⋅
    opt (opt (one ASM_OPTION) ⋅ token R_PAREN))
    -- an option
    ∷ (ASM_OPTION has
    leaf_of (ATT_SYNTAX_KW ∷ MAY_UNWIND_KW ∷ NOMEM_KW ∷ NORETURN_KW ∷ NOSTACK_KW ∷ PRESERVES_FLAGS_KW ∷ PURE_KW ∷
    RAW_KW ∷ READONLY_KW ∷ []))
    -- an operand, perhaps with a name
    ∷ (ASM_OPERAND_NAMED has
    attributes ⋅ opt (one NAME ⋅ token EQ) ⋅
    node_of (ASM_CONST ∷ ASM_LABEL ∷ ASM_REG_OPERAND ∷ ASM_SYM ∷ []))
    -- an operand in a register
    ∷ (ASM_REG_OPERAND has one ASM_DIR_SPEC ⋅ in_parens (one ASM_REG_SPEC) ⋅ one ASM_OPERAND_EXPR)
    -- whether an operand goes in or out
    ∷ (ASM_DIR_SPEC has leaf_of (IN_KW ∷ INLATEOUT_KW ∷ INOUT_KW ∷ LATEOUT_KW ∷ OUT_KW ∷ []))
    -- a register, or which ones may be taken
    ∷ (ASM_REG_SPEC has token STRING or one NAME_REF)
    -- what goes in, and where it comes out
    ∷ (ASM_OPERAND_EXPR has expression ⋅ opt (token FAT_ARROW ⋅ expression))
    -- a block to jump to
    ∷ (ASM_LABEL has token LABEL_KW ⋅ one BLOCK_EXPR)
    -- a constant
    ∷ (ASM_CONST has token CONST_KW ⋅ expression)
    -- a function or a static variable
    ∷ (ASM_SYM has token SYM_KW ⋅ (one PATH or in_parens (one PATH)))
    ∷ []

-- all of them, and that of a kind
abbrev pub shapes : List (ℕ × Shape)
shapes =
    text_shapes ++
    (name_shapes ++
    (generic_shapes ++
    (item_shapes ++
    (attribute_shapes ++
    (type_shapes ++
    (pattern_shapes ++
    (statement_shapes ++
    (expression_shapes ++ built_in_shapes))))))))

abbrev pub shape_in : List (ℕ × Shape) → ℕ → Shape
shape_in [] kind = node_of []
shape_in (row ∷ rows) kind = if row.0 == kind then row.1 else shape_in rows kind

abbrev pub shape_of : ℕ → Shape
shape_of kind = shape_in shapes kind
