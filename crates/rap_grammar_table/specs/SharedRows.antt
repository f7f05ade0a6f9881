-- What stands in many rows.
use Rattle.std.specs.Prelude.{ℕ, ◌+◌, List, [], ◌∷◌, ◌++◌}
use Rattle.rap_base.specs.NodeKind.{NAME, NAME_REF, LIFETIME, ABI, LITERAL, PREFIX_EXPR, PATH_EXPR, PATH, PATH_SEGMENT, CONST_ARG, MACRO_CALL}
use Rattle.rap_base.specs.TokenKind.{EOF, IDENT, SEMICOLON, COMMA, COLON, COLON2, EQ, L_PAREN, R_PAREN, L_BRACK, R_BRACK, L_CURLY, R_CURLY, L_ANGLE, R_ANGLE, AMP, STAR, BANG, MINUS, PIPE, PLUS, TILDE, QUESTION, LIFETIME_IDENT, STRING, TRUE_KW, FALSE_KW, INT_NUMBER, FLOAT_NUMBER, BYTE, CHAR, BYTE_STRING, C_STRING, AS_KW, ASYNC_KW, CONST_KW, CRATE_KW, DYN_KW, EXTERN_KW, FN_KW, FOR_KW, IMPL_KW, SELF_KW, SELF_TYPE_KW, SUPER_KW, UNSAFE_KW, USE_KW, WHERE_KW}
use Rattle.rap_grammar_table.specs.Category.{Attr, Block, ExprPath, InnerAttr, TokenTree}
use Rattle.rap_grammar_table.specs.Known.{Place}
use Rattle.rap_grammar_table.specs.Table.{Items, begin}
use Rattle.rap_grammar_table.specs.Notation.{Part, ◌⊳◌, t, ts, names, op, c, node, opt, either, many, fold, of_kinds}

-- names
abbrev pub name : Part
name = node NAME (names (IDENT ∷ []))

abbrev pub lifetime : Part
lifetime = node LIFETIME (t LIFETIME_IDENT)

abbrev pub name_ref : List ℕ → Part
name_ref kinds = node NAME_REF (names kinds)

-- the names of a path, and those that begin one with no `Self`
abbrev pub use_names : List ℕ
use_names = IDENT ∷ SELF_KW ∷ SUPER_KW ∷ CRATE_KW ∷ []

abbrev pub path_names : List ℕ
path_names = IDENT ∷ SELF_KW ∷ SUPER_KW ∷ CRATE_KW ∷ SELF_TYPE_KW ∷ []

abbrev pub abi : Part
abi = node ABI (t EXTERN_KW ⊳ opt (t STRING))

abbrev pub literals : List ℕ
literals = TRUE_KW ∷ FALSE_KW ∷ INT_NUMBER ∷ FLOAT_NUMBER ∷ BYTE ∷ CHAR ∷ STRING ∷ BYTE_STRING ∷ C_STRING ∷ []

abbrev pub literal : Part
literal = node LITERAL (ts literals)

-- a constant that is no path, as an argument, and a path as one
abbrev pub constant : Part
constant = node CONST_ARG (either (c Block) (either literal (node PREFIX_EXPR (t MINUS ⊳ literal))))

abbrev pub plain_segment : Part
plain_segment = node PATH_SEGMENT (name_ref path_names)

abbrev pub plain_path : Part
plain_path = node PATH plain_segment ⊳ fold PATH (op COLON2 ⊳ plain_segment)

abbrev pub constant_path : Part
constant_path = node CONST_ARG (node PATH_EXPR (c ExprPath))

-- a call of a macro by its path
abbrev pub macro_call : Part → Part
macro_call path = node MACRO_CALL (path ⊳ t BANG ⊳ c TokenTree)

-- attributes before what they are of
abbrev pub attrs : Part
attrs = many (c Attr)

-- a node with attributes before what else it has
abbrev pub attributed_items : Items → Items
attributed_items (begin is) = begin (c Attr (attrs is))
attributed_items is = is

abbrev pub attributed : Part → Part
attributed a r = attributed_items (a r)

abbrev pub inner_attrs : Part
inner_attrs = many (c InnerAttr)

-- What ends a type or a bound, but for `:` and `+`.
abbrev pub ends : List ℕ
ends =
    EOF ∷ SEMICOLON ∷ COMMA ∷ EQ ∷ R_PAREN ∷ R_BRACK ∷ R_CURLY ∷ L_CURLY ∷ R_ANGLE ∷ PIPE ∷ WHERE_KW ∷ AS_KW ∷
    []

-- what a bound begins with, but for `::`
abbrev pub bound_kinds : List ℕ
bound_kinds = LIFETIME_IDENT ∷ FOR_KW ∷ USE_KW ∷ TILDE ∷ L_BRACK ∷ CONST_KW ∷ ASYNC_KW ∷ QUESTION ∷ L_PAREN ∷ use_names

-- what may follow a type, where a `:` is that of bounds, and one before a `+`
abbrev pub bounds_colon : List (List Place)
bounds_colon = (of_kinds (COLON ∷ []) ∷ of_kinds (bound_kinds ++ ends) ∷ []) ∷ []

abbrev pub type_follows : List (List Place)
type_follows = (of_kinds ends ∷ []) ∷ bounds_colon

abbrev pub plus_follows : List (List Place)
plus_follows = (of_kinds (PLUS ∷ ends) ∷ []) ∷ bounds_colon

-- what else a type begins with
abbrev pub symbol_kinds : List ℕ
symbol_kinds = AMP ∷ L_BRACK ∷ BANG ∷ STAR ∷ L_ANGLE ∷ FN_KW ∷ UNSAFE_KW ∷ EXTERN_KW ∷ FOR_KW ∷ IMPL_KW ∷ DYN_KW ∷ []
