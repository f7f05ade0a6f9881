-- The rows of patterns.
use Rattle.std.specs.Prelude.{ℕ, List, [], ◌∷◌, ◌++◌, Some, None}
use Rattle.rap_base.specs.NodeKind.{CONST_BLOCK_PAT, IDENT_PAT, LITERAL, LITERAL_PAT, MACRO_CALL, MACRO_PAT, NAME_REF, OR_PAT, PAREN_PAT, PATH, PATH_PAT, PATH_SEGMENT, RANGE_PAT, RECORD_PAT, RECORD_PAT_FIELD, RECORD_PAT_FIELD_LIST, REF_PAT, REST_PAT, SLICE_PAT, TUPLE_PAT, TUPLE_STRUCT_PAT, WILDCARD_PAT}
use Rattle.rap_base.specs.TokenKind.{EOF, IDENT, SEMICOLON, COMMA, COLON, DOT, DOT2, DOT2EQ, EQ, L_PAREN, R_PAREN, L_BRACK, R_BRACK, L_CURLY, R_CURLY, AMP, AT, MINUS, PIPE, UNDERSCORE, LIFETIME_IDENT, INT_NUMBER, FLOAT_NUMBER, CONST_KW, CRATE_KW, SELF_TYPE_KW, SUPER_KW, IF_KW, IN_KW, MUT_KW, REF_KW, BANG, COLON2}
use Rattle.rap_grammar_scripts.specs.First.{one_of}
use Rattle.rap_grammar_scripts.specs.Test.{Test, also, comes, kind_so, negated}
use Rattle.rap_grammar_scripts.specs.Words.{is_at}
use Rattle.rap_grammar_table.specs.Category.{Pattern, SinglePattern, ParamPattern, PatternPath, RestPattern, NamedRest, Block, TokenTree}
use Rattle.rap_grammar_table.specs.SharedRows.{attrs, literal, name, name_ref, path_names, symbol_kinds}
use Rattle.rap_grammar_table.specs.Known.{Place, never}
use Rattle.rap_grammar_table.specs.Notation.{Part, ◌⊳◌, t, ts, names, op, c, node, opt, either, many, commas, alone, guard, of_kinds}
use Rattle.rap_grammar_table.specs.TypeRows.{more_expr_segments}

-- what may follow a pattern: a `:` is that of a type
abbrev pub type_colon : List Place
type_colon =
    of_kinds (COLON ∷ []) ∷ of_kinds (UNDERSCORE ∷ L_PAREN ∷ DOT ∷ LIFETIME_IDENT ∷ (symbol_kinds ++ path_names)) ∷ []

-- the same before a type that begins with `::`
abbrev pub global_colon : List Place
global_colon = record { kinds = Some (COLON ∷ []); words = None; joint = never } ∷ of_kinds (COLON ∷ []) ∷ []

abbrev pub pattern_ends : List ℕ
pattern_ends = EOF ∷ SEMICOLON ∷ EQ ∷ COMMA ∷ R_PAREN ∷ R_BRACK ∷ R_CURLY ∷ IF_KW ∷ IN_KW ∷ []

-- what may follow a pattern with its alternatives, and one without
abbrev pub pattern_follows : List (List Place)
pattern_follows = (of_kinds pattern_ends ∷ []) ∷ type_colon ∷ global_colon ∷ []

abbrev pub single_follows : List (List Place)
single_follows = (of_kinds (PIPE ∷ pattern_ends) ∷ []) ∷ type_colon ∷ global_colon ∷ []

-- a literal, with a minus where it is a number
abbrev pub literal_pattern : Part
literal_pattern = node LITERAL_PAT (either literal (t MINUS ⊳ node LITERAL (ts (INT_NUMBER ∷ FLOAT_NUMBER ∷ []))))

-- an identifier comes next that begins no path of several names, no path with fields, and no macro call
abbrev pub is_lone_name : Test
is_lone_name =
    also (is_at IDENT)
    (also (negated (kind_so 1 (one_of (L_PAREN ∷ L_CURLY ∷ BANG ∷ [])))) (negated (comes 1 COLON2)))

-- a field of a record
abbrev pub record_field : Part
record_field =
    node RECORD_PAT_FIELD
    (attrs ⊳
    either (node NAME_REF (names (IDENT ∷ INT_NUMBER ∷ [])) ⊳ t COLON ⊳ c Pattern)
    (node IDENT_PAT (opt (t REF_KW) ⊳ opt (t MUT_KW) ⊳ name)))

abbrev pub pattern_fields : Part
pattern_fields =
    node RECORD_PAT_FIELD_LIST
    (t L_CURLY ⊳ commas (either record_field (node REST_PAT (attrs ⊳ op DOT2))) ⊳ t R_CURLY)

-- a name, with a pattern behind an `@`
abbrev pub ident_pattern : Part
ident_pattern =
    node IDENT_PAT
    (opt (t REF_KW) ⊳ opt (t MUT_KW) ⊳ name ⊳
    alone (opt (t AT ⊳ c SinglePattern)))

abbrev pub element : Part
element = either (c Pattern) (c RestPattern)

abbrev pub slice_pattern : Part
slice_pattern = node SLICE_PAT (t L_BRACK ⊳ commas (either element (c NamedRest)) ⊳ t R_BRACK)

abbrev pub single_rows : List Part
single_rows =
    ident_pattern
    ∷ node WILDCARD_PAT (t UNDERSCORE)
    ∷ node REF_PAT (t AMP ⊳ either (t MUT_KW) (guard (is_at MUT_KW)) ⊳ c SinglePattern)
    ∷ node TUPLE_PAT (t L_PAREN ⊳ t R_PAREN)
    ∷ node PAREN_PAT (t L_PAREN ⊳ c Pattern ⊳ t R_PAREN)
    ∷ node TUPLE_PAT (t L_PAREN ⊳ c RestPattern ⊳ t R_PAREN)
    ∷ node TUPLE_PAT (t L_PAREN ⊳ element ⊳ t COMMA ⊳ commas element ⊳ t R_PAREN)
    ∷ slice_pattern
    ∷ literal_pattern
    ∷ node RANGE_PAT (literal_pattern ⊳ either (op DOT2EQ) (op DOT2) ⊳ literal_pattern)
    ∷ node PATH_PAT (guard is_lone_name ⊳ c PatternPath)
    ∷ node TUPLE_STRUCT_PAT (guard is_lone_name ⊳ c PatternPath ⊳ t L_PAREN ⊳ commas element ⊳ t R_PAREN)
    ∷ node RECORD_PAT (guard is_lone_name ⊳ c PatternPath ⊳ pattern_fields)
    ∷ node CONST_BLOCK_PAT (t CONST_KW ⊳ c Block)
    ∷ node MACRO_PAT (guard is_lone_name ⊳ node MACRO_CALL (c PatternPath ⊳ t BANG ⊳ c TokenTree))
    ∷ []

abbrev pub named_rest_rows : List Part
named_rest_rows = node IDENT_PAT (opt (t REF_KW) ⊳ opt (t MUT_KW) ⊳ name ⊳ alone (t AT ⊳ c RestPattern)) ∷ []

-- a pattern, with its alternatives
abbrev pub or_rows : List Part
or_rows =
    (c SinglePattern)
    ∷ node OR_PAT (c SinglePattern ⊳ t PIPE ⊳ c SinglePattern ⊳ many (t PIPE ⊳ c SinglePattern))
    ∷ node OR_PAT (t PIPE ⊳ c SinglePattern ⊳ many (t PIPE ⊳ c SinglePattern))
    ∷ []

-- The pattern of a parameter of a function: none that may begin as a `self` does, with a `&` before it or not.
abbrev pub param_names : List ℕ
param_names = IDENT ∷ SUPER_KW ∷ CRATE_KW ∷ SELF_TYPE_KW ∷ []

abbrev pub param_path : Part
param_path = node PATH (node PATH_SEGMENT (name_ref param_names)) ⊳ more_expr_segments

abbrev pub param_pattern_rows : List Part
param_pattern_rows =
    ident_pattern
    ∷ node WILDCARD_PAT (t UNDERSCORE)
    ∷ node TUPLE_PAT (t L_PAREN ⊳ t R_PAREN)
    ∷ node PAREN_PAT (t L_PAREN ⊳ c Pattern ⊳ t R_PAREN)
    ∷ node TUPLE_PAT (t L_PAREN ⊳ element ⊳ t COMMA ⊳ commas element ⊳ t R_PAREN)
    ∷ slice_pattern
    ∷ node REF_PAT (t AMP ⊳ either (t MUT_KW) (guard (is_at MUT_KW)) ⊳ c ParamPattern)
    ∷ node TUPLE_STRUCT_PAT (guard is_lone_name ⊳ param_path ⊳ t L_PAREN ⊳ commas element ⊳ t R_PAREN)
    ∷ node RECORD_PAT (guard is_lone_name ⊳ param_path ⊳ pattern_fields)
    ∷ []
