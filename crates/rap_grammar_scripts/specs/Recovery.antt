-- Where the search for a rule's beginning ends: tokens that are not taken into an `ERROR`.
use Rattle.std.specs.Prelude.{ℕ, Bool, true, false, [], ◌∷◌, ◌||◌}
use Rattle.rap_base.specs.TokenKind.{EOF, L_PAREN, L_CURLY, R_CURLY, R_PAREN, R_BRACK, R_ANGLE, COMMA, SEMICOLON, EQ, AMP, POUND, IF_KW, WHILE_KW, LOOP_KW, MATCH_KW, FN_KW, STRUCT_KW, ENUM_KW, IMPL_KW, TRAIT_KW, CONST_KW, ASYNC_KW, UNSAFE_KW, EXTERN_KW, STATIC_KW, LET_KW, MOD_KW, PUB_KW, CRATE_KW, USE_KW, MACRO_KW}
use Rattle.rap_grammar_scripts.specs.First.{one_of}
use Rattle.rap_grammar_scripts.specs.declared.arguments.Mode.{Mode}
use Rattle.rap_grammar_scripts.specs.declared.arguments.Mode.TheVariants as mode

-- the search for an expression
abbrev pub is_expr_recovery : ℕ → Bool
is_expr_recovery kind = one_of (L_PAREN ∷ R_CURLY ∷ R_PAREN ∷ R_BRACK ∷ COMMA ∷ []) kind

-- where an expression that does not begin skips no token
abbrev pub stops_expr : ℕ → Bool
stops_expr kind = one_of (EOF ∷ R_CURLY ∷ R_PAREN ∷ R_BRACK ∷ COMMA ∷ []) kind

-- the search for an item: what items begin with, and the semicolon after them
abbrev pub is_item_recovery : ℕ → Bool
is_item_recovery kind =
    one_of
    (FN_KW ∷ STRUCT_KW ∷ ENUM_KW ∷ IMPL_KW ∷ TRAIT_KW ∷ CONST_KW ∷ ASYNC_KW ∷ UNSAFE_KW ∷ EXTERN_KW ∷ STATIC_KW ∷
    LET_KW ∷ MOD_KW ∷ PUB_KW ∷ CRATE_KW ∷ USE_KW ∷ MACRO_KW ∷ SEMICOLON ∷ []) kind

-- the search for a type
abbrev pub is_type_recovery : ℕ → Bool
is_type_recovery kind = one_of (R_PAREN ∷ R_BRACK ∷ R_CURLY ∷ R_ANGLE ∷ COMMA ∷ PUB_KW ∷ []) kind

-- where a type that does not begin skips no token
abbrev pub stops_type : ℕ → Bool
stops_type kind =
    one_of (EOF ∷ L_CURLY ∷ R_CURLY ∷ R_PAREN ∷ R_BRACK ∷ R_ANGLE ∷ COMMA ∷ PUB_KW ∷ []) kind

-- the search for a generic argument
abbrev pub is_generic_arg_recovery : ℕ → Bool
is_generic_arg_recovery kind = one_of (R_ANGLE ∷ COMMA ∷ []) kind

-- the search for a pattern
abbrev pub is_pattern_recovery : ℕ → Bool
is_pattern_recovery kind =
    one_of (LET_KW ∷ IF_KW ∷ WHILE_KW ∷ LOOP_KW ∷ MATCH_KW ∷ R_PAREN ∷ R_BRACK ∷ R_CURLY ∷ COMMA ∷ EQ ∷ AMP ∷ []) kind

-- where a pattern that does not begin skips no token
abbrev pub stops_pattern : ℕ → Bool
stops_pattern kind =
    one_of
    (EOF ∷ LET_KW ∷ IF_KW ∷ WHILE_KW ∷ LOOP_KW ∷ MATCH_KW ∷ R_PAREN ∷ R_BRACK ∷ L_CURLY ∷ R_CURLY ∷ COMMA ∷ EQ ∷ [])
    kind

-- the search for the pattern of an arm
abbrev pub is_arm_recovery : ℕ → Bool
is_arm_recovery kind = one_of (EQ ∷ IF_KW ∷ []) kind

-- where the pattern of an arm skips no token
abbrev pub stops_arm : ℕ → Bool
stops_arm kind = one_of (EOF ∷ L_CURLY ∷ R_CURLY ∷ EQ ∷ IF_KW ∷ []) kind

-- where a pattern that does not begin skips no token, in an arm or elsewhere
abbrev pub stops_of : Bool → ℕ → Bool
stops_of false kind = stops_pattern kind
stops_of true kind = stops_arm kind

-- the search for a segment's name of a path
abbrev pub is_segment_recovery : Mode → ℕ → Bool
is_segment_recovery mode.Use kind = is_item_recovery kind
is_segment_recovery mode.Attr kind = is_item_recovery kind || one_of (R_BRACK ∷ EQ ∷ POUND ∷ []) kind
is_segment_recovery mode.Type kind = is_type_recovery kind
is_segment_recovery mode.Expr kind = is_expr_recovery kind || is_item_recovery kind
is_segment_recovery mode.Vis kind = is_item_recovery kind || one_of (R_PAREN ∷ []) kind
