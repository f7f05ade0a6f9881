-- Of which tokens each test of the rows does not hold, whatever stands behind them.
use Rattle.std.specs.Prelude.{ℕ, zero, suc, Bool, true, false, ◌&&◌, ◌||◌, ◌==◌, not, List, [], ◌∷◌}
use Rattle.rap_base.specs.TokenKind.{EOF, COLON, COMMA, EQ, POUND, L_PAREN, L_CURLY, L_ANGLE, R_ANGLE, LIFETIME_IDENT, IMPL_KW, FOR_KW, IN_KW, MUT_KW, AMP, PIPE, IDENT, UNDERSCORE, BANG, CONST_KW, FN_KW, UNSAFE_KW, EXTERN_KW, SELF_KW, SUPER_KW, CRATE_KW}
use Rattle.rap_events.specs.Record.{Record, kind_at, joint_at}
use Rattle.rap_grammar_rows.specs.declared.guard.Ahead.{Ahead}

-- the kind is none of these, or one of them
abbrev pub none_of : List ℕ → ℕ → Bool
none_of [] k = true
none_of (j ∷ []) k = not (k == j)
none_of (j ∷ i ∷ js) k = not (k == j) && none_of (i ∷ js) k

abbrev pub some_of : List ℕ → ℕ → Bool
some_of [] k = false
some_of (j ∷ []) k = k == j
some_of (j ∷ i ∷ js) k = (k == j) || some_of (i ∷ js) k

-- what is known of the first of these tokens, and of all that follow
abbrev pub coming : List Record → Ahead
coming ks =
    record {
      first = kind_at ks 0;
      first_joint = joint_at ks 0;
      second = kind_at ks 1;
      second_joint = joint_at ks 1;
      third = kind_at ks 2;
    }

abbrev pub never_excluded : Ahead → Bool
never_excluded c = false

abbrev pub begins_with_none : List ℕ → Ahead → Bool
begins_with_none ks c = none_of ks c.first

-- a mark does not come twice in a row, or `::` comes behind the first token
abbrev pub not_twice : ℕ → Ahead → Bool
not_twice k c = not (c.first == k) || (not c.first_joint || none_of (EOF ∷ k ∷ []) c.second)

abbrev pub colons_behind : Ahead → Bool
colons_behind c = (c.second == COLON) && (c.second_joint && (c.third == COLON))

-- what a function pointer and a path begin with
abbrev pub path_or_pointer : Ahead → Bool
path_or_pointer c =
    (some_of (FN_KW ∷ UNSAFE_KW ∷ EXTERN_KW ∷ []) c.first || some_of (IDENT ∷ SELF_KW ∷ SUPER_KW ∷ CRATE_KW ∷ []) c.first) ||
    ((c.first == COLON) && (c.first_joint && (c.second == COLON)))

-- no name with a `:`
abbrev pub no_named_param : Ahead → Bool
no_named_param c =
    none_of (IDENT ∷ UNDERSCORE ∷ []) c.first || (none_of (EOF ∷ COLON ∷ []) c.second || colons_behind c)

-- no restriction of a visibility
abbrev pub no_restriction : Ahead → Bool
no_restriction c =
    none_of (L_PAREN ∷ []) c.first ||
    (none_of (EOF ∷ CRATE_KW ∷ SELF_KW ∷ SUPER_KW ∷ IN_KW ∷ []) c.second ||
    (none_of (IN_KW ∷ []) c.second && (c.third == COLON)))

-- generic parameters
abbrev pub params_begin : Ahead → Bool
params_begin c =
    (c.first == L_ANGLE) &&
    (some_of (POUND ∷ R_ANGLE ∷ CONST_KW ∷ []) c.second ||
    (some_of (LIFETIME_IDENT ∷ IDENT ∷ []) c.second && some_of (R_ANGLE ∷ COMMA ∷ COLON ∷ EQ ∷ []) c.third))

-- no name that is a pattern
abbrev pub no_ident_pat : Ahead → Bool
no_ident_pat c =
    none_of (IDENT ∷ []) c.first || (some_of (L_PAREN ∷ L_CURLY ∷ BANG ∷ []) c.second || colons_behind c)

abbrev pub excluders : List (Ahead → Bool)
excluders =
    path_or_pointer
    ∷ begins_with_none (COLON ∷ [])
    ∷ begins_with_none (LIFETIME_IDENT ∷ IMPL_KW ∷ FOR_KW ∷ [])
    ∷ not_twice COLON
    ∷ no_named_param
    ∷ no_named_param
    ∷ not_twice L_ANGLE
    ∷ not_twice PIPE
    ∷ not_twice AMP
    ∷ begins_with_none (L_ANGLE ∷ [])
    ∷ no_restriction
    ∷ begins_with_none (L_ANGLE ∷ L_PAREN ∷ BANG ∷ IMPL_KW ∷ CONST_KW ∷ [])
    ∷ params_begin
    ∷ begins_with_none (IMPL_KW ∷ [])
    ∷ begins_with_none (MUT_KW ∷ [])
    ∷ no_ident_pat
    ∷ begins_with_none (LIFETIME_IDENT ∷ [])
    ∷ begins_with_none (L_CURLY ∷ [])
    ∷ begins_with_none (COLON ∷ [])
    ∷ []

abbrev pub excluder_in : ℕ → List (Ahead → Bool) → Ahead → Bool
excluder_in n [] = never_excluded
excluder_in zero (f ∷ fs) = f
excluder_in (suc n) (f ∷ fs) = excluder_in n fs

abbrev pub is_excluded : ℕ → Ahead → Bool
is_excluded guard c = excluder_in guard excluders c
