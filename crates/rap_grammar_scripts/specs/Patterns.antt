-- Patterns.
use Rattle.std.specs.Prelude.{ℕ, Bool, true, false, ◌&&◌, not, [], ◌∷◌, codes}
use Rattle.rap_base.specs.TokenKind.{EOF, ERROR, IDENT, INT_NUMBER, FLOAT_NUMBER, AT, AMP, PIPE, BANG, COLON, COLON2, COMMA, DOT2, DOT3, DOT2EQ, EQ, MINUS, POUND, UNDERSCORE, L_PAREN, R_PAREN, L_BRACK, R_BRACK, L_CURLY, R_CURLY, BOX_KW, BUILTIN_KW, CFG_KW, CONST_KW, DEREF_KW, IF_KW, MUT_KW, REF_KW}
use Rattle.rap_base.specs.NodeKind.{OR_PAT, RANGE_PAT, REST_PAT, DEREF_PAT, CFG_PRED_PAT, LITERAL_PAT, TUPLE_STRUCT_PAT, RECORD_PAT, RECORD_PAT_FIELD_LIST, RECORD_PAT_FIELD, MACRO_CALL, MACRO_PAT, PATH_PAT, WILDCARD_PAT, REF_PAT, NOT_NULL, PAREN_PAT, TUPLE_PAT, SLICE_PAT, IDENT_PAT, BOX_PAT, CONST_BLOCK_PAT}
use Rattle.rap_grammar_scripts.specs.Literals.{literal}
use Rattle.rap_grammar_scripts.specs.Blocks.{block_expr, error_block}
use Rattle.rap_grammar_scripts.specs.Attributes.{outer_attrs, cfg_predicate}
use Rattle.rap_grammar_scripts.specs.Test.{Test, kind_so, comes, negated, also, or_else, told}
use Rattle.rap_grammar_scripts.specs.ThroughKnot.{pattern, pattern_single}
use Rattle.rap_grammar_scripts.specs.First.{one_of, is_literal_first, is_pat_top_first, is_range_pat_end_first, is_path_start}
use Rattle.rap_grammar_scripts.specs.Names.{name_r, name_ref_or_index}
use Rattle.rap_grammar_scripts.specs.TokenTree.{macro_call_after_excl}
use Rattle.rap_grammar_scripts.specs.Paths.{expr_path}
use Rattle.rap_grammar_scripts.specs.declared.rule.Rule.{Rule}
use Rattle.rap_grammar_scripts.specs.Recovery.{is_pattern_recovery, is_arm_recovery}
use Rattle.rap_grammar_scripts.specs.Script.{Script, Outcome, nothing, something, block, again, give, test, token, bear, report, report_next, skip, start, precede, finish, abandon, after, loop}
use Rattle.rap_grammar_scripts.specs.Words.{done, if_some, next_is, reads_as, eat, expect, recover, of_bool, starts_builtin, ◌▸◌, call, choose, optional, only_if, next_so, kind_is, is_at}

-- a name that is bound
unfoldable pub binding : Script Rule
binding = eat REF_KW ▸ eat MUT_KW ▸ name_r is_pattern_recovery

-- the pattern that a name stands for, after its `@`
unfoldable pub at_pattern : Bool → Script Rule
at_pattern with_at = optional (also (told with_at) (is_at AT)) (token AT ▸ call pattern_single ▸ done)

unfoldable pub ident_pat : Bool → Script Rule
ident_pat with_at = start ▸ call binding ▸ call (at_pattern with_at) ▸ finish IDENT_PAT ▸ done

unfoldable pub box_pat : Script Rule
box_pat = start ▸ token BOX_KW ▸ call pattern_single ▸ finish BOX_PAT ▸ done

unfoldable pub const_block_pat : Script Rule
const_block_pat = start ▸ token CONST_KW ▸ call block_expr ▸ finish CONST_BLOCK_PAT ▸ done

-- a literal comes next, be it with a minus
abbrev pub is_literal_pat_start : Test
is_literal_pat_start =
    or_else (also (is_at MINUS) (kind_so 1 (one_of (INT_NUMBER ∷ FLOAT_NUMBER ∷ [])))) (next_so is_literal_first)

unfoldable pub literal_pat : Script Rule
literal_pat = start ▸ eat MINUS ▸ call literal ▸ finish LITERAL_PAT ▸ done

unfoldable pub wildcard_pat : Script Rule
wildcard_pat = start ▸ token UNDERSCORE ▸ finish WILDCARD_PAT ▸ done

unfoldable pub ref_pat : Script Rule
ref_pat = start ▸ token AMP ▸ eat MUT_KW ▸ call pattern_single ▸ finish REF_PAT ▸ done

unfoldable pub not_null_pat : Script Rule
not_null_pat = start ▸ token BANG ▸ call pattern_single ▸ finish NOT_NULL ▸ done

-- Patterns with commas between them. A comma that is missing before another pattern is reported.
abbrev pub pat_turn : ℕ → Bool → Bool → Script Rule
pat_turn ket a b =
    choose
    ((is_at EOF, done)
    ∷ (is_at ket, done)
    ∷ [])
    (call pattern ▸
    choose
    ((is_at COMMA, token COMMA ▸ give (again a b))
    ∷ (next_so is_pat_top_first, report_next (codes "expected COMMA, got ") ▸ give (again a b))
    ∷ [])
    done)

unfoldable pub pat_list : ℕ → Script Rule
pat_list ket = loop (pat_turn ket) false false

unfoldable pub slice_pat : Script Rule
slice_pat = start ▸ token L_BRACK ▸ call (pat_list R_BRACK) ▸ expect R_BRACK ▸ finish SLICE_PAT ▸ done

-- `..` comes next that is no range's beginning
abbrev pub is_rest_pat : Test
is_rest_pat = also (negated (is_at DOT2EQ)) (also (is_at DOT2) (negated (kind_so 2 is_range_pat_end_first)))

-- a comma before the first pattern
unfoldable pub leading_comma : Script Rule
leading_comma = only_if (is_at COMMA) (token COMMA ▸ report (codes "expected pattern") ▸ done)

-- A pattern, and a comma unless it is the last. There is a comma or a `..`, or none up to here.
abbrev pub tuple_element : Bool → Script Rule
tuple_element tuple =
    call pattern ▸ test (is_at R_PAREN) (give (again tuple true)) (expect COMMA ▸ give (again true true))

-- The flags: there is a comma or a `..`, and there is a pattern.
abbrev pub tuple_pat_turn : Bool → Bool → Script Rule
tuple_pat_turn tuple seen =
    choose
    ((is_at EOF, give (of_bool (seen && not tuple)))
    ∷ (is_at R_PAREN, give (of_bool (seen && not tuple)))
    ∷ (
      next_so is_pat_top_first,
      test is_rest_pat (tuple_element true) (tuple_element tuple),
    )
    ∷ [])
    (report (codes "expected a pattern") ▸ give (of_bool (not tuple)))

-- what stands in parentheses: something where it is one pattern, no comma and no `..`
unfoldable pub tuple_patterns : Bool → Script Rule
tuple_patterns comma = loop tuple_pat_turn comma false

abbrev pub is_something : Outcome → Bool
is_something nothing = false
is_something something = true
is_something block = true
is_something (again a b) = true

abbrev pub tuple_pat_kind : Outcome → ℕ
tuple_pat_kind nothing = TUPLE_PAT
tuple_pat_kind something = PAREN_PAT
tuple_pat_kind block = PAREN_PAT
tuple_pat_kind (again a b) = PAREN_PAT

unfoldable pub tuple_pat : Script Rule
tuple_pat =
    start ▸ token L_PAREN ▸
    after leading_comma (λ v.
    after (tuple_patterns (is_something v)) (λ w. expect R_PAREN ▸ finish (tuple_pat_kind w) ▸ done))

-- a field's name or number and this separator come next
abbrev pub at_field : ℕ → Test
at_field separator = also (next_so (one_of (IDENT ∷ INT_NUMBER ∷ []))) (kind_is 1 separator)

unfoldable pub record_pat_field : Script Rule
record_pat_field =
    choose
    ((at_field COLON, call name_ref_or_index ▸ token COLON ▸ call pattern ▸ done)
    ∷ (at_field EQ, call name_ref_or_index ▸ skip (codes "expected `:`") ▸ call pattern ▸ done)
    ∷ (next_is BOX_KW, call box_pat ▸ done)
    ∷ (next_so (one_of (REF_KW ∷ MUT_KW ∷ IDENT ∷ [])), call (ident_pat false) ▸ done)
    ∷ [])
    (skip (codes "expected identifier") ▸ done)

-- a field with its attributes, or the `..` for the other fields
unfoldable pub record_pat_element : Script Rule
record_pat_element =
    start ▸ call outer_attrs ▸
    choose
    ((is_at DOT2, token DOT2 ▸ finish REST_PAT ▸ done)
    ∷ (next_is L_CURLY, call (error_block (codes "expected ident")) ▸ abandon ▸ done)
    ∷ [])
    (call record_pat_field ▸ finish RECORD_PAT_FIELD ▸ done)

abbrev pub record_pat_turn : Bool → Bool → Script Rule
record_pat_turn a b =
    choose
    ((is_at EOF, done)
    ∷ (is_at R_CURLY, done)
    ∷ [])
    (call record_pat_element ▸ test (is_at R_CURLY) (give (again a b)) (expect COMMA ▸ give (again a b)))

unfoldable pub record_pat_fields : Script Rule
record_pat_fields = loop record_pat_turn false false

unfoldable pub record_pat_field_list : Script Rule
record_pat_field_list =
    start ▸ token L_CURLY ▸ call record_pat_fields ▸ expect R_CURLY ▸ finish RECORD_PAT_FIELD_LIST ▸ done

unfoldable pub tuple_pat_fields : Script Rule
tuple_pat_fields = token L_PAREN ▸ call (pat_list R_PAREN) ▸ expect R_PAREN ▸ done

-- a path alone, with its fields, or as the name of a macro
unfoldable pub path_or_macro_pat : Script Rule
path_or_macro_pat =
    start ▸ call expr_path ▸
    choose
    ((next_is L_PAREN, call tuple_pat_fields ▸ finish TUPLE_STRUCT_PAT ▸ done)
    ∷ (next_is L_CURLY, call record_pat_field_list ▸ finish RECORD_PAT ▸ done)
    ∷ (next_is BANG, call macro_call_after_excl ▸ finish MACRO_CALL ▸ precede ▸ finish MACRO_PAT ▸ done)
    ∷ [])
    (finish PATH_PAT ▸ done)

-- `builtin#` with a name after it, which is not taken where it is unknown
unfoldable pub builtin_pat : Script Rule
builtin_pat =
    start ▸ bear BUILTIN_KW ▸ token POUND ▸
    choose
    ((reads_as DEREF_KW, bear DEREF_KW ▸ expect L_PAREN ▸ call pattern ▸ expect R_PAREN ▸ finish DEREF_PAT ▸ done)
    ∷ (
      reads_as CFG_KW,
      bear CFG_KW ▸ expect L_PAREN ▸ call cfg_predicate ▸ eat COMMA ▸ expect R_PAREN ▸ finish CFG_PRED_PAT ▸
          done,
    )
    ∷ [])
    (report (codes "unknown name after `builtin#`") ▸ finish ERROR ▸ give nothing)

-- an identifier comes next that begins no path of several names, no path with fields, and no macro call
abbrev pub is_ident_pat_start : Test
is_ident_pat_start =
    also (is_at IDENT)
    (also (negated (kind_so 1 (one_of (L_PAREN ∷ L_CURLY ∷ BANG ∷ [])))) (negated (comes 1 COLON2)))

-- what stops the search for a pattern, in an arm or elsewhere
abbrev pub ends_search : Bool → ℕ → Bool
ends_search false kind = is_pattern_recovery kind
ends_search true kind = is_arm_recovery kind

-- no pattern begins
unfoldable pub missing_pat : Bool → Script Rule
missing_pat in_arm = recover (codes "expected pattern") (ends_search in_arm) (give nothing) (give nothing)

-- a pattern that begins with no keyword and no path
unfoldable pub symbol_pat : Bool → Script Rule
symbol_pat in_arm =
    choose
    ((is_literal_pat_start, literal_pat)
    ∷ (next_is UNDERSCORE, wildcard_pat)
    ∷ (next_is AMP, ref_pat)
    ∷ (next_is L_PAREN, tuple_pat)
    ∷ (next_is L_BRACK, slice_pat)
    ∷ (next_is BANG, not_null_pat)
    ∷ [])
    (missing_pat in_arm)

unfoldable pub atom_pat : Bool → Script Rule
atom_pat in_arm =
    choose
    ((starts_builtin, builtin_pat)
    ∷ (next_is BOX_KW, box_pat)
    ∷ (next_so (one_of (REF_KW ∷ MUT_KW ∷ [])), ident_pat true)
    ∷ (next_is CONST_KW, const_block_pat)
    ∷ (is_ident_pat_start, ident_pat true)
    ∷ (is_path_start, path_or_macro_pat)
    ∷ [])
    (symbol_pat in_arm)

-- where a range that has begun ends
abbrev pub ends_range_pat : ℕ → Bool
ends_range_pat kind = one_of (EQ ∷ COMMA ∷ COLON ∷ R_PAREN ∷ R_CURLY ∷ R_BRACK ∷ IF_KW ∷ PIPE ∷ EOF ∷ []) kind

-- a range from the pattern before it on
unfoldable pub range_from_pat : Bool → ℕ → Script Rule
range_from_pat in_arm op =
    precede ▸ token op ▸
    test (next_so ends_range_pat) (finish RANGE_PAT ▸ done)
    (call (atom_pat in_arm) ▸ finish RANGE_PAT ▸ done)

unfoldable pub range_op : Bool → Script Rule
range_op in_arm =
    choose
    ((is_at DOT3, range_from_pat in_arm DOT3)
    ∷ (is_at DOT2EQ, range_from_pat in_arm DOT2EQ)
    ∷ (is_at DOT2, range_from_pat in_arm DOT2)
    ∷ [])
    done

-- a range without a start, and `..` alone
unfoldable pub range_to_pat : Bool → Script Rule
range_to_pat in_arm = start ▸ token DOT2EQ ▸ call (atom_pat in_arm) ▸ finish RANGE_PAT ▸ done

unfoldable pub rest_pat : Bool → Script Rule
rest_pat in_arm =
    start ▸ token DOT2 ▸
    test (next_so is_range_pat_end_first) (call (atom_pat in_arm) ▸ finish RANGE_PAT ▸ done)
    (finish REST_PAT ▸ done)

unfoldable pub pattern_single_r : Bool → Script Rule
pattern_single_r in_arm =
    choose
    ((is_at DOT2EQ, range_to_pat in_arm)
    ∷ (is_at DOT2, rest_pat in_arm)
    ∷ [])
    (after (atom_pat in_arm) (λ v. if_some v (range_op in_arm) done))

abbrev pub alternative_turn : Bool → Bool → Bool → Script Rule
alternative_turn in_arm a b = optional (is_at PIPE) (token PIPE ▸ call (pattern_single_r in_arm) ▸ give (again a b))

-- the alternatives after a first one
unfoldable pub alternatives : Bool → Script Rule
alternatives in_arm = loop (alternative_turn in_arm) false false

unfoldable pub pattern_r : Bool → Script Rule
pattern_r in_arm =
    start ▸
    test (is_at PIPE) (token PIPE ▸ call (pattern_single_r in_arm) ▸ call (alternatives in_arm) ▸ finish OR_PAT ▸ done)
    (call (pattern_single_r in_arm) ▸
    test (is_at PIPE) (call (alternatives in_arm) ▸ finish OR_PAT ▸ done) (abandon ▸ done))
