-- Types.
use Rattle.std.specs.Prelude.{ℕ, Bool, true, false, ◌==◌, not, if◌then◌else◌, [], ◌∷◌, codes}
use Rattle.rap_base.specs.TokenKind.{EOF, ERROR, L_PAREN, R_PAREN, L_BRACK, R_BRACK, L_ANGLE, L_CURLY, COMMA, SEMICOLON, PLUS, STAR, AMP, BANG, UNDERSCORE, POUND, LIFETIME_IDENT, MUT_KW, CONST_KW, FN_KW, UNSAFE_KW, EXTERN_KW, FOR_KW, IMPL_KW, DYN_KW, BUILTIN_KW, PATTERN_TYPE_KW, IS_KW}
use Rattle.rap_base.specs.NodeKind.{PAREN_TYPE, TUPLE_TYPE, NEVER_TYPE, PTR_TYPE, SLICE_TYPE, ARRAY_TYPE, CONST_ARG, REF_TYPE, INFER_TYPE, FN_PTR_TYPE, FOR_TYPE, IMPL_TRAIT_TYPE, DYN_TRAIT_TYPE, TYPE_BOUND, MACRO_CALL, MACRO_TYPE, PATH_TYPE, PATTERN_TYPE}
use Rattle.rap_grammar_scripts.specs.Test.{Test, comes, also, or_else, told}
use Rattle.rap_grammar_scripts.specs.ThroughKnot.{expr, type_, type_no_bounds, pattern, opt_ret_type, for_binder}
use Rattle.rap_grammar_scripts.specs.First.{one_of, is_fn_ptr_first, starts_weak_dyn, is_use_path_start, is_path_start}
use Rattle.rap_grammar_scripts.specs.GenericParams.{bounds_without_colon, bounds_without_colon_m}
use Rattle.rap_grammar_scripts.specs.Names.{lifetime, abi}
use Rattle.rap_grammar_scripts.specs.TokenTree.{macro_call_after_excl, starts_macro_call}
use Rattle.rap_grammar_scripts.specs.Params.{param_list_fn_ptr}
use Rattle.rap_grammar_scripts.specs.Paths.{type_path}
use Rattle.rap_grammar_scripts.specs.declared.rule.Rule.{Rule}
use Rattle.rap_grammar_scripts.specs.Recovery.{is_type_recovery}
use Rattle.rap_grammar_scripts.specs.Script.{Script, Outcome, nothing, something, block, again, give, test, token, any, bear, report, start, precede, finish, abandon, after, loop}
use Rattle.rap_grammar_scripts.specs.PathType.{path_type}
use Rattle.rap_grammar_scripts.specs.Words.{done, next_is, reads_as, eat, expect, recover, of_bool, starts_builtin, ◌▸◌, call, choose, optional, next_so, is_at}

abbrev pub types_turn : Bool → Bool → Script Rule
types_turn seen b =
    choose
    ((is_at EOF, give nothing)
    ∷ (is_at R_PAREN, give nothing)
    ∷ [])
    (call type_ ▸ test (is_at COMMA) (token COMMA ▸ give (again true b)) (give (of_bool (not seen))))

-- what stands in parentheses: something where it is one type and no comma
unfoldable pub tuple_types : Script Rule
tuple_types = loop types_turn false false

abbrev pub paren_or_tuple : Outcome → ℕ
paren_or_tuple nothing = TUPLE_TYPE
paren_or_tuple something = PAREN_TYPE
paren_or_tuple block = PAREN_TYPE
paren_or_tuple (again a b) = PAREN_TYPE

unfoldable pub paren_or_tuple_type : Script Rule
paren_or_tuple_type = start ▸ token L_PAREN ▸ after tuple_types (λ v. expect R_PAREN ▸ finish (paren_or_tuple v) ▸ done)

unfoldable pub never_type : Script Rule
never_type = start ▸ token BANG ▸ finish NEVER_TYPE ▸ done

-- what stands after the star of a pointer
unfoldable pub ptr_qualifier : Script Rule
ptr_qualifier =
    test (next_so (one_of (MUT_KW ∷ CONST_KW ∷ []))) (any ▸ done)
    (report (codes "expected mut or const in raw pointer type (use `*mut T` or `*const T` as appropriate)") ▸ done)

unfoldable pub ptr_type : Script Rule
ptr_type = start ▸ token STAR ▸ call ptr_qualifier ▸ call type_no_bounds ▸ finish PTR_TYPE ▸ done

-- the length of an array, and its bracket
unfoldable pub array_length : Script Rule
array_length = token SEMICOLON ▸ start ▸ call expr ▸ finish CONST_ARG ▸ expect R_BRACK ▸ done

unfoldable pub array_or_slice_type : Script Rule
array_or_slice_type =
    start ▸ token L_BRACK ▸ call type_ ▸
    choose
    ((is_at R_BRACK, token R_BRACK ▸ finish SLICE_TYPE ▸ done)
    ∷ (is_at SEMICOLON, call array_length ▸ finish ARRAY_TYPE ▸ done)
    ∷ [])
    (report (codes "expected `;` or `]`") ▸ finish SLICE_TYPE ▸ done)

abbrev pub ref_target : Script Rule
ref_target = eat MUT_KW ▸ call type_no_bounds ▸ finish REF_TYPE ▸ done

unfoldable pub ref_type : Script Rule
ref_type = start ▸ token AMP ▸ test (is_at LIFETIME_IDENT) (call lifetime ▸ ref_target) ref_target

unfoldable pub infer_type : Script Rule
infer_type = start ▸ token UNDERSCORE ▸ finish INFER_TYPE ▸ done

-- what stands before the `fn` of a function pointer
unfoldable pub fn_qualifiers : Script Rule
fn_qualifiers = eat UNSAFE_KW ▸ optional (is_at EXTERN_KW) abi

unfoldable pub fn_ptr_params : Script Rule
fn_ptr_params = test (is_at L_PAREN) param_list_fn_ptr (report (codes "expected parameters") ▸ done)

unfoldable pub fn_ptr_type : Script Rule
fn_ptr_type =
    start ▸ call fn_qualifiers ▸
    test (is_at FN_KW) (token FN_KW ▸ call fn_ptr_params ▸ call opt_ret_type ▸ finish FN_PTR_TYPE ▸ done)
    (abandon ▸ report (codes "expected `fn`") ▸ done)

-- The bounds after a type of this kind, which is then the first of them. A macro call has none.
unfoldable pub opt_type_bounds_as_dyn_trait_type : ℕ → Script Rule
opt_type_bounds_as_dyn_trait_type kind =
    optional (also (told (not (kind == MACRO_TYPE))) (is_at PLUS))
    (precede ▸ finish TYPE_BOUND ▸ precede ▸ token PLUS ▸ call bounds_without_colon_m ▸ precede ▸
    finish DYN_TRAIT_TYPE ▸ done)

-- the same where bounds are allowed
abbrev pub bounds_if : Bool → ℕ → Script Rule
bounds_if allow_bounds kind = if allow_bounds then opt_type_bounds_as_dyn_trait_type kind else done

-- a function pointer or a path comes next
abbrev pub starts_for_target : Test
starts_for_target = or_else (next_so is_fn_ptr_first) is_use_path_start

abbrev pub for_target : Bool → Script Rule
for_target allow_bounds = call type_no_bounds ▸ finish FOR_TYPE ▸ bounds_if allow_bounds FOR_TYPE

unfoldable pub for_type : Bool → Script Rule
for_type allow_bounds =
    start ▸ call for_binder ▸
    test starts_for_target (for_target allow_bounds)
    (report (codes "expected a function pointer or path") ▸ for_target allow_bounds)

unfoldable pub impl_trait_type : Script Rule
impl_trait_type = start ▸ token IMPL_KW ▸ call bounds_without_colon ▸ finish IMPL_TRAIT_TYPE ▸ done

unfoldable pub dyn_trait_type : Script Rule
dyn_trait_type = start ▸ token DYN_KW ▸ call bounds_without_colon ▸ finish DYN_TRAIT_TYPE ▸ done

-- the same where `dyn` is an identifier
unfoldable pub dyn_trait_type_weak : Script Rule
dyn_trait_type_weak = start ▸ bear DYN_KW ▸ call bounds_without_colon ▸ finish DYN_TRAIT_TYPE ▸ done

-- the same without a `dyn`, where it begins with a lifetime
unfoldable pub bare_dyn_trait_type : Script Rule
bare_dyn_trait_type = start ▸ call bounds_without_colon ▸ finish DYN_TRAIT_TYPE ▸ done

-- what stands after `builtin#pattern_type`: a type and its values
unfoldable pub pattern_type_parts : Script Rule
pattern_type_parts =
    expect L_PAREN ▸ call type_ ▸
    test (reads_as IS_KW) (bear IS_KW ▸ call pattern ▸ expect R_PAREN ▸ done)
    (report (codes "expected `is`") ▸ call pattern ▸ expect R_PAREN ▸ done)

unfoldable pub pattern_type : Script Rule
pattern_type =
    start ▸ bear BUILTIN_KW ▸ token POUND ▸
    test (reads_as PATTERN_TYPE_KW) (bear PATTERN_TYPE_KW ▸ call pattern_type_parts ▸ finish PATTERN_TYPE ▸ done)
    (report (codes "unknown name after `builtin#`") ▸ finish ERROR ▸ done)

-- a path as a type, or a macro call
unfoldable pub path_or_macro : Bool → Script Rule
path_or_macro allow_bounds =
    start ▸ start ▸ call type_path ▸
    test starts_macro_call (call macro_call_after_excl ▸ finish MACRO_CALL ▸ finish MACRO_TYPE ▸ done)
    (abandon ▸ finish PATH_TYPE ▸ bounds_if allow_bounds PATH_TYPE)

unfoldable pub path_or_macro_type : Bool → Script Rule
path_or_macro_type allow_bounds =
    test starts_builtin pattern_type (path_or_macro allow_bounds)

-- a path as a type, and bounds after it
unfoldable pub path_type_bounds : Bool → Script Rule
path_type_bounds allow_bounds = call path_type ▸ bounds_if allow_bounds PATH_TYPE

-- where no type begins
unfoldable pub missing_type : Script Rule
missing_type =
    test (next_is L_CURLY) (report (codes "expected type, found `{`") ▸ done)
    (recover (codes "expected type") is_type_recovery done done)

-- bounds come next that begin with a lifetime
abbrev pub starts_bare_dyn : Test
starts_bare_dyn = also (next_is LIFETIME_IDENT) (comes 1 PLUS)

-- a type that begins with no symbol and no keyword of its own
unfoldable pub named_type : Bool → Script Rule
named_type allow_bounds =
    choose
    ((starts_weak_dyn, dyn_trait_type_weak)
    ∷ (is_path_start, path_or_macro_type allow_bounds)
    ∷ (starts_bare_dyn, bare_dyn_trait_type)
    ∷ [])
    missing_type

unfoldable pub type_with_bounds_cond : Bool → Script Rule
type_with_bounds_cond allow_bounds =
    choose
    ((next_is L_PAREN, paren_or_tuple_type)
    ∷ (next_is BANG, never_type)
    ∷ (next_is STAR, ptr_type)
    ∷ (next_is L_BRACK, array_or_slice_type)
    ∷ (next_is AMP, ref_type)
    ∷ (next_is UNDERSCORE, infer_type)
    ∷ (next_so is_fn_ptr_first, fn_ptr_type)
    ∷ (next_is FOR_KW, for_type allow_bounds)
    ∷ (next_is IMPL_KW, impl_trait_type)
    ∷ (next_is DYN_KW, dyn_trait_type)
    ∷ (next_is L_ANGLE, path_type_bounds allow_bounds)
    ∷ [])
    (named_type allow_bounds)
