-- Generic parameters, bounds, and `where`.
use Rattle.std.specs.Prelude.{ℕ, Bool, false, [], ◌∷◌, codes}
use Rattle.rap_base.specs.TokenKind.{ERROR, L_ANGLE, R_ANGLE, L_PAREN, R_PAREN, L_BRACK, R_BRACK, L_CURLY, COMMA, COLON, SEMICOLON, EQ, PLUS, TILDE, QUESTION, BANG, IDENT, LIFETIME_IDENT, CONST_KW, ASYNC_KW, FOR_KW, USE_KW, IMPL_KW, WHERE_KW}
use Rattle.rap_base.specs.NodeKind.{GENERIC_PARAM_LIST, LIFETIME_PARAM, TYPE_PARAM, CONST_PARAM, TYPE_BOUND, TYPE_BOUND_LIST, USE_BOUND_GENERIC_ARGS, WHERE_CLAUSE, WHERE_PRED}
use Rattle.rap_grammar_scripts.specs.Attributes.{outer_attrs}
use Rattle.rap_grammar_scripts.specs.Test.{comes, also}
use Rattle.rap_grammar_scripts.specs.ThroughKnot.{type_, ascription, for_binder}
use Rattle.rap_grammar_scripts.specs.ConstArgs.{const_arg}
use Rattle.rap_grammar_scripts.specs.First.{one_of, is_bracket, is_attributed_generic_param_first, is_use_bound_arg_first, is_where_predicate_first, is_use_path_start}
use Rattle.rap_grammar_scripts.specs.Lists.{delimited}
use Rattle.rap_grammar_scripts.specs.Names.{lifetime, name, name_ref_or_upper_self}
use Rattle.rap_grammar_scripts.specs.TokenTree.{token_tree}
use Rattle.rap_grammar_scripts.specs.declared.rule.Rule.{Rule}
use Rattle.rap_grammar_scripts.specs.Script.{Script, nothing, give, test, token, report, skip, start, finish, abandon, after, loop, again}
use Rattle.rap_grammar_scripts.specs.PathType.{path_type}
use Rattle.rap_grammar_scripts.specs.Words.{done, if_some, next_is, eat, expect, ◌▸◌, call, choose, optional, only_if, next_so, is_at}

-- a name or a lifetime in a `use<..>`
unfoldable pub use_bound_arg : Script Rule
use_bound_arg = test (is_at LIFETIME_IDENT) lifetime name_ref_or_upper_self

-- names and lifetimes in their brackets
unfoldable pub use_bound_args : Script Rule
use_bound_args =
    delimited use_bound_arg L_ANGLE R_ANGLE COMMA (codes "expected identifier or lifetime") is_use_bound_arg_first

-- the generic arguments that a type captures
unfoldable pub use_bound : Script Rule
use_bound = token USE_KW ▸ start ▸ call use_bound_args ▸ finish USE_BOUND_GENERIC_ARGS ▸ done

-- the `const` before a trait, in either of its forms, if there is one
unfoldable pub bound_constness : Script Rule
bound_constness =
    choose
    ((is_at TILDE, token TILDE ▸ expect CONST_KW ▸ done)
    ∷ (is_at L_BRACK, token L_BRACK ▸ expect CONST_KW ▸ expect R_BRACK ▸ done)
    ∷ [])
    (eat CONST_KW ▸ done)

-- the rest of a macro call in place of a trait
unfoldable pub bound_macro_call : Script Rule
bound_macro_call =
    start ▸ token BANG ▸ report (codes "unexpected `!` in type path, macro calls are not allowed here") ▸
    test (next_so is_bracket) (call token_tree ▸ finish ERROR ▸ done) (finish ERROR ▸ done)

-- a trait with what stands before it
unfoldable pub path_type_bound : Script Rule
path_type_bound =
    call bound_constness ▸ eat ASYNC_KW ▸ eat QUESTION ▸
    only_if is_use_path_start (call path_type ▸ optional (is_at BANG) bound_macro_call)

-- a bound without its parentheses
unfoldable pub bare_bound : Script Rule
bare_bound =
    choose
    ((next_is LIFETIME_IDENT, lifetime)
    ∷ (next_is FOR_KW, call for_binder ▸ path_type_bound)
    ∷ (also (next_is USE_KW) (comes 1 L_ANGLE), use_bound)
    ∷ [])
    path_type_bound

unfoldable pub type_bound : Script Rule
type_bound =
    start ▸
    test (is_at L_PAREN)
    (token L_PAREN ▸
    after bare_bound (λ v. if_some v (expect R_PAREN ▸ finish TYPE_BOUND ▸ done) (abandon ▸ give nothing)))
    (after bare_bound (λ v. if_some v (finish TYPE_BOUND ▸ done) (abandon ▸ give nothing)))

-- on to the next bound
abbrev pub next_bound : Bool → Bool → Script Rule
next_bound a b = optional (is_at PLUS) (token PLUS ▸ give (again a b))

abbrev pub bound_turn : Bool → Bool → Script Rule
bound_turn a b = after type_bound (λ v. if_some v (next_bound a b) done)

-- bounds with `+` between them
unfoldable pub type_bounds : Script Rule
type_bounds = loop bound_turn false false

unfoldable pub bounds_without_colon_m : Script Rule
bounds_without_colon_m = call type_bounds ▸ finish TYPE_BOUND_LIST ▸ done

unfoldable pub bounds_without_colon : Script Rule
bounds_without_colon = start ▸ bounds_without_colon_m

unfoldable pub bounds : Script Rule
bounds = token COLON ▸ bounds_without_colon

-- a bound of a lifetime: another one is reported and read
unfoldable pub lifetime_bound : Script Rule
lifetime_bound =
    test (next_so (one_of (LIFETIME_IDENT ∷ R_ANGLE ∷ COMMA ∷ []))) type_bound
    (report (codes "expected lifetime") ▸ type_bound)

abbrev pub lifetime_bound_turn : Bool → Bool → Script Rule
lifetime_bound_turn a b = after lifetime_bound (λ v. if_some v (next_bound a b) done)

unfoldable pub lifetime_bound_list : Script Rule
lifetime_bound_list = loop lifetime_bound_turn false false

unfoldable pub lifetime_bounds : Script Rule
lifetime_bounds = start ▸ call lifetime_bound_list ▸ finish TYPE_BOUND_LIST ▸ done

-- a lifetime as a parameter
unfoldable pub lifetime_param : Script Rule
lifetime_param =
    call lifetime ▸
    test (is_at COLON) (token COLON ▸ call lifetime_bounds ▸ finish LIFETIME_PARAM ▸ done)
    (finish LIFETIME_PARAM ▸ done)

-- what stands after a parameter's name and bounds
unfoldable pub type_default : Script Rule
type_default = optional (is_at EQ) (token EQ ▸ type_)

-- a type as a parameter
unfoldable pub type_param : Script Rule
type_param = call name ▸ call (optional (is_at COLON) bounds) ▸ call type_default ▸ finish TYPE_PARAM ▸ done

-- the type after a constant's name
unfoldable pub const_type : Script Rule
const_type = test (is_at COLON) ascription (report (codes "missing type for const parameter") ▸ done)

unfoldable pub const_default : Script Rule
const_default = optional (is_at EQ) (token EQ ▸ const_arg)

-- a constant as a parameter
unfoldable pub const_param : Script Rule
const_param = token CONST_KW ▸ call name ▸ call const_type ▸ call const_default ▸ finish CONST_PARAM ▸ done

-- a parameter from its marker on
unfoldable pub generic_param : Script Rule
generic_param =
    choose
    ((next_is LIFETIME_IDENT, lifetime_param)
    ∷ (next_is IDENT, type_param)
    ∷ (next_is CONST_KW, const_param)
    ∷ [])
    (abandon ▸ skip (codes "expected generic parameter") ▸ give nothing)

unfoldable pub attributed_param : Script Rule
attributed_param = start ▸ call outer_attrs ▸ generic_param

-- parameters in their brackets
unfoldable pub generic_params : Script Rule
generic_params =
    delimited attributed_param L_ANGLE R_ANGLE COMMA (codes "expected generic parameter")
    is_attributed_generic_param_first

unfoldable pub generic_param_list : Script Rule
generic_param_list = start ▸ call generic_params ▸ finish GENERIC_PARAM_LIST ▸ done

-- the bounds of what a predicate is about
unfoldable pub predicate_bounds : Script Rule
predicate_bounds = test (is_at COLON) bounds (report (codes "expected colon") ▸ done)

-- a predicate about a type
unfoldable pub type_predicate : Script Rule
type_predicate = test (is_at FOR_KW) (call for_binder ▸ call type_ ▸ predicate_bounds) (call type_ ▸ predicate_bounds)

unfoldable pub where_predicate : Script Rule
where_predicate =
    start ▸
    choose
    ((next_is LIFETIME_IDENT, call lifetime ▸ call predicate_bounds ▸ finish WHERE_PRED ▸ done)
    ∷ (next_is IMPL_KW, report (codes "expected lifetime or type") ▸ finish WHERE_PRED ▸ done)
    ∷ [])
    (call type_predicate ▸ finish WHERE_PRED ▸ done)

abbrev pub ends_where : ℕ → Bool
ends_where kind = one_of (L_CURLY ∷ SEMICOLON ∷ EQ ∷ []) kind

-- what stands after a predicate: something where another one may follow
unfoldable pub after_predicate : Script Rule
after_predicate =
    choose
    ((is_at COMMA, token COMMA ▸ optional (next_so ends_where) (give nothing))
    ∷ (next_so ends_where, give nothing)
    ∷ [])
    (report (codes "expected comma") ▸ done)

abbrev pub where_turn : Bool → Bool → Script Rule
where_turn a b =
    optional (next_so is_where_predicate_first)
    (call where_predicate ▸ after after_predicate (λ w. if_some w (give (again a b)) done))

unfoldable pub where_predicates : Script Rule
where_predicates = loop where_turn false false

unfoldable pub where_clause : Script Rule
where_clause = start ▸ token WHERE_KW ▸ call where_predicates ▸ finish WHERE_CLAUSE ▸ done
