-- Parameters of functions and closures.
use Rattle.std.specs.Prelude.{ℕ, ◌+◌, Bool, false, codes, [], ◌∷◌}
use Rattle.rap_base.specs.TokenKind.{EOF, L_PAREN, R_PAREN, PIPE, COMMA, COLON, COLON2, DOT3, AMP, IDENT, UNDERSCORE, LIFETIME_IDENT, MUT_KW, SELF_KW}
use Rattle.rap_base.specs.NodeKind.{NAME, PARAM, SELF_PARAM, PARAM_LIST}
use Rattle.rap_grammar_scripts.specs.Attributes.{outer_attrs}
use Rattle.rap_grammar_scripts.specs.Test.{Test, comes, negated, also, or_else}
use Rattle.rap_grammar_scripts.specs.ThroughKnot.{type_, pattern, pattern_single, ascription}
use Rattle.rap_grammar_scripts.specs.First.{is_param_first}
use Rattle.rap_grammar_scripts.specs.Names.{lifetime}
use Rattle.rap_grammar_scripts.specs.declared.rule.Rule.{Rule}
use Rattle.rap_grammar_scripts.specs.Script.{Script, nothing, give, test, token, report, start, finish, abandon, after, loop, again}
use Rattle.rap_grammar_scripts.specs.Words.{done, if_some, eat, expect, ◌▸◌, call, choose, optional, only_if, next_so, kind_is, is_at}
use Rattle.rap_grammar_scripts.specs.declared.arguments.Flavor.{Flavor}
use Rattle.rap_grammar_scripts.specs.declared.arguments.Flavor.TheVariants as flavor

-- the brackets of a list
abbrev pub bra : Flavor → ℕ
bra flavor.FnDef = L_PAREN
bra flavor.FnPointer = L_PAREN
bra flavor.Closure = PIPE

abbrev pub ket : Flavor → ℕ
ket flavor.FnDef = R_PAREN
ket flavor.FnPointer = R_PAREN
ket flavor.Closure = PIPE

-- after so many tokens comes a `self` with which no path begins
abbrev pub is_isolated_self : ℕ → Test
is_isolated_self n = also (comes n SELF_KW) (negated (comes (n + 1) COLON2))

-- a test past a token of this kind, if one comes after so many tokens, and else where it would be
abbrev pub past : ℕ → ℕ → (ℕ → Test) → Test
past kind n t = or_else (also (comes n kind) (t (n + 1))) (also (negated (comes n kind)) (t n))

-- `self` or `mut self` comes next
abbrev pub is_self_value : Test
is_self_value = past MUT_KW 0 is_isolated_self

-- `&self` comes next, with a lifetime and a `mut` or without them
abbrev pub is_self_ref : Test
is_self_ref = also (is_at AMP) (past LIFETIME_IDENT 1 (λ n. past MUT_KW n is_isolated_self))

unfoldable pub self_as_name : Script Rule
self_as_name = start ▸ token SELF_KW ▸ finish NAME ▸ done

unfoldable pub self_value : Script Rule
self_value = eat MUT_KW ▸ call self_as_name ▸ optional (is_at COLON) ascription

-- a `self` after a `mut`, if there is one
unfoldable pub self_mut : Script Rule
self_mut = eat MUT_KW ▸ self_as_name

unfoldable pub self_ref : Script Rule
self_ref = token AMP ▸ test (is_at LIFETIME_IDENT) (call lifetime ▸ self_mut) self_mut

-- a parameter that is a `self`, without its marker, if one comes next
unfoldable pub opt_self_param : Script Rule
opt_self_param = choose ((is_self_value, self_value) ∷ (is_self_ref, self_ref) ∷ []) (give nothing)

unfoldable pub variadic_param : Script Rule
variadic_param = only_if (also (is_at COLON) (comes 1 DOT3)) (token COLON ▸ token DOT3 ▸ done)

-- what stands after a parameter's pattern
unfoldable pub param_type : Script Rule
param_type =
    after variadic_param (λ v.
    if_some v done (test (is_at COLON) ascription (report (codes "missing type for function parameter") ▸ done)))

unfoldable pub fn_def_param : Script Rule
fn_def_param = test (is_at DOT3) (token DOT3 ▸ done) (call pattern ▸ param_type)

-- a name and a colon come next
abbrev pub is_named_param : Test
is_named_param =
    also (or_else (is_at IDENT) (is_at UNDERSCORE))
    (also (kind_is 1 COLON) (negated (comes 1 COLON2)))

unfoldable pub fn_ptr_param : Script Rule
fn_ptr_param = choose ((is_at DOT3, token DOT3 ▸ done) ∷ (is_named_param, call pattern_single ▸ param_type) ∷ []) type_

unfoldable pub closure_param : Script Rule
closure_param = call pattern_single ▸ optional (also (is_at COLON) (negated (is_at COLON2))) ascription

-- a parameter without its marker
abbrev pub param : Flavor → Script Rule
param flavor.FnDef = fn_def_param
param flavor.FnPointer = fn_ptr_param
param flavor.Closure = closure_param

-- on to the next parameter: something where one may follow
unfoldable pub after_param : Script Rule
after_param =
    choose
    ((is_at COMMA, token COMMA ▸ done)
    ∷ (next_so is_param_first, report (codes "expected `,`") ▸ done)
    ∷ [])
    (give nothing)

-- a parameter from its marker on, after its attributes
unfoldable pub marked_param : Flavor → Script Rule
marked_param f =
    test (next_so is_param_first) (call (param f) ▸ finish PARAM ▸ after_param)
    (report (codes "expected value parameter") ▸ abandon ▸ only_if (is_at COMMA) (token COMMA ▸ done))

unfoldable pub attributed_param : Flavor → Script Rule
attributed_param f = start ▸ call outer_attrs ▸ marked_param f

abbrev pub param_turn : Flavor → Bool → Bool → Script Rule
param_turn f a b =
    choose
    ((is_at EOF, done)
    ∷ (is_at (ket f), done)
    ∷ [])
    (after (attributed_param f) (λ v. if_some v (give (again a b)) done))

unfoldable pub params : Flavor → Script Rule
params f = loop (param_turn f) false false

-- what comes after `self`
unfoldable pub after_self : Script Rule
after_self = test (is_at R_PAREN) done (expect COMMA ▸ done)

-- the first parameter of a function, which may be a `self`: something where another one may follow
unfoldable pub first_param : Script Rule
first_param =
    start ▸ call outer_attrs ▸
    after opt_self_param (λ w.
    if_some w (finish SELF_PARAM ▸ after_self)
    (choose
    ((is_at EOF, abandon ▸ give nothing)
    ∷ (is_at R_PAREN, abandon ▸ give nothing)
    ∷ [])
    (marked_param flavor.FnDef)))

unfoldable pub fn_def_params : Script Rule
fn_def_params = after first_param (λ v. if_some v (params flavor.FnDef) done)

abbrev pub params_of : Flavor → Script Rule
params_of flavor.FnDef = fn_def_params
params_of flavor.FnPointer = params flavor.FnPointer
params_of flavor.Closure = params flavor.Closure

unfoldable pub list_ : Flavor → Script Rule
list_ f = start ▸ token (bra f) ▸ call (params_of f) ▸ expect (ket f) ▸ finish PARAM_LIST ▸ done

unfoldable pub param_list_fn_def : Script Rule
param_list_fn_def = list_ flavor.FnDef

unfoldable pub param_list_fn_ptr : Script Rule
param_list_fn_ptr = list_ flavor.FnPointer

unfoldable pub param_list_closure : Script Rule
param_list_closure = list_ flavor.Closure
