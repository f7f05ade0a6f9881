-- The rows of types, of the paths in them, and of bounds.
use Rattle.std.specs.Prelude.{ℕ, List, [], ◌∷◌, ◌++◌}
use Rattle.rap_base.specs.NodeKind.{ARRAY_TYPE, CONST_ARG, DYN_TRAIT_TYPE, FN_PTR_TYPE, FOR_BINDER, FOR_TYPE, GENERIC_ARG_LIST, IDENT_PAT, IMPL_TRAIT_TYPE, INFER_TYPE, MACRO_TYPE, NEVER_TYPE, PARAM, PARAM_LIST, PARENTHESIZED_ARG_LIST, PAREN_TYPE, PATH, PATH_SEGMENT, PATH_TYPE, PTR_TYPE, REF_TYPE, RETURN_TYPE_SYNTAX, RET_TYPE, SLICE_TYPE, TUPLE_TYPE, TYPE_ANCHOR, TYPE_ARG, TYPE_BOUND, TYPE_BOUND_LIST, USE_BOUND_GENERIC_ARGS, WILDCARD_PAT}
use Rattle.rap_base.specs.TokenKind.{IDENT, SEMICOLON, COMMA, COLON, COLON2, DOT2, DOT3, L_PAREN, R_PAREN, L_BRACK, R_BRACK, L_ANGLE, R_ANGLE, AMP, STAR, BANG, PLUS, TILDE, QUESTION, UNDERSCORE, THIN_ARROW, AS_KW, ASYNC_KW, CONST_KW, DYN_KW, FN_KW, FOR_KW, IMPL_KW, MUT_KW, SELF_TYPE_KW, UNSAFE_KW, USE_KW, EXTERN_KW, SELF_KW, SUPER_KW, CRATE_KW}
use Rattle.rap_grammar_scripts.specs.First.{one_of}
use Rattle.rap_grammar_scripts.specs.Test.{Test, also, comes, negated, or_else}
use Rattle.rap_grammar_scripts.specs.Words.{is_at, kind_is, next_so}
use Rattle.rap_grammar_table.specs.Category.{Ty, PlainTy, TyBeforePlus, AnchorTrait, Path, PathBeforePlus, UsePath, GlobalPath, AnchoredPath, Args, Argument, Bound, Bounds, Generics, ParamName, FnPointerParams, MacroPath, Expr, Category}
use Rattle.rap_grammar_table.specs.SharedRows.{abi, attrs, macro_call, lifetime, name, name_ref, path_names}
use Rattle.rap_grammar_table.specs.Known.{Place, anything}
use Rattle.rap_grammar_table.specs.Notation.{Part, ◌⊳◌, t, ts, op, c, node, opt, either, commas, commas_last, until, alone, fold, guard, guard_before, of_kinds}

-- a return type
abbrev pub ret : Category → Part
ret category = node RET_TYPE (op THIN_ARROW ⊳ c category)

-- The arguments of a path's segment: in angle brackets, with `::` before them or not; types in parentheses; two dots.
abbrev pub paren_args : Part
paren_args = node PARENTHESIZED_ARG_LIST (opt (op COLON2) ⊳ t L_PAREN ⊳ commas (node TYPE_ARG (c Ty)) ⊳ t R_PAREN)

abbrev pub args_rows : List Part
args_rows =
    node GENERIC_ARG_LIST (opt (op COLON2) ⊳ t L_ANGLE ⊳ commas (c Argument) ⊳ t R_ANGLE)
    ∷ paren_args
    ∷ node RETURN_TYPE_SYNTAX (t L_PAREN ⊳ op DOT2 ⊳ t R_PAREN)
    ∷ []

abbrev pub opt_args : Part
opt_args = alone (opt (c Args))

-- A segment. One with a return type is the last of a path, since the type would take in what follows.
abbrev pub segment : List ℕ → Part
segment kinds = node PATH_SEGMENT (name_ref kinds ⊳ opt_args)

abbrev pub call_segment : Category → List ℕ → Part
call_segment category kinds = node PATH_SEGMENT (name_ref kinds ⊳ alone (paren_args ⊳ ret category))

-- what stands after a path
abbrev pub more_segments : Part
more_segments = fold PATH (op COLON2 ⊳ segment path_names)

-- a path that begins with one of these names; its return types are of this category
abbrev pub named_paths : Category → List ℕ → List Part
named_paths category kinds =
    (node PATH (segment kinds) ⊳ more_segments)
    ∷ node PATH (call_segment category kinds)
    ∷ node PATH (node PATH (segment kinds) ⊳ op COLON2 ⊳ call_segment category path_names)
    ∷ node PATH
    (node PATH (node PATH (segment kinds) ⊳ op COLON2 ⊳ segment path_names) ⊳ op COLON2 ⊳
    call_segment category path_names)
    ∷ []

-- a path that begins with `::`, and one that begins with a type
abbrev pub global_path : Part
global_path = node PATH (node PATH_SEGMENT (op COLON2 ⊳ name_ref path_names ⊳ opt_args)) ⊳ more_segments

abbrev pub anchor : Part
anchor = node TYPE_ANCHOR (t L_ANGLE ⊳ c Ty ⊳ opt (t AS_KW ⊳ c AnchorTrait) ⊳ t R_ANGLE)

abbrev pub anchored_path : Part
anchored_path = node PATH (node PATH (node PATH_SEGMENT anchor) ⊳ op COLON2 ⊳ segment path_names) ⊳ more_segments

-- a path in an expression, where `::` stands before its arguments
abbrev pub expr_segment : Part
expr_segment =
    node PATH_SEGMENT
    (name_ref path_names ⊳
    alone (opt (node GENERIC_ARG_LIST (op COLON2 ⊳ t L_ANGLE ⊳ commas (c Argument) ⊳ t R_ANGLE))))

abbrev pub more_expr_segments : Part
more_expr_segments = fold PATH (op COLON2 ⊳ expr_segment)

abbrev pub expr_path_rows : List Part
expr_path_rows =
    (node PATH expr_segment ⊳ more_expr_segments)
    ∷ (node PATH
    (node PATH_SEGMENT
    (op COLON2 ⊳ name_ref path_names ⊳
    alone (opt (node GENERIC_ARG_LIST (op COLON2 ⊳ t L_ANGLE ⊳ commas (c Argument) ⊳ t R_ANGLE))))) ⊳
    more_expr_segments)
    ∷ (node PATH (node PATH (node PATH_SEGMENT anchor) ⊳ op COLON2 ⊳ expr_segment) ⊳ more_expr_segments)
    ∷ []

-- a path with no return type, before a `for`, and the trait that it is
abbrev pub anchor_trait_rows : List Part
anchor_trait_rows = node PATH_TYPE (c UsePath) ∷ node PATH_TYPE (c GlobalPath) ∷ []

-- the parameters after a `for`
abbrev pub for_binder : Part
for_binder = node FOR_BINDER (t FOR_KW ⊳ c Generics)

-- A bound: a lifetime; the arguments that a type captures; a trait with what stands before it.
abbrev pub constness : Part
constness = either (t TILDE ⊳ t CONST_KW) (either (t L_BRACK ⊳ t CONST_KW ⊳ t R_BRACK) (t CONST_KW))

abbrev pub captured : Part
captured =
    t USE_KW ⊳
    node USE_BOUND_GENERIC_ARGS
    (t L_ANGLE ⊳ commas (either lifetime (name_ref (IDENT ∷ SELF_TYPE_KW ∷ []))) ⊳ t R_ANGLE)

abbrev pub trait_path : Part
trait_path = alone (node PATH_TYPE (either (c UsePath) (c GlobalPath)))

abbrev pub bare_bounds : List Part
bare_bounds =
    lifetime
    ∷ captured
    ∷ (opt constness ⊳ opt (t ASYNC_KW) ⊳ trait_path)
    ∷ (t QUESTION ⊳ trait_path)
    ∷ (for_binder ⊳ opt (t ASYNC_KW) ⊳ trait_path)
    ∷ []

-- each of them alone and in parentheses
abbrev pub alone_or_in_parens : List Part → List Part
alone_or_in_parens [] = []
alone_or_in_parens (a ∷ more) =
    node TYPE_BOUND (alone a) ∷ node TYPE_BOUND (t L_PAREN ⊳ alone a ⊳ t R_PAREN) ∷ alone_or_in_parens more

-- bounds with `+` between them, and one behind the last or none
abbrev pub bounds : Part
bounds = until (c Bound ⊳ t PLUS) (alone (opt (c Bound)))

abbrev pub bound_list : Part
bound_list = node TYPE_BOUND_LIST bounds

abbrev pub param_name_rows : List Part
param_name_rows = node IDENT_PAT name ∷ node WILDCARD_PAT (t UNDERSCORE) ∷ []

-- a name and a colon come next
abbrev pub has_name : Test
has_name = also (or_else (is_at IDENT) (is_at UNDERSCORE)) (also (kind_is 1 COLON) (negated (comes 1 COLON2)))

abbrev pub fn_pointer_param : List (List Place) → Part
fn_pointer_param ways =
    node PARAM
    (attrs ⊳
    either (guard_before ways has_name ⊳ c Ty) (either (c ParamName ⊳ guard (is_at COLON2) ⊳ t COLON ⊳ c Ty) (op DOT3)))

abbrev pub fn_pointer_params_rows : List Part
fn_pointer_params_rows =
    node PARAM_LIST
    (t L_PAREN ⊳
    commas_last (fn_pointer_param anything) (fn_pointer_param ((of_kinds (R_PAREN ∷ []) ∷ []) ∷ [])) ⊳ t R_PAREN) ∷ []

-- The types that begin with a symbol or a keyword, by the category of the type at their end.
abbrev pub fn_pointer : Category → Part
fn_pointer category =
    node FN_PTR_TYPE
    (alone (opt (t UNSAFE_KW) ⊳ opt abi) ⊳ t FN_KW ⊳ c FnPointerParams ⊳ alone (opt (ret category)))

-- what may stand behind the parameters of a `for`: a function pointer or a path
abbrev pub takes_for : Test
takes_for =
    or_else (next_so (one_of (FN_KW ∷ UNSAFE_KW ∷ EXTERN_KW ∷ [])))
    (or_else (next_so (one_of (IDENT ∷ SELF_KW ∷ SUPER_KW ∷ CRATE_KW ∷ []))) (is_at COLON2))

abbrev pub for_type : Category → Part
for_type category = node FOR_TYPE (for_binder ⊳ guard (negated takes_for) ⊳ c category)

abbrev pub symbol_types : Category → List Part
symbol_types category =
    node REF_TYPE (t AMP ⊳ opt lifetime ⊳ opt (t MUT_KW) ⊳ c category)
    ∷ node PTR_TYPE (t STAR ⊳ ts (MUT_KW ∷ CONST_KW ∷ []) ⊳ c category)
    ∷ node SLICE_TYPE (t L_BRACK ⊳ c Ty ⊳ t R_BRACK)
    ∷ node ARRAY_TYPE (t L_BRACK ⊳ c Ty ⊳ t SEMICOLON ⊳ node CONST_ARG (c Expr) ⊳ t R_BRACK)
    ∷ node NEVER_TYPE (t BANG)
    ∷ node INFER_TYPE (t UNDERSCORE)
    ∷ node TUPLE_TYPE (t L_PAREN ⊳ t R_PAREN)
    ∷ node PAREN_TYPE (t L_PAREN ⊳ c Ty ⊳ t R_PAREN)
    ∷ node TUPLE_TYPE (t L_PAREN ⊳ c Ty ⊳ t COMMA ⊳ commas (c Ty) ⊳ t R_PAREN)
    ∷ fn_pointer category
    ∷ for_type category
    ∷ node PATH_TYPE (c AnchoredPath)
    ∷ node PATH_TYPE (c GlobalPath)
    ∷ []

abbrev pub trait_types : List Part
trait_types = node IMPL_TRAIT_TYPE (t IMPL_KW ⊳ c Bounds) ∷ node DYN_TRAIT_TYPE (t DYN_KW ⊳ c Bounds) ∷ []

-- a macro call as a type
abbrev pub macro_type : Part
macro_type = node MACRO_TYPE (macro_call (c MacroPath))

-- a type that is the first of bounds, and a lifetime before bounds
abbrev pub bounded : Part → Part
bounded a = node DYN_TRAIT_TYPE (node TYPE_BOUND_LIST (node TYPE_BOUND a ⊳ t PLUS ⊳ bounds))

abbrev pub bounded_symbol_types : List Part
bounded_symbol_types =
    bounded (node PATH_TYPE (c AnchoredPath))
    ∷ bounded (node PATH_TYPE (c GlobalPath))
    ∷ bounded (for_type TyBeforePlus)
    ∷ bounded lifetime
    ∷ []

abbrev pub type_rows : List Part
type_rows =
    node PATH_TYPE (c Path) ∷ bounded (node PATH_TYPE (c PathBeforePlus)) ∷ macro_type ∷
    (symbol_types PlainTy ++ trait_types ++ bounded_symbol_types)

abbrev pub plain_type_rows : List Part
plain_type_rows = node PATH_TYPE (c Path) ∷ macro_type ∷ (symbol_types PlainTy ++ trait_types)

abbrev pub type_before_plus_rows : List Part
type_before_plus_rows = node PATH_TYPE (c PathBeforePlus) ∷ macro_type ∷ symbol_types TyBeforePlus

-- those that begin with no name, as arguments
abbrev pub symbol_type_rows : List Part
symbol_type_rows = symbol_types PlainTy ++ trait_types ++ bounded_symbol_types
