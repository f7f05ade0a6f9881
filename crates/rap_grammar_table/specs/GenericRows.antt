-- The rows of generic arguments, generic parameters and `where`.
use Rattle.std.specs.Prelude.{List, [], ◌∷◌, ◌++◌}
use Rattle.rap_base.specs.NodeKind.{ASSOC_TYPE_ARG, CONST_PARAM, GENERIC_PARAM_LIST, LIFETIME_ARG, LIFETIME_PARAM, MACRO_TYPE, PATH_TYPE, TYPE_ARG, TYPE_BOUND, TYPE_BOUND_LIST, TYPE_PARAM, WHERE_CLAUSE, WHERE_PRED}
use Rattle.rap_base.specs.TokenKind.{IDENT, SEMICOLON, COMMA, COLON, EQ, L_CURLY, L_ANGLE, R_ANGLE, PLUS, CONST_KW, FOR_KW, IMPL_KW, LIFETIME_IDENT, WHERE_KW}
use Rattle.rap_grammar_scripts.specs.First.{one_of}
use Rattle.rap_grammar_scripts.specs.Words.{next_is, next_so}
use Rattle.rap_grammar_table.specs.Category.{Ty, PlainTy, TyBeforePlus, SymbolTy, GenericParam, Predicate}
use Rattle.rap_grammar_table.specs.SharedRows.{attrs, macro_call, plain_path, constant, constant_path, lifetime, name, name_ref, path_names}
use Rattle.rap_grammar_table.specs.Known.{Place}
use Rattle.rap_grammar_table.specs.Notation.{Part, ◌⊳◌, t, c, node, opt, either, commas, until, alone, guard, guard_before, each_under, of_kinds}
use Rattle.rap_grammar_table.specs.TypeRows.{bound_list, bounded, for_binder, named_paths, opt_args}

-- The colon of bounds, and these. There may be none; then what follows them comes behind the colon.
abbrev pub bounds_end : List (List Place)
bounds_end = (of_kinds (COMMA ∷ L_CURLY ∷ SEMICOLON ∷ EQ ∷ R_ANGLE ∷ []) ∷ []) ∷ []

abbrev pub colon_bounds : Part
colon_bounds = t COLON ⊳ guard_before bounds_end (next_is COLON) ⊳ bound_list

-- a name that is bound to a type or a constant, or has bounds
abbrev pub assoc_args : List Part
assoc_args =
    node ASSOC_TYPE_ARG (name_ref (IDENT ∷ []) ⊳ opt_args ⊳ t EQ ⊳ either (c Ty) constant)
    ∷ node ASSOC_TYPE_ARG (name_ref (IDENT ∷ []) ⊳ opt_args ⊳ colon_bounds)
    ∷ []

-- the types that are paths, and these before bounds
abbrev pub bounded_each : List Part → List Part
bounded_each [] = []
bounded_each (a ∷ more) = bounded (node PATH_TYPE a) ∷ bounded_each more

abbrev pub named_types : List Part
named_types =
    each_under PATH_TYPE (named_paths PlainTy path_names) ++ bounded_each (named_paths TyBeforePlus path_names)

abbrev pub argument_rows : List Part
argument_rows =
    node LIFETIME_ARG lifetime ∷ constant ∷ node TYPE_ARG (c SymbolTy) ∷ node TYPE_ARG (node MACRO_TYPE (macro_call plain_path)) ∷
    (assoc_args ++ each_under TYPE_ARG named_types)

-- generic parameters
abbrev pub lifetime_bounds : Part
lifetime_bounds =
    node TYPE_BOUND_LIST
    (until (alone (node TYPE_BOUND (alone lifetime)) ⊳ t PLUS) (alone (opt (node TYPE_BOUND (alone lifetime)))))

abbrev pub param_rows : List Part
param_rows =
    node LIFETIME_PARAM (attrs ⊳ lifetime ⊳ opt (t COLON ⊳ lifetime_bounds))
    ∷ node TYPE_PARAM (attrs ⊳ name ⊳ alone (opt colon_bounds) ⊳ alone (opt (t EQ ⊳ c Ty)))
    ∷ node CONST_PARAM
    (attrs ⊳ t CONST_KW ⊳ name ⊳ t COLON ⊳ c Ty ⊳ alone (opt (t EQ ⊳ either constant constant_path)))
    ∷ []

abbrev pub generics_rows : List Part
generics_rows = node GENERIC_PARAM_LIST (t L_ANGLE ⊳ commas (c GenericParam) ⊳ t R_ANGLE) ∷ []

-- What a `where` says: of a lifetime, or of a type, with parameters after a `for` or without them.
abbrev pub predicate_rows : List Part
predicate_rows =
    node WHERE_PRED (lifetime ⊳ alone colon_bounds)
    ∷ node WHERE_PRED (for_binder ⊳ c Ty ⊳ colon_bounds)
    ∷ node WHERE_PRED
    (guard (next_so (one_of (LIFETIME_IDENT ∷ IMPL_KW ∷ FOR_KW ∷ []))) ⊳ c Ty ⊳ colon_bounds)
    ∷ []

abbrev pub where_rows : List Part
where_rows = node WHERE_CLAUSE (t WHERE_KW ⊳ opt (until (c Predicate ⊳ t COMMA) (c Predicate ⊳ opt (t COMMA)))) ∷ []
