-- Generic arguments.
use Rattle.std.specs.Prelude.{ℕ, true, codes, [], ◌∷◌}
use Rattle.rap_base.specs.TokenKind.{LIFETIME_IDENT, PLUS, EQ, COLON, COLON2}
use Rattle.rap_base.specs.NodeKind.{LIFETIME_ARG, TYPE_ARG, ASSOC_TYPE_ARG, PATH_SEGMENT, PATH, MACRO_CALL, MACRO_TYPE, PATH_TYPE}
use Rattle.rap_grammar_scripts.specs.Test.{Test, comes, negated, also}
use Rattle.rap_grammar_scripts.specs.ThroughKnot.{type_}
use Rattle.rap_grammar_scripts.specs.ConstArgs.{const_arg}
use Rattle.rap_grammar_scripts.specs.First.{is_path_name, is_type_first, is_const_arg_first, starts_weak_dyn}
use Rattle.rap_grammar_scripts.specs.GenericParams.{bounds}
use Rattle.rap_grammar_scripts.specs.Names.{name_ref_mod_path, lifetime}
use Rattle.rap_grammar_scripts.specs.TokenTree.{macro_call_after_excl, starts_macro_call}
use Rattle.rap_grammar_scripts.specs.Paths.{opt_path_type_args, type_path_for_qualifier}
use Rattle.rap_grammar_scripts.specs.declared.rule.Rule.{Rule}
use Rattle.rap_grammar_scripts.specs.Recovery.{is_generic_arg_recovery}
use Rattle.rap_grammar_scripts.specs.Script.{Script, test, any, report, start, precede, finish}
use Rattle.rap_grammar_scripts.specs.Types.{type_with_bounds_cond, opt_type_bounds_as_dyn_trait_type}
use Rattle.rap_grammar_scripts.specs.Words.{done, next_is, ◌▸◌, call, choose, next_so, is_at}

-- a lifetime that is no bound of a type
abbrev pub starts_lifetime_arg : Test
starts_lifetime_arg = also (next_is LIFETIME_IDENT) (negated (comes 1 PLUS))

-- a name that is no `dyn` of a type
abbrev pub starts_named_arg : Test
starts_named_arg = also (next_so is_path_name) (negated starts_weak_dyn)

-- the colon of bounds
abbrev pub starts_bounds : Test
starts_bounds = also (next_is COLON) (negated (is_at COLON2))

unfoldable pub lifetime_arg : Script Rule
lifetime_arg = start ▸ call lifetime ▸ finish LIFETIME_ARG ▸ done

unfoldable pub type_arg : Script Rule
type_arg = start ▸ call (type_with_bounds_cond true) ▸ finish TYPE_ARG ▸ done

-- what a name is bound to: a type or a constant, after the `=`
unfoldable pub assoc_value : Script Rule
assoc_value =
    choose
    ((next_so is_type_first, type_)
    ∷ (next_so is_generic_arg_recovery, report (codes "missing associated item binding") ▸ done)
    ∷ [])
    const_arg

-- bounds after a type of this kind, which is then an argument
unfoldable pub bounded_arg : ℕ → Script Rule
bounded_arg kind = call (opt_type_bounds_as_dyn_trait_type kind) ▸ precede ▸ finish TYPE_ARG ▸ done

unfoldable pub macro_arg : Script Rule
macro_arg = call macro_call_after_excl ▸ finish MACRO_CALL ▸ precede ▸ finish MACRO_TYPE ▸ bounded_arg MACRO_TYPE

-- a path from its first segment on, as a type, or a macro call
unfoldable pub path_arg : Script Rule
path_arg =
    precede ▸ finish PATH ▸ call type_path_for_qualifier ▸ precede ▸
    test starts_macro_call macro_arg (finish PATH_TYPE ▸ bounded_arg PATH_TYPE)

-- a name with its own arguments: bound to something by `=`, with bounds, or a path's first segment
unfoldable pub named_arg : Script Rule
named_arg =
    start ▸ call name_ref_mod_path ▸ call opt_path_type_args ▸
    choose
    ((next_is EQ, any ▸ call assoc_value ▸ finish ASSOC_TYPE_ARG ▸ done)
    ∷ (starts_bounds, call bounds ▸ finish ASSOC_TYPE_ARG ▸ done)
    ∷ [])
    (finish PATH_SEGMENT ▸ path_arg)

unfoldable pub generic_arg : Script Rule
generic_arg =
    choose
    ((starts_lifetime_arg, lifetime_arg)
    ∷ (next_so is_const_arg_first, const_arg)
    ∷ (starts_named_arg, named_arg)
    ∷ [])
    type_arg
