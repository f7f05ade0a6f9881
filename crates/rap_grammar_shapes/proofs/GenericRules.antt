-- The rules of generic arguments, parameters and bounds keep to what they bring.
use Rattle.std.proofs.Common.{refl}
use Rattle.rap_grammar_scripts.specs.declared.rule.Rule.TheVariants as knot
use Rattle.rap_grammar_scripts.proofs.Scripts.{scripts}
use Rattle.rap_grammar_table.proofs.Tests.{tests}
use Rattle.rap_grammar_shapes.proofs.Small.{Keeps}

pub generic_arg_keeps : Keeps knot.GenericArg
unfolding scripts tests
generic_arg_keeps = refl

pub generic_param_list_keeps : Keeps knot.GenericParamList
unfolding scripts tests
generic_param_list_keeps = refl

pub bounds_keep : Keeps knot.BoundsWithoutColon
unfolding scripts tests
bounds_keep = refl

pub where_clause_keeps : Keeps knot.WhereClause
unfolding scripts tests
where_clause_keeps = refl
