-- The rules of types keep to what they bring.
use Rattle.std.proofs.Common.{true, false, refl}
use Rattle.rap_grammar_scripts.specs.declared.rule.Rule.TheVariants as knot
use Rattle.rap_grammar_scripts.proofs.Scripts.{scripts}
use Rattle.rap_grammar_table.proofs.Tests.{tests}
use Rattle.rap_grammar_shapes.proofs.Small.{Keeps}

pub type_with_bounds_keeps : Keeps (knot.TypeWithBoundsCond true)
unfolding scripts tests
type_with_bounds_keeps = refl

pub type_without_bounds_keeps : Keeps (knot.TypeWithBoundsCond false)
unfolding scripts tests
type_without_bounds_keeps = refl

pub path_type_bounds_keeps : Keeps knot.PathTypeBounds
unfolding scripts tests
path_type_bounds_keeps = refl
