-- The rules of patterns keep to what they bring.
use Rattle.std.proofs.Common.{refl}
use Rattle.rap_grammar_scripts.specs.declared.rule.Rule.TheVariants as knot
use Rattle.rap_grammar_scripts.proofs.Scripts.{scripts}
use Rattle.rap_grammar_table.proofs.Tests.{tests}
use Rattle.rap_grammar_shapes.proofs.Small.{Keeps}

pub pattern_keeps : Keeps knot.Pattern
unfolding scripts tests
pattern_keeps = refl

pub pattern_single_keeps : Keeps knot.PatternSingle
unfolding scripts tests
pattern_single_keeps = refl

pub arm_pattern_keeps : Keeps knot.ArmPattern
unfolding scripts tests
arm_pattern_keeps = refl
