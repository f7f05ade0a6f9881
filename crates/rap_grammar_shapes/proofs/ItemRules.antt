-- Items keep to what they bring, whatever ends them and wherever they stand.
use Rattle.std.proofs.Common.{Bool, true, false, refl}
use Rattle.rap_grammar_scripts.specs.declared.rule.Rule.TheVariants as knot
use Rattle.rap_grammar_scripts.proofs.Scripts.{scripts}
use Rattle.rap_grammar_table.proofs.Tests.{tests}
use Rattle.rap_grammar_shapes.proofs.Small.{Keeps}

pub item_keeps : (a : Bool) (b : Bool) → Keeps (knot.ItemOrMacro a b)
unfolding scripts tests
item_keeps true true = refl
item_keeps true false = refl
item_keeps false true = refl
item_keeps false false = refl
