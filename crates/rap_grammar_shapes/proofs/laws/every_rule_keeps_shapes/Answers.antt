use Rattle.rap_grammar_shapes.proofs.AllRules.{rules_keep}
use Rattle.rap_grammar_shapes.proofs.laws.every_rule_keeps_shapes.Goals as goal

pub returns : goal.returns
returns c = record { shapes = rules_keep }
