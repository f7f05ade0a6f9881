use Rattle.rap_events.proofs.Truth.{and_false}
use Rattle.rap_grammar_ends.specs.Dots.{dots_inside}
use Rattle.rap_grammar_ends.proofs.DotsInNodes.{in_nodes}
use Rattle.rap_grammar_ends.proofs.laws.dots_stand_in_nodes.Goals as goal

pub returns-clause-inside : goal.returns-clause-inside
returns-clause-inside c = λ tree children place kind h n e. in_nodes n h e

pub returns-clause-seen : goal.returns-clause-seen
returns-clause-seen c = λ before children kind. and_false (dots_inside before)
