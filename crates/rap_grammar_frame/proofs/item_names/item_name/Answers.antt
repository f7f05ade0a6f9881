use Rattle.std.proofs.Common.{rules}
use Rattle.rap_grammar_scripts.specs.Recovery.{is_item_recovery}
use Rattle.rap_grammar_scripts.specs.Names.{name_r}
use Rattle.rap_grammar_frame.proofs.Steps.{then_by, to_end}
use Rattle.rap_grammar_frame.proofs.item_names.item_name.Goals as goal

pub returns-then-at-clause-script : goal.returns-then-at-clause-script
unfolding name_r
returns-then-at-clause-script c depth =
    then_by c.at.ensures c.if-at.true (to_end (c.in_ok-given_name.ensures.script _))

pub returns-clause-script : goal.returns-clause-script
returns-clause-script c depth = to_end ((c.in_ok-name_r.ensures.script _) is_item_recovery (search rules))
