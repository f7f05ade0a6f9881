use Rattle.std.proofs.Common.{◌<◌}
use Rattle.rap_events.specs.Forest.{one_tree}
use Rattle.rap_c.proofs.SettledNodes.{list_refused, low_list}
use Rattle.rap_c.proofs.reparse_nodes.rap_reparse_nodes.Goals as goal

pub returns-clause-refused : goal.returns-clause-refused
returns-clause-refused c =
    list_refused _ _ _ (λ n. 1 < n) c.reparse_nodes.result c.settle_nodes.result
    (λ a g high. low_list (one_tree g.filled.output) g.filled.lexed.tokens g.filled.output _ _ a g.filled.is high)
    c.settle_nodes.ensures c.reparse_nodes.ensures.filled c.reparse_nodes.ensures.fault c.reparse_nodes.ensures.untouched
