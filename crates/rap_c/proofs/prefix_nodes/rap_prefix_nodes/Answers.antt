use Rattle.std.proofs.Common.{◌<◌}
use Rattle.rap_events.specs.Forest.{one_tree}
use Rattle.rap_c.proofs.SettledNodes.{list_refused, low_list}
use Rattle.rap_c.proofs.prefix_nodes.rap_prefix_nodes.Goals as goal

pub returns-clause-refused : goal.returns-clause-refused
returns-clause-refused c =
    list_refused _ _ _ (λ n. 1 < n) c.prefix_nodes.result c.settle_nodes.result
    (λ a g high. low_list (one_tree g.filled.output) g.filled.lexed.tokens g.filled.output _ _ a g.filled.is high)
    c.settle_nodes.ensures c.prefix_nodes.ensures.filled c.prefix_nodes.ensures.fault c.prefix_nodes.ensures.untouched
