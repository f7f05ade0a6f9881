use Rattle.std.proofs.Common.{◌<◌}
use Rattle.rap_events.specs.Forest.{one_tree}
use Rattle.rap_c.specs.Given.{IsUntouched}
use Rattle.rap_c.specs.Parsed.{IsParseNode, ComesOfParseNode}
use Rattle.rap_c.specs.Reparse.{asked_kind}
use Rattle.rap_c.proofs.Settled.{refused_past, low_output}
use Rattle.rap_c.proofs.parse_node.rap_parse_node.Goals as goal

pub returns-clause-refused : goal.returns-clause-refused
returns-clause-refused c =
    refused_past (IsParseNode c.args.rows.now (asked_kind c.args.node c.args.first_child c.args.parent) c.args.steps.now c.parse_node.new.steps c.args.messages.now c.parse_node.new.messages) (ComesOfParseNode c.args.rows.now (asked_kind c.args.node c.args.first_child c.args.parent))
    (IsUntouched c.args.steps.now c.parse_node.new.steps c.args.messages.now c.parse_node.new.messages) (λ n. 1 < n) c.parse_node.result c.settle.result
    (λ a good h. low_output (one_tree good.filled.output) a.status good.filled.is.status h)
    c.settle.ensures c.parse_node.ensures.filled c.parse_node.ensures.fault c.parse_node.ensures.untouched
