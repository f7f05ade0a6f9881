use Rattle.std.proofs.Common.{◌<◌}
use Rattle.rap_events.specs.Forest.{one_tree}
use Rattle.rap_c.specs.Given.{IsUntouched}
use Rattle.rap_c.specs.Parsed.{IsParsePrefix, ComesOfParsePrefix}
use Rattle.rap_c.proofs.Settled.{refused_past, low_output}
use Rattle.rap_c.proofs.parse_prefix.rap_parse_prefix.Goals as goal

pub returns-clause-refused : goal.returns-clause-refused
returns-clause-refused c =
    refused_past (IsParsePrefix c.args.rows.now c.args.entry c.args.steps.now c.parse_prefix.new.steps c.args.messages.now c.parse_prefix.new.messages) (ComesOfParsePrefix c.args.rows.now c.args.entry)
    (IsUntouched c.args.steps.now c.parse_prefix.new.steps c.args.messages.now c.parse_prefix.new.messages) (λ n. 1 < n) c.parse_prefix.result c.settle.result
    (λ a good h. low_output (one_tree good.filled.output) a.status good.filled.is.status h)
    c.settle.ensures c.parse_prefix.ensures.filled c.parse_prefix.ensures.fault c.parse_prefix.ensures.untouched
