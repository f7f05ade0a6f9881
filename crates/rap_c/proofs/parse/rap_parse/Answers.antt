use Rattle.std.proofs.Common.{◌≢◌}
use Rattle.rap_c.specs.Given.{IsUntouched}
use Rattle.rap_c.specs.Parsed.{IsParse, ComesOfParse}
use Rattle.rap_c.proofs.Settled.{refused_past, one_output}
use Rattle.rap_c.proofs.parse.rap_parse.Goals as goal

pub returns-clause-refused : goal.returns-clause-refused
returns-clause-refused c =
    refused_past (IsParse c.args.rows.now c.args.entry c.args.steps.now c.parse.new.steps c.args.messages.now c.parse.new.messages) (ComesOfParse c.args.rows.now c.args.entry)
    (IsUntouched c.args.steps.now c.parse.new.steps c.args.messages.now c.parse.new.messages) (λ n. n ≢ 0) c.parse.result c.settle.result
    (λ a good h. h (one_output good.filled.output a.status good.filled.is.status good.filled.made.tree.one))
    c.settle.ensures c.parse.ensures.filled c.parse.ensures.fault c.parse.ensures.untouched
