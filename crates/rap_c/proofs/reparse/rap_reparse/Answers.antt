use Rattle.rap_c.proofs.Settled.{node_refused}
use Rattle.rap_c.proofs.reparse.rap_reparse.Goals as goal

pub returns-clause-refused : goal.returns-clause-refused
returns-clause-refused c =
    node_refused c.args.text.now c.args.edition _ c.args.steps.now c.reparse.new.steps c.args.messages.now c.reparse.new.messages c.reparse.result c.settle.result
    c.settle.ensures c.reparse.ensures.filled c.reparse.ensures.fault c.reparse.ensures.untouched
