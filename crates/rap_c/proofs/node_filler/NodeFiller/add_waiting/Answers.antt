use Rattle.std.proofs.Common.{arith}
use Rattle.rap_c.proofs.Laid.{nothing_waits}
use Rattle.rap_c.proofs.node_filler.NodeFiller.add_waiting.Goals as goal

pub returns-then-self : goal.returns-then-self
returns-then-self c = nothing_waits c.args.start c.args.end c.args.self.now (omega arith)
