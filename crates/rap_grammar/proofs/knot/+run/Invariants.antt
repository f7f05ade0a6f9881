use Rattle.std.proofs.Common.{◌+◌, ◌*◌}
use Rattle.rap_events.specs.State.{state}
use Rattle.rap_grammar.proofs.knot.+run.Given as goal

abbrev pub decreases-run_brief : goal.decreases-run_brief
decreases-run_brief l = (state l.p.now).left * 2

abbrev pub decreases-call : goal.decreases-call
decreases-call l = (state l.q.now).left * 2 + 1
