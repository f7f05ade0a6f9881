use Rattle.std.proofs.Common.{length-drop, arith}
use Rattle.rap_events.specs.State.{state}
use Rattle.rap_events.proofs.parser.Parser.left.Goals as goal

pub returns : goal.returns
unfolding state
returns c = let p = c.args.self.now in omega (arith, p.ends, length-drop p.pos p.input.now)
