use Rattle.std.proofs.Common.{refl}
use Rattle.rap_events.specs.State.{state, calls}
use Rattle.rap_events.proofs.parser.Parser.new.Goals as goal

pub returns-clause-state : goal.returns-clause-state
unfolding state calls
returns-clause-state c = rw c.«new».ensures.items refl

pub returns-clause-calls : goal.returns-clause-calls
unfolding calls
returns-clause-calls c = rw c.«new».ensures.items refl
