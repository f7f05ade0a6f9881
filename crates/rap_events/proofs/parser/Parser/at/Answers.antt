use Rattle.rap_events.specs.State.{state}
use Rattle.rap_events.proofs.parser.Parser.at.Goals as goal

pub returns : goal.returns
unfolding state
returns c = c.at_place.ensures
