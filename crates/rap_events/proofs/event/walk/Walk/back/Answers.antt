use Rattle.rap_events.proofs.Backing.{event_back}
use Rattle.rap_events.proofs.event.walk.Walk.back.Goals as goal

pub returns : goal.returns
returns c = event_back c.take_event-word.result c.args.self.now c.take_event-word.new.self c.read.new.self c.take_event-word.ensures c.in_ok-read.ensures
