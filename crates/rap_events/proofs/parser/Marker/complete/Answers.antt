use Rattle.rap_events.specs.State.{state}
use Rattle.rap_events.proofs.Calls.{fit_of_plain}
use Rattle.rap_events.proofs.parser.Marker.complete.Goals as goal

pub complete_fit-requires-clause-fit : goal.complete_fit-requires-clause-fit
complete_fit-requires-clause-fit c = λ _. fit_of_plain c.args.kind (state c.args.p.now).forest c.requires.plain
