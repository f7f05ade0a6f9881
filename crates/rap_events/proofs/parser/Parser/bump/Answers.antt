use Rattle.rap_events.specs.State.{state}
use Rattle.rap_events.proofs.Composites.{fits}
use Rattle.rap_events.proofs.parser.Parser.bump.Goals as goal

pub take-requires-clause-within : goal.take-requires-clause-within
unfolding state
take-requires-clause-within c = rw c.width_of-n_input_tokens.ensures (fits c.args.kind (state c.args.self.now).rest c.requires.some c.requires.here).within

pub take-requires-clause-stands : goal.take-requires-clause-stands
take-requires-clause-stands c = rw c.width_of-n_input_tokens.ensures (fits c.args.kind (state c.args.self.now).rest c.requires.some c.requires.here).stands
