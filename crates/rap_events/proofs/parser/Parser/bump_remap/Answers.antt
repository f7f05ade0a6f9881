use Rattle.rap_events.specs.State.{state}
use Rattle.rap_events.proofs.Composites.{reads_as_within}
use Rattle.rap_events.proofs.parser.Parser.bump_remap.Goals as goal

pub take-requires-clause-within : goal.take-requires-clause-within
unfolding state
take-requires-clause-within c = reads_as_within (state c.args.self.now).rest c.args.kind c.requires
