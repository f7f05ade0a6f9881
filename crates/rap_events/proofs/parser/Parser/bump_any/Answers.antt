use Rattle.rap_events.specs.State.{state}
use Rattle.rap_events.proofs.Composites.{reads_as_own}
use Rattle.rap_events.proofs.parser.Parser.bump_any.Goals as goal

pub bump_remap-requires : goal.bump_remap-requires
bump_remap-requires c = rw c.current-kind.ensures.kind (reads_as_own (state c.args.self.now).rest c.requires)
