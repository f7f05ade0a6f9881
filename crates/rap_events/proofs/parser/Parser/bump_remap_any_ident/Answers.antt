use Rattle.rap_events.specs.State.{state}
use Rattle.rap_events.proofs.Composites.{reads_as_ident}
use Rattle.rap_events.proofs.parser.Parser.bump_remap_any_ident.Goals as goal

pub bump_remap-requires : goal.bump_remap-requires
bump_remap-requires c = reads_as_ident (state c.args.self.now).rest c.requires
