use Rattle.std.proofs.Common.{◌∙◌}
use Rattle.rap_events.specs.State.{state}
use Rattle.rap_events.proofs.Records.{edition_at-drop}
use Rattle.rap_events.proofs.parser.Parser.current_edition.Goals as goal

pub returns : goal.returns
unfolding state
returns c = c.edition.ensures ∙ edition_at-drop c.args.self.now.input.now c.args.self.now.pos
