use Rattle.std.proofs.Common.{length, sym, ap, ◌∙◌}
use Rattle.rap_events.proofs.Columns.{length-records}
use Rattle.rap_events.proofs.input.Input.len.Goals as goal

pub returns-clause-len : goal.returns-clause-len
returns-clause-len c = sym (length-records c.self.inside.columns c.self.inside.len) ∙ ap length c.self.view_is
