use Rattle.std.proofs.Common.{sym, ap, ◌∙◌}
use Rattle.rap_events.specs.State.{state}
use Rattle.rap_events.specs.Record.{next_kind}
use Rattle.rap_events.proofs.Records.{kind_at-drop}
use Rattle.rap_events.proofs.parser.Parser.nth.Goals as goal

pub returns : goal.returns
returns c =
    let s = c.args.self.now in
    c.kind.ensures ∙ kind_at-drop s.input.now c.ahead.result ∙ ap next_kind c.ahead.ensures ∙ sym (kind_at-drop (state s).rest c.args.n)
