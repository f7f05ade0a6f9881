use Rattle.std.proofs.Common.{◌≡◌, ℕ, ◌==◌, sym, ap, ◌∙◌, List}
use Rattle.rap_events.specs.Record.{Record, contextual_at}
use Rattle.rap_events.specs.State.{state}
use Rattle.rap_events.proofs.Records.{contextual_at-drop}
use Rattle.rap_events.proofs.parser.Parser.nth_at_contextual_kw.Goals as goal

pub returns : goal.returns
returns c =
    let s = c.args.self.now in
    let e : c.contextual_kind.result ≡ contextual_at (state s).rest c.args.n =
    c.contextual_kind.ensures.contextual ∙ contextual_at-drop s.input.now c.ahead.result ∙ ap (λ (rs : List Record). contextual_at rs 0) c.ahead.ensures ∙ sym (contextual_at-drop (state s).rest c.args.n) in
    c.eq.ensures ∙ ap (λ (k : ℕ). k == c.args.kw) e
