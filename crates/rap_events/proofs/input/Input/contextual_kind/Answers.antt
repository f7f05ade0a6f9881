use Rattle.std.proofs.Common.{◌≡◌, sym, ◌∙◌, arith}
use Rattle.rap_events.specs.Input.{records}
use Rattle.rap_events.specs.Record.{contextual_at}
use Rattle.rap_events.proofs.Columns.{reads, reads_past, token_at}
use Rattle.rap_events.proofs.Records.{identifier_at}
use Rattle.rap_events.proofs.input.Input.contextual_kind.Goals as goal

pub contextual_kind-requires-clause-place : goal.contextual_kind-requires-clause-place
contextual_kind-requires-clause-place c = omega (arith, c.self.invariant.0.room, c.self.invariant.0.codes)

pub contextual_kind-requires-clause-token : goal.contextual_kind-requires-clause-token
contextual_kind-requires-clause-token c = token_at c.self.inside.columns c.self.inside.len c.args.index c.self.invariant.1 c.if-index-self.true

pub returns-then-index-self-clause-contextual : goal.returns-then-index-self-clause-contextual
returns-then-index-self-clause-contextual c =
    rw (← c.self.view_is) (c.contextual_kind.ensures ∙ sym (reads c.self.inside.columns c.self.inside.len c.args.index c.if-index-self.true).contextual)

pub returns-then-index-self-clause-identifier : goal.returns-then-index-self-clause-identifier
returns-then-index-self-clause-identifier c =
    let here : contextual_at (records c.self.inside.columns c.self.inside.len) c.args.index ≡ c.contextual_kind.result =
    (reads c.self.inside.columns c.self.inside.len c.args.index c.if-index-self.true).contextual ∙ sym c.contextual_kind.ensures in
    rw (← c.self.view_is) (λ e. identifier_at (records c.self.inside.columns c.self.inside.len) c.args.index c.self.invariant.1 (rw here e))

pub returns-else-index-self-clause-contextual : goal.returns-else-index-self-clause-contextual
returns-else-index-self-clause-contextual c =
    rw (← c.self.view_is) (sym (reads_past c.self.inside.columns c.self.inside.len c.args.index c.if-index-self.false).contextual)
