use Rattle.std.proofs.Common.{sym, ◌∙◌, arith}
use Rattle.rap_events.proofs.Columns.{reads, reads_past, token_at}
use Rattle.rap_events.proofs.input.Input.kind.Goals as goal

pub kind-requires-clause-place : goal.kind-requires-clause-place
kind-requires-clause-place c = omega (arith, c.self.invariant.0.room, c.self.invariant.0.codes)

pub kind-requires-clause-token : goal.kind-requires-clause-token
kind-requires-clause-token c = token_at c.self.inside.columns c.self.inside.len c.args.index c.self.invariant.1 c.if-index-self.true

pub returns-then-index-self : goal.returns-then-index-self
returns-then-index-self c =
    rw (← c.self.view_is) (c.kind.ensures ∙ sym (reads c.self.inside.columns c.self.inside.len c.args.index c.if-index-self.true).kind)

pub returns-else-index-self : goal.returns-else-index-self
returns-else-index-self c =
    rw (← c.self.view_is) (sym (reads_past c.self.inside.columns c.self.inside.len c.args.index c.if-index-self.false).kind)
