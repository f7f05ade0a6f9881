use Rattle.std.proofs.Common.{sym, ◌∙◌, arith}
use Rattle.rap_events.proofs.Columns.{reads, reads_past}
use Rattle.rap_events.proofs.input.Input.edition.Goals as goal

pub edition-requires : goal.edition-requires
edition-requires c = λ used. omega (arith, c.self.invariant.0.room, c.self.invariant.0.editions used)

pub returns-then-index-self : goal.returns-then-index-self
returns-then-index-self c =
    rw (← c.self.view_is) (c.edition.ensures ∙ sym (reads c.self.inside.columns c.self.inside.len c.args.index c.if-index-self.true).edition)

pub returns-else-index-self : goal.returns-else-index-self
returns-else-index-self c =
    rw (← c.self.view_is) (sym (reads_past c.self.inside.columns c.self.inside.len c.args.index c.if-index-self.false).edition)
