use Rattle.std.proofs.Common.{◌≡◌, sym, ◌∙◌, ltb, false}
use Rattle.std.proofs.lemmas.Bool.{le-ltb}
use Rattle.rap_events.proofs.Columns.{reads, reads_past}
use Rattle.rap_events.proofs.input.Input.is_joint.Goals as goal

pub returns-then-index-self : goal.returns-then-index-self
returns-then-index-self c =
    rw (← c.self.view_is) (c.is_joint.ensures ∙ sym (reads c.self.inside.columns c.self.inside.len c.args.index c.if-index-self.true).joint)

pub returns-else-index-self : goal.returns-else-index-self
returns-else-index-self c =
    let no : ltb c.args.index c.self.inside.len ≡ false = le-ltb c.args.index c.self.inside.len c.if-index-self.false in
    no ∙ rw (← c.self.view_is) (sym (reads_past c.self.inside.columns c.self.inside.len c.args.index c.if-index-self.false).joint)
