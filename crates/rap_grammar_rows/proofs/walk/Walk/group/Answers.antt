use Rattle.std.proofs.Common.{ap, ◌∙◌}
use Rattle.rap_grammar_rows.proofs.FactLeads.{went, by_row}
use Rattle.rap_grammar_rows.specs.Claims.{point, joined}
use Rattle.rap_grammar_rows.proofs.walk.Walk.group.Goals as goal

pub returns : goal.returns
returns c =
    went c.args.input.now c.args.end (point c.args.self.now.place c.args.self.now.shape c.args.self.now.frames.items c.args.self.now.at)
    c.args.next c.go_on.new.self.place (joined c.args.self.now.shape c.in-Row.shape) c.go_on.new.self.shape c.args.self.now.frames.items
    c.go_on.new.self.frames.items c.args.fact.end c.go_on.new.self.at
    (by_row c.args.input.now c.args.end c.args.self.now.place c.args.next c.args.part c.in-Row.place c.args.self.now.shape c.in-Row.shape c.args.self.now.frames.items c.args.self.now.at c.args.fact c.requires.here c.requires.holds c.in-Row.is c.if-place-part.false c.if-fact-self.false)
    c.go_on.ensures.place (c.go_on.ensures.shape ∙ c.joined.ensures) (ap (λ v. v.items) c.go_on.ensures.frames) c.go_on.ensures.at
