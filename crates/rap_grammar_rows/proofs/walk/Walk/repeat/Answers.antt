use Rattle.std.proofs.Common.{ap}
use Rattle.rap_grammar_rows.proofs.FactLeads.{went, by_turns}
use Rattle.rap_grammar_rows.specs.Claims.{point}
use Rattle.rap_grammar_rows.specs.declared.shape.Shape.TheVariants.{Any}
use Rattle.rap_grammar_rows.proofs.walk.Walk.repeat.Goals as goal

pub returns : goal.returns
returns c =
    went c.args.input.now c.args.end (point c.args.self.now.place c.args.self.now.shape c.args.self.now.frames.items c.args.self.now.at)
    c.args.next c.go_on.new.self.place Any c.go_on.new.self.shape c.args.self.now.frames.items
    c.go_on.new.self.frames.items c.args.fact.end c.go_on.new.self.at
    (by_turns c.args.input.now c.args.end c.args.self.now.place c.args.next c.args.parts.0 c.args.parts.1 c.in-Turns.turn c.in-Turns.last c.args.self.now.shape c.args.self.now.frames.items c.args.self.now.at c.args.fact c.requires.here c.requires.holds c.in-Turns.is c.if-turn-parts.false c.if-last-parts.false c.if-fact-self.false)
    c.go_on.ensures.place c.go_on.ensures.shape (ap (λ v. v.items) c.go_on.ensures.frames) c.go_on.ensures.at
