use Rattle.std.proofs.Common.{sym, ap, ◌∙◌}
use Rattle.rap_grammar_rows.proofs.FactLeads.{went, by_fold}
use Rattle.rap_grammar_rows.specs.Claims.{point}
use Rattle.rap_grammar_rows.proofs.walk.Walk.fold.Goals as goal

pub returns : goal.returns
returns c =
    went c.args.input.now c.args.end (point c.args.self.now.place c.args.self.now.shape c.args.self.now.frames.items c.args.self.now.at)
    c.args.next c.go_on.new.self.place c.args.self.now.shape c.go_on.new.self.shape c.args.self.now.frames.items
    c.go_on.new.self.frames.items c.args.fact.end c.go_on.new.self.at
    (by_fold c.args.input.now c.args.end c.args.self.now.place c.args.next c.args.turns.0 c.args.turns.1 c.in-Fold.place c.in-Fold.number c.args.self.now.shape c.args.self.now.frames.items c.args.self.now.at c.args.fact c.requires.here c.requires.holds c.in-Fold.is c.if-place-turns.false c.if-number-turns.false c.if-fact-self.false (sym c.ends_in_node.ensures ∙ c.if-not-ends_in_node.false))
    c.go_on.ensures.place c.go_on.ensures.shape (ap (λ v. v.items) c.go_on.ensures.frames) c.go_on.ensures.at
