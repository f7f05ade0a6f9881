use Rattle.std.proofs.Common.{ap}
use Rattle.rap_grammar_rows.proofs.FactLeads.{went}
use Rattle.rap_grammar_rows.proofs.Leads.{piece_leads}
use Rattle.rap_grammar_rows.specs.Claims.{point}
use Rattle.rap_grammar_rows.specs.declared.shape.Shape.TheVariants.{Any}
use Rattle.rap_grammar_table.specs.Table.{comp}
use Rattle.rap_grammar_rows.proofs.walk.Walk.operator.Goals as goal

pub returns : goal.returns
returns c =
    went c.args.input.now c.args.end (point c.args.self.now.place c.args.self.now.shape c.args.self.now.frames.items c.args.self.now.at)
    c.args.next c.go_on.new.self.place Any c.go_on.new.self.shape c.args.self.now.frames.items
    c.go_on.new.self.frames.items c.in-Some.to c.go_on.new.self.at
    (piece_leads c.args.input.now c.args.end c.args.self.now.place c.args.next (comp c.args.kind) c.args.self.now.shape Any c.args.self.now.frames.items c.args.self.now.at c.in-Some.to c.requires c.in-Some.ensures)
    c.go_on.ensures.place c.go_on.ensures.shape (ap (λ v. v.items) c.go_on.ensures.frames) c.go_on.ensures.at
