use Rattle.std.proofs.Common.{refl}
use Rattle.rap_grammar_rows.proofs.FactLeads.{went}
use Rattle.rap_grammar_rows.proofs.Leads.{close_leads}
use Rattle.rap_grammar_rows.specs.Claims.{point, closed}
use Rattle.rap_grammar_rows.proofs.walk.Walk.close.Goals as goal

pub returns : goal.returns
returns c =
    went c.args.input.now c.args.end (point c.args.self.now.place c.args.self.now.shape c.args.self.now.frames.items c.args.self.now.at)
    c.args.next c.args.next (closed c.in-Some-Opened.outer) c.closed-self.result c.take_newest.new.frames.items c.take_newest.new.frames.items
    c.args.self.now.at c.args.self.now.at
    (close_leads c.args.input.now c.args.end c.args.self.now.place c.args.next c.args.kind c.args.self.now.shape c.in-Some-Opened.outer c.args.self.now.frames.items c.take_newest.new.frames.items c.args.self.now.at c.requires (rw c.in-Some-Opened.field-0-is at c.in-Some-Opened.ensures))
    refl c.closed-self.ensures refl refl
