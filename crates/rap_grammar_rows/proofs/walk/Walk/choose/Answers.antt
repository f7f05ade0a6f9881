use Rattle.rap_grammar_rows.proofs.Leads.{first_leads, second_leads}
use Rattle.rap_grammar_rows.proofs.walk.Walk.choose.Goals as goal

pub returns-then-way-eq0 : goal.returns-then-way-eq0
returns-then-way-eq0 c tokens end =
    first_leads tokens end c.args.self.now.place c.args.first c.args.second c.args.next c.args.self.now.shape
    c.args.self.now.frames.items c.put.new.frames.items c.args.self.now.at c.requires c.in_ok-put.ensures

pub returns-else-way-eq0 : goal.returns-else-way-eq0
returns-else-way-eq0 c tokens end =
    second_leads tokens end c.args.self.now.place c.args.first c.args.second c.args.next c.args.self.now.shape
    c.args.self.now.frames.items c.put.new.frames.items c.args.self.now.at c.requires c.in_ok-put.ensures
