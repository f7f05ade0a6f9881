use Rattle.rap_grammar_rows.proofs.Leads.{start_leads}
use Rattle.rap_grammar_rows.proofs.walk.Walk.start.Goals as goal

pub returns : goal.returns
returns c tokens end =
    start_leads tokens end c.args.self.now.place c.args.next c.args.self.now.shape c.args.self.now.frames.items
    c.put.new.frames.items c.args.self.now.at c.requires c.in_ok-put.ensures
