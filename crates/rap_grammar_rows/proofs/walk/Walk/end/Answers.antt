use Rattle.rap_grammar_rows.proofs.Leads.{done_from}
use Rattle.rap_grammar_rows.proofs.walk.Walk.end.Goals as goal

pub returns-then-self-end : goal.returns-then-self-end
returns-then-self-end c =
    done_from c.args.input.now c.args.self.now.place c.args.self.now.shape c.args.self.now.frames.items
    c.args.self.now.at c.args.end c.requires c.in-None.ensures c.if-self-end.true
