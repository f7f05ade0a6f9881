use Rattle.std.proofs.Common.{rules}
use Rattle.rap_grammar_rows.proofs.Leads.{guard_leads}
use Rattle.rap_grammar_rows.specs.Claims.{IsRefused}
use Rattle.rap_grammar_rows.proofs.walk.Walk.guard.Goals as goal

pub returns : goal.returns
returns c =
    let there : IsRefused c.args.guard c.args.input.now c.args.self.now.at c.args.end = search rules in
    guard_leads c.args.input.now c.args.end c.args.self.now.place c.args.guard c.args.next c.args.self.now.shape
    c.args.self.now.frames.items c.args.self.now.at c.requires there
