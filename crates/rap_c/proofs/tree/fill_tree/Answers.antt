use Rattle.std.proofs.Common.{rules, ap}
use Rattle.rap_c.specs.declared.answer.RapAnswer.{RapAnswer}
use Rattle.rap_c.proofs.Counts.{few_items}
use Rattle.rap_c.proofs.GivenBy.{given_back, along, then}
use Rattle.rap_c.proofs.tree.fill_tree.Goals as goal

pub returns-in-Ok-clause-filled : goal.returns-in-Ok-clause-filled
returns-in-Ok-clause-filled c =
    let h = c.in-Ok.ensures.parsed in
    let added = then _ _ c.new-filler.result c.parse_text.new.sink c.add_errors_of.new.self (along _ c.new-filler.result c.parse_text.new.sink h.taken) c.add_errors_of.ensures in
    let given = given_back _ c.args.steps.now _ c.args.messages.now _ c.new-filler.result c.add_errors_of.new.self 0 _ _ c.new-filler.ensures.start
    added (search (rules, added.same.steps)) (search (rules, added.same.messages)) c.answer.ensures in
    record {
      lexed = c.in-Ok.parsed.lexed;
      forest = h.forest;
      parsed = h.parsed;
      whole = h.whole;
      given = given;
      status = ap (λ (a : RapAnswer). a.status) c.answer.ensures;
      used = ap (λ (a : RapAnswer). a.used) c.answer.ensures;
      few = few_items c.args.text.now c.args.edition c.args.entry c.in-Ok.parsed.lexed h.forest _ h.parsed c.len-count.ensures.tokens given.count;
    }
