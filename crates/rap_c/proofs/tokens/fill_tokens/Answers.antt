use Rattle.std.proofs.Common.{rules, ap}
use Rattle.rap_c.specs.declared.answer.RapAnswer.{RapAnswer}
use Rattle.rap_c.proofs.GivenBy.{given_back, then}
use Rattle.rap_c.proofs.tokens.fill_tokens.Goals as goal

pub returns-clause-filled : goal.returns-clause-filled
returns-clause-filled c =
    let added = then _ _ c.new-filler.result c.add_tokens.new.self c.add_errors_of.new.self c.add_tokens.ensures c.add_errors_of.ensures in
    record {
      lexed = c.in_ok-lexed.lexed;
      lexing = c.in_ok-lexed.ensures.lexing.0;
      small = c.in_ok-lexed.ensures.lexing.1;
      given = given_back _ c.args.steps.now _ c.args.messages.now _ c.new-filler.result c.add_errors_of.new.self 0 _ _ c.new-filler.ensures.start
          added (search (rules, added.same.steps)) (search (rules, added.same.messages)) c.answer.ensures;
      status = ap (λ (a : RapAnswer). a.status) c.answer.ensures;
      used = ap (λ (a : RapAnswer). a.used) c.answer.ensures;
    }
