use Rattle.std.proofs.Common.{rules, ap, ◌∙◌}
use Rattle.rap_c.specs.declared.answer.RapAnswer.{RapAnswer}
use Rattle.rap_c.proofs.GivenBy.{given_back}
use Rattle.rap_c.proofs.parse.fill_raw.Goals as goal

pub returns : goal.returns
returns c = record {
  given = given_back _ c.args.steps.now _ c.args.messages.now _ c.new-filler.result c.add_output.new.self c.status_of-status.result c.used_tokens-used.result _ c.new-filler.ensures.start
      c.add_output.ensures (search rules) (search rules) c.answer.ensures;
  status = ap (λ (a : RapAnswer). a.status) c.answer.ensures ∙ c.status_of-status.ensures;
  used_is = ap (λ (a : RapAnswer). a.used) c.answer.ensures ∙ c.used_tokens-used.ensures;
}
