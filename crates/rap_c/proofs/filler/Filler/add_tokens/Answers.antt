use Rattle.std.proofs.Common.{rules, ◌∙◌}
use Rattle.rap_c.proofs.Put.{token_on, same_trans}
use Rattle.rap_c.proofs.filler.Filler.add_tokens.Goals as goal

pub tokens-preserved : goal.tokens-preserved
tokens-preserved c = record {
  is = token_on c.args.lexed.now.tokens c.tokens.i _ _ c.tokens.self c.put.new.self _ (search rules) (c.kind_number.ensures ∙ c.kind.ensures.kind) c.text_len.ensures c.put.ensures c.tokens.invariant.is;
  same = same_trans c.args.self.now c.tokens.self c.put.new.self c.tokens.invariant.same c.put.ensures.same;
}
