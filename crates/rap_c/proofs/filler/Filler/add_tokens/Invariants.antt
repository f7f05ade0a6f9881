use Rattle.std.proofs.Common.{◌≡◌, drop}
use Rattle.rap_c.specs.Filling.{after_all}
use Rattle.rap_c.specs.Fills.{filling_of, IsSame}
use Rattle.rap_c.specs.Item.{token_items}
use Rattle.rap_c.proofs.filler.Filler.add_tokens.Given as goal

abbrev pub invariant-tokens : goal.invariant-tokens
invariant-tokens l = record {
  is : after_all (filling_of l.self) (token_items (drop l.i l.fn.lexed.tokens)) ≡ after_all (filling_of l.fn.self) (token_items l.fn.lexed.tokens);
  same : IsSame l.fn.self l.self;
}
