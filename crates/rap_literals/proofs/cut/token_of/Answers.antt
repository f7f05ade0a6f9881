use Rattle.std.proofs.Common.{length, sym, ◌∙◌}
use Rattle.std.proofs.lemmas.Bool.{eqb-true}
use Rattle.rap_literals.proofs.Cuts.{none_of_empty, whole_token, no_whole}
use Rattle.rap_literals.proofs.cut.token_of.Goals as goal

pub returns-then-is_empty : goal.returns-then-is_empty
returns-then-is_empty c = λ token. none_of_empty c.args.text.now token (eqb-true (length c.args.text.now) 0 (sym c.is_empty.ensures ∙ c.if-is_empty.true))

pub returns-then-len-text : goal.returns-then-len-text
returns-then-len-text c = whole_token c.args.text.now _ c.first_token-token.result.1 c.first_token-token.ensures.token c.if-len-text.true

pub returns-else-len-text : goal.returns-else-len-text
returns-else-len-text c = no_whole c.args.text.now _ c.first_token-token.result.1 c.first_token-token.ensures.token c.utf8.text c.first_token-token.ensures.border c.if-len-text.false
