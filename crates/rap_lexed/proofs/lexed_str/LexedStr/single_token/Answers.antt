use Rattle.std.proofs.Common.{◌≡◌, [], List, ℕ, chars, drop, ap, ◌∙◌, subst}
use Rattle.std.proofs.lemmas.List.{drop_all}
use Rattle.std.proofs.lemmas.Str.{chars-nil}
use Rattle.rap_lexer.specs.First.{First}
use Rattle.rap_lexed.proofs.lexed_str.LexedStr.single_token.Goals as goal

pub returns-clause-single : goal.returns-clause-single
returns-clause-single c =
    let token = c.first_token-token.result.0 in
    let none : chars (drop c.first_token-token.result.1 c.args.text.now) ≡ [] = ap chars (drop_all c.first_token-token.result.1 c.args.text.now c.if-len-text.false) ∙ chars-nil in
    (token.remark, subst (λ (l : List ℕ). First c.args.edition (chars c.args.text.now) token l) none c.first_token-token.ensures.token, c.in_ok-message.ensures)
