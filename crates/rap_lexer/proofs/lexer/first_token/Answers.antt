use Rattle.std.proofs.lemmas.Str.{encodes-chars}
use Rattle.rap_lexer.proofs.Prefixes.{within, positive, after_prefix, border}
use Rattle.rap_lexer.proofs.OneToken.{only_token}
use Rattle.rap_lexer.proofs.TokenEnds.{prefix_of, has_character}
use Rattle.rap_lexer.proofs.TokenKinds.{token_kind}
use Rattle.rap_lexer.proofs.lexer.first_token.Goals as goal

pub take_token-token-requires : goal.take_token-token-requires
take_token-token-requires c = has_character _ _ (rw c.new-cursor.ensures (encodes-chars _ c.utf8.text)) c.requires

pub overflow_sub-result : goal.overflow_sub-result
overflow_sub-result c =
    let f = prefix_of c.args.edition _ _ _ (rw c.new-cursor.ensures at c.take_token-token.ensures) in
    within _ _ f.prefix _ c.utf8.text f.join c.as_str.ensures.text

pub returns-clause-token : goal.returns-clause-token
returns-clause-token c =
    let t = rw c.new-cursor.ensures at c.take_token-token.ensures in
    let f = prefix_of c.args.edition _ _ _ t in
    rw (after_prefix _ _ f.prefix _ c.utf8.text f.join c.as_str.ensures.text, c.as_str.ensures.same) t

pub returns-clause-positive : goal.returns-clause-positive
returns-clause-positive c =
    let f = prefix_of c.args.edition _ _ _ (rw c.new-cursor.ensures at c.take_token-token.ensures) in
    positive _ _ f.prefix _ c.utf8.text f.join c.as_str.ensures.text f.some

pub returns-clause-border : goal.returns-clause-border
returns-clause-border c =
    let f = prefix_of c.args.edition _ _ _ (rw c.new-cursor.ensures at c.take_token-token.ensures) in
    border _ _ f.prefix _ c.utf8.text f.join c.as_str.ensures.text c.as_str.utf8

pub returns-clause-kind : goal.returns-clause-kind
returns-clause-kind c = token_kind c.args.edition c.new-cursor.result c.take_token-token.result c.take_token-token.new.cursor c.take_token-token.ensures

pub returns-clause-only : goal.returns-clause-only
returns-clause-only c =
    let t = rw c.new-cursor.ensures at c.take_token-token.ensures in
    let f = prefix_of c.args.edition _ _ _ t in
    only_token _ _ _ _ c.utf8.text (border _ _ f.prefix _ c.utf8.text f.join c.as_str.ensures.text c.as_str.utf8) (rw (after_prefix _ _ f.prefix _ c.utf8.text f.join c.as_str.ensures.text, c.as_str.ensures.same) t)
