use Rattle.std.proofs.Common.{sym, ◌∙◌}
use Rattle.rap_lexer.proofs.PlainSigns.{slash_plain, hash_plain}
use Rattle.rap_lexer.proofs.lexer.plain.plain_sign.Goals as goal

pub returns-then-is_plain_slash-clause-sign : goal.returns-then-is_plain_slash-clause-sign
returns-then-is_plain_slash-clause-sign c = slash_plain c.args.edition c.args.text.now c.utf8.text (rw c.as_bytes-bytes.ensures.value at (sym c.is_plain_slash.ensures ∙ c.if-is_plain_slash.true))

pub returns-then-is_plain_hash-clause-sign : goal.returns-then-is_plain_hash-clause-sign
returns-then-is_plain_hash-clause-sign c = hash_plain c.args.edition c.args.text.now c.utf8.text (rw c.as_bytes-bytes.ensures.value at (sym c.is_plain_hash.ensures ∙ c.if-is_plain_hash.true))
