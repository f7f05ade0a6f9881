use Rattle.rap_base.specs.TokenKind.{CHAR, STRING}
use Rattle.rap_lexer.specs.declared.escape.Mode.TheVariants.{Char, Str}
use Rattle.rap_lexed.proofs.QuietLiterals.{quiet_literal}
use Rattle.rap_lexed.proofs.lexed_str.next_token.Goals as goal

pub returns-then-bytes-eq34-clause-quiet : goal.returns-then-bytes-eq34-clause-quiet
returns-then-bytes-eq34-clause-quiet c = λ sure. rw (c.string_token-string.ensures.literal sure) (quiet_literal c.args.text.now STRING Str c.string_token-string.result.len (c.string_token-string.ensures.plain sure))

pub returns-in-Some-clause-quiet : goal.returns-in-Some-clause-quiet
returns-in-Some-clause-quiet c = λ sure. rw c.literal.ensures (quiet_literal c.args.text.now CHAR Char c.in-Some.len c.in-Some.ensures.literal)
