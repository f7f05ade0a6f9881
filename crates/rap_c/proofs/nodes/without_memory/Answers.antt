use Rattle.std.proofs.Common.{ap, arith}
use Rattle.rap_lexed.specs.Trivia.{significant}
use Rattle.rap_lexed.proofs.OneLexing.{only_lexing}
use Rattle.rap_c.proofs.nodes.without_memory.Goals as goal

pub returns-else-significant_tokens-gt-MAX_TOKENS : goal.returns-else-significant_tokens-gt-MAX_TOKENS
returns-else-significant_tokens-gt-MAX_TOKENS c =
    let s = c.significant_tokens.ensures in (
      omega (arith, c.requires),
      λ h. let same = ap (λ l. significant l.tokens) (only_lexing c.args.text.now c.args.edition s.0 c.utf8.text s.1 h.lexed h.lexing) in
          absurd (omega (arith, h.many, same, s.2, c.if-significant_tokens-gt-MAX_TOKENS.false)),
    )
