use Rattle.std.proofs.Common.{◌≡◌, ◌++◌, string_bytes}
use Rattle.rast_lex.specs.Listed.{lines, token_line}
use Rattle.rast_lex.proofs.listing.push_tokens.Given as goal

abbrev pub invariant-tokens : goal.invariant-tokens
invariant-tokens l = string_bytes l.page ≡ string_bytes l.fn.page ++ lines (token_line l.fn.lexed.tokens) l.i
