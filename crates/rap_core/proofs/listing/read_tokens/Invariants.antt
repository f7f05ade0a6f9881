use Rattle.std.proofs.Common.{◌≡◌}
use Rattle.rap_core.specs.Listed.{numbers_read}
use Rattle.rap_core.proofs.listing.read_tokens.Given as goal

abbrev pub invariant-tokens : goal.invariant-tokens
invariant-tokens l = l.numbers.items ≡ numbers_read l.fn.lexed.tokens l.i
