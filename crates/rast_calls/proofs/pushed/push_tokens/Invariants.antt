use Rattle.std.proofs.Common.{◌≡◌}
use Rattle.rast_calls.specs.Made.{pushed}
use Rattle.rast_calls.proofs.pushed.push_tokens.Given as goal

abbrev pub invariant-tokens : goal.invariant-tokens
invariant-tokens l = l.input ≡ pushed l.fn.tokens.token l.fn.tokens.every l.i
