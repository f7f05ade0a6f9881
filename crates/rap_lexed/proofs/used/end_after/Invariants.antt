use Rattle.std.proofs.Common.{◌≡◌, ◌+◌, drop}
use Rattle.rap_lexed.specs.LexedStr.{start_of}
use Rattle.rap_lexed.specs.Used.{end_after}
use Rattle.rap_lexed.proofs.used.end_after.Given as goal

abbrev pub invariant-tokens : goal.invariant-tokens
invariant-tokens l = start_of l.fn.lexed.tokens l.i + end_after l.left (drop l.i l.fn.lexed.tokens) ≡ end_after l.fn.count l.fn.lexed.tokens
