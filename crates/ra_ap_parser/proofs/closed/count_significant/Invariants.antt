use Rattle.std.proofs.Common.{◌≡◌, take}
use Rattle.rap_lexed.specs.Trivia.{significant}
use Rattle.ra_ap_parser.proofs.closed.count_significant.Given as goal

abbrev pub invariant-tokens : goal.invariant-tokens
invariant-tokens l = l.count ≡ significant (take l.i l.fn.lexed.tokens)
