use Rattle.std.proofs.Common.{◌≡◌, ◌++◌, length, chars, string_bytes, encode_utf8_all}
use Rattle.rap_lexer.specs.Escape.{without_underscores}
use Rattle.rap_literals.proofs.floats.bare.Given as goal

abbrev pub invariant-rest : goal.invariant-rest
invariant-rest l = string_bytes l.bare ++ encode_utf8_all (without_underscores l.rest) ≡ encode_utf8_all (without_underscores (chars l.fn.text))

abbrev pub decreases-rest : goal.decreases-rest
decreases-rest l = length l.rest
