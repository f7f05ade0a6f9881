use Rattle.std.proofs.Common.{◌-◌, length}
use Rattle.rap_lexer.proofs.PlainStrings.{Passed}
use Rattle.rap_lexer.proofs.lexer.literal.string_token.Given as goal

abbrev pub invariant-body : goal.invariant-body
invariant-body l = Passed l.text l.end

abbrev pub decreases-body : goal.decreases-body
decreases-body l = length l.text - l.end
