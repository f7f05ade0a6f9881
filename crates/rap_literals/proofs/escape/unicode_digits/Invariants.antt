use Rattle.std.proofs.Common.{length}
use Rattle.rap_lexer.proofs.EscapeDigits.{Read}
use Rattle.rap_literals.proofs.escape.unicode_digits.Given as goal

abbrev pub invariant-digits : goal.invariant-digits
invariant-digits l = Read l.fn.first l.initial.rest l.rest l.digits l.value

abbrev pub decreases-digits : goal.decreases-digits
decreases-digits l = length l.rest
