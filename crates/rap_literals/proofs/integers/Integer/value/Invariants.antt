use Rattle.std.proofs.Common.{◌≡◌, drop}
use Rattle.rap_literals.specs.Number.{number_of}
use Rattle.rap_literals.specs.Reading.{with_digits}
use Rattle.rap_literals.proofs.integers.Integer.value.Given as goal

abbrev pub invariant-loop-digit : goal.invariant-loop-digit
invariant-loop-digit l = with_digits (number_of l.radix) l.value (drop l.digit-index l.digits) ≡ with_digits (number_of l.radix) 0 l.digits
