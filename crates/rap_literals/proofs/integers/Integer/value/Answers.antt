use Rattle.std.proofs.Common.{◌∙◌, None, Some, sym, ap}
use Rattle.rap_literals.specs.Number.{number_of}
use Rattle.rap_literals.specs.Reading.{with_digits}
use Rattle.rap_literals.proofs.Numbers.{value_read, read_fails, read_ends}
use Rattle.rap_literals.proofs.integers.Integer.value.Goals as goal

pub returns-in-None : goal.returns-in-None
returns-in-None c =
    let radix = c.args.self.now.radix in
    let fails = read_fails (number_of radix) c.loop-digit.value c.loop-digit.digit-index c.as_bytes-digits.result.now c.loop-digit-test.true (sym c.with_digit.ensures ∙ c.in-None.is) in
    value_read radix c.args.self.now.digits.now None (ap (with_digits (number_of radix) 0) (sym c.as_bytes-digits.ensures.value) ∙ (sym c.loop-digit.invariant ∙ fails))

pub returns : goal.returns
returns c =
    let radix = c.args.self.now.radix in
    let ends = read_ends (number_of radix) c.loop-digit.value c.loop-digit.digit-index c.as_bytes-digits.result.now c.loop-digit-test.false in
    value_read radix c.args.self.now.digits.now (Some c.loop-digit.value) (ap (with_digits (number_of radix) 0) (sym c.as_bytes-digits.ensures.value) ∙ (sym c.loop-digit.invariant ∙ ends))
