use Rattle.std.proofs.Common.{◌+◌, ◌<◌, length, get_or, arith}
use Rattle.std.proofs.lemmas.Bool.Decides.{nat_tests}
use Rattle.std.proofs.lemmas.Int.Digits.{digits_more, digits_value_more}
use Rattle.std.proofs.lemmas.Str.{digit_value_digit}
use Rattle.std.proofs.lemmas.Str.Parse.{digit_at, digit_from_value, digits_value-take-le}
use Rattle.rast_frames.proofs.header.number.Goals as goal

pub returns-then-not-is_ascii_digit : goal.returns-then-not-is_ascii_digit
returns-then-not-is_ascii_digit c h =
    let digit = digit_at c.args.digits.now c.digits.byte-index h.0.1 (omega arith) in
    grind (arith, nat_tests, digit, c.is_ascii_digit.ensures.value)

pub returns-then-number-ge-MAX_STATED : goal.returns-then-number-ge-MAX_STATED
returns-then-number-ge-MAX_STATED c h =
    let ds = c.args.digits.now in
    let i = c.digits.byte-index in
    let within : i < length ds = omega arith in
    let digit = digit_value_digit (get_or ds i 0) (digit_at ds i h.0.1 within) in
    omega (arith, h.1, digit, c.digits.invariant.value, digits_value_more 10 ds i within, digits_value-take-le 10 ds (i + 1) (omega arith))

pub digits-preserved : goal.digits-preserved
digits-preserved c =
    let ds = c.args.digits.now in
    let i = c.digits.byte-index in
    let within : i < length ds = omega arith in
    let digit = digit_value_digit (get_or ds i 0) (digit_from_value (get_or ds i 0) c.if-not-is_ascii_digit.ensures.bound) in
    record {
      some = c.digits.invariant.some;
      digits = digits_more 10 ds i within c.digits.invariant.digits c.if-not-is_ascii_digit.ensures.bound;
      value = omega (arith, digit, c.digits.invariant.value, digits_value_more 10 ds i within);
      small = omega (arith, c.if-number-ge-MAX_STATED.false);
    }
