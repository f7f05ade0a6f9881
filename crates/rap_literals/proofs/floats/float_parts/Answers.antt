use Rattle.rap_literals.proofs.Numbers.{ends_float}
use Rattle.rap_literals.proofs.floats.float_parts.Goals as goal

pub before-requires : goal.before-requires
before-requires c = rw (c.after_exponent-suffix.ensures, c.after_fraction.ensures, c.after_digits.ensures) (ends_float c.args.text.now)
