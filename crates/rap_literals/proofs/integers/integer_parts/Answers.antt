use Rattle.rap_literals.proofs.Numbers.{ends_digits}
use Rattle.rap_literals.proofs.integers.integer_parts.Goals as goal

pub before-requires : goal.before-requires
before-requires c = rw c.after_digits-suffix.ensures (ends_digits c.after_prefix-radix.result.0 c.after_prefix-radix.result.1.now)
