use Rattle.rap_c.specs.Literal.{is_integer}
use Rattle.rap_c.proofs.literal.integer.Goals as goal

pub returns-in-Some : goal.returns-in-Some
returns-in-Some c =
    is_integer c.in-Some.parts.radix c.in-Some.parts.digits.now c.in-Some.parts.suffix.now c.in-Some.ensures c.integer_of.ensures
