use Rattle.std.proofs.Common.{List, subst, ℕ}
use Rattle.rap_lexer.specs.declared.escape.Mode.TheVariants.{Byte, Char}
use Rattle.rap_c.specs.Literal.{IsFloatAnswer, IsIntegerAnswer, IsSingleAnswer, of_byte, of_char, of_float, of_integer}
use Rattle.rap_c.proofs.literal.rap_number_value.Goals as goal

pub returns-then-kind-eq-INT_NUMBER : goal.returns-then-kind-eq-INT_NUMBER
returns-then-kind-eq-INT_NUMBER c =
    of_integer c.if-kind-eq-INT_NUMBER.true c.in-Ok.ensures.1
    (subst (λ (text : List ℕ). IsIntegerAnswer text c.integer.result) c.in-Ok.ensures.0 c.integer.ensures)

pub returns-then-kind-eq-FLOAT_NUMBER : goal.returns-then-kind-eq-FLOAT_NUMBER
returns-then-kind-eq-FLOAT_NUMBER c =
    of_float c.if-kind-eq-FLOAT_NUMBER.true c.in-Ok.ensures.1
    (subst (λ (text : List ℕ). IsFloatAnswer text c.float.result) c.in-Ok.ensures.0 c.float.ensures)

pub returns-then-kind-eq-CHAR : goal.returns-then-kind-eq-CHAR
returns-then-kind-eq-CHAR c =
    of_char c.if-kind-eq-CHAR.true c.in-Ok.ensures.1
    (subst (λ (text : List ℕ). IsSingleAnswer Char text c.character.result) c.in-Ok.ensures.0 c.character.ensures)

pub returns-then-kind-eq-BYTE : goal.returns-then-kind-eq-BYTE
returns-then-kind-eq-BYTE c =
    of_byte c.if-kind-eq-BYTE.true c.in-Ok.ensures.1
    (subst (λ (text : List ℕ). IsSingleAnswer Byte text c.byte.result) c.in-Ok.ensures.0 c.byte.ensures)
