use Rattle.std.proofs.Common.{refl, arith}
use Rattle.rap_lexer.specs.declared.escape.Mode.TheVariants.{Byte}
use Rattle.rap_literals.proofs.Literals.{no_character, raw_character, faulty_character}
use Rattle.rap_literals.proofs.Pieces.{byte_small}
use Rattle.rap_literals.proofs.characters.byte_value.Goals as goal

pub overflow_cast-result : goal.overflow_cast-result
overflow_cast-result c = let stands = c.in-Some-character_of.ensures in omega (arith, byte_small stands.whole _ refl)

pub returns-in-None : goal.returns-in-None
returns-in-None c = no_character Byte c.args.text.now c.in-None.ensures

pub returns-in-Raw : goal.returns-in-Raw
returns-in-Raw c = raw_character Byte c.args.text.now _ _ (rw c.in-Raw.is at c.in-Some.ensures)

pub returns-in-None-character_of : goal.returns-in-None-character_of
returns-in-None-character_of c = faulty_character Byte c.args.text.now _ _ (rw c.in-Escaped.is at c.in-Some.ensures) c.in-None-character_of.ensures
