use Rattle.rap_lexer.specs.declared.escape.Mode.TheVariants.{Char}
use Rattle.rap_literals.proofs.Literals.{no_character, raw_character, character_outcome}
use Rattle.rap_literals.proofs.characters.char_value.Goals as goal

pub returns-in-None : goal.returns-in-None
returns-in-None c = no_character Char c.args.text.now c.in-None.ensures

pub returns-in-Raw : goal.returns-in-Raw
returns-in-Raw c = raw_character Char c.args.text.now _ _ (rw c.in-Raw.is at c.in-Some.ensures)

pub returns-in-Escaped : goal.returns-in-Escaped
returns-in-Escaped c = character_outcome Char c.args.text.now _ _ (rw c.in-Escaped.is at c.in-Some.ensures) c.character_of.result c.character_of.ensures
