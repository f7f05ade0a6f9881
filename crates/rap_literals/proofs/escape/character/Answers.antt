use Rattle.rap_lexer.specs.Escape.Character.{plain, escaped}
use Rattle.rap_literals.proofs.escape.character.Goals as goal

pub returns-then-c-eq92 : goal.returns-then-c-eq92
returns-then-c-eq92 c = rw c.if-c-eq92.true (escaped _ _ _ c.escape.ensures)

pub returns-else-c-eq92 : goal.returns-else-c-eq92
returns-else-c-eq92 c = rw c.plain_character.ensures (plain _ _ c.if-c-eq92.false)
