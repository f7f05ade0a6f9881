use Rattle.std.proofs.Common.{sym, ◌∙◌}
use Rattle.rap_lexer.proofs.TokenEnds.{number_based}
use Rattle.rap_lexer.proofs.lexer.number.number.Goals as goal

pub returns-in-Some : goal.returns-in-Some
returns-in-Some c = number_based c.args.first c.args.cursor.now c.based.result c.based.new.cursor c.in-Some.class (sym c.base.ensures ∙ c.in-Some.is) (rw c.skip.ensures at c.based.ensures)
