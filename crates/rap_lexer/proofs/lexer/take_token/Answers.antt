use Rattle.std.proofs.Common.{sym, ◌∙◌}
use Rattle.rap_lexer.proofs.FirstCharacters.{slash_first, tick_first, digit_first}
use Rattle.rap_lexer.proofs.lexer.take_token.Goals as goal

pub returns-then-c-eq47 : goal.returns-then-c-eq47
returns-then-c-eq47 c = slash_first c.args.edition c.bump.new.self c.slash.result c.slash.new.cursor c.in-Some.c c.args.cursor.now c.in-Some.ensures.taken c.if-c-eq47.true c.slash.ensures

pub returns-then-c-eq39 : goal.returns-then-c-eq39
returns-then-c-eq39 c = tick_first c.args.edition c.bump.new.self c.tick.result c.tick.new.cursor c.in-Some.c c.args.cursor.now c.in-Some.ensures.taken c.if-c-eq39.true c.tick.ensures

pub returns-then-is_in : goal.returns-then-is_in
returns-then-is_in c = digit_first c.args.edition c.bump.new.self c.number.result c.number.new.cursor c.in-Some.c c.args.cursor.now c.in-Some.ensures.taken (sym c.is_in.ensures ∙ c.if-is_in.true) c.number.ensures
