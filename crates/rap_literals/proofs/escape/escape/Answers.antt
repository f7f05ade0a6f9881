use Rattle.std.proofs.Common.{refl}
use Rattle.rap_lexer.specs.Escape.Escape.{alone}
use Rattle.rap_lexer.proofs.EscapeRules.{at, one_character}
use Rattle.rap_literals.proofs.escape.escape.Goals as goal

pub returns-in-None : goal.returns-in-None
returns-in-None c = at alone c.in-None.ensures.0 refl c.in-None.ensures.1

pub returns-in-Some : goal.returns-in-Some
returns-in-Some c =
    let a = c.in-Some in
    at (one_character c.args.mode a.c c.bump.new.self c.simple_escape.result c.simple_escape.ensures a.c-test.0.1 a.c-test.1) a.ensures c.ok_or.ensures.value refl
