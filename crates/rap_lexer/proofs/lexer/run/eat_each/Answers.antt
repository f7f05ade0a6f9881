use Rattle.std.proofs.Common.{◌≡◌, false, sym, ◌∙◌}
use Rattle.rap_lexer.specs.Class.{is_in}
use Rattle.rap_lexer.proofs.Runs.{stops, ends}
use Rattle.rap_lexer.proofs.lexer.run.eat_each.Goals as goal

pub returns-then-not-is_in : goal.returns-then-not-is_in
returns-then-not-is_in c =
    let outside : is_in c.args.class c.in-Some.c ≡ false = cc in
    sym (stops (is_in c.args.class) c.run.cursor c.in-Some.c (sym c.first.ensures ∙ c.in-Some.is) outside) ∙ c.run.invariant

pub returns-in_default : goal.returns-in_default
returns-in_default c = sym (ends (is_in c.args.class) c.run.cursor (sym c.first.ensures ∙ c.in_default.is)) ∙ c.run.invariant
