use Rattle.std.proofs.Common.{◌∙◌, sym}
use Rattle.rap_lexer.proofs.Characters.{first_tail, no_first, at_end, at_stop, at_quote, past_escape, past_other}
use Rattle.rap_lexer.proofs.lexer.quoted.eat_character_run.Goals as goal

pub returns-then-stops_at : goal.returns-then-stops_at
returns-then-stops_at c = at_stop _ _ c.body.invariant _ _ (first_tail c.body.cursor c.in-Some.c (sym c.first.ensures ∙ c.in-Some.is)) (rw c.ahead.ensures at (sym c.stops_at.ensures ∙ c.if-stops_at.true))

pub returns-then-c-eq39 : goal.returns-then-c-eq39
returns-then-c-eq39 c = rw c.skip.ensures (at_quote _ _ c.body.invariant _ _ (first_tail c.body.cursor c.in-Some.c (sym c.first.ensures ∙ c.in-Some.is)) c.if-c-eq39.true)

pub body-preserved-then-c-eq92 : goal.body-preserved-then-c-eq92
body-preserved-then-c-eq92 c = rw (c.skip-then-c-eq92.ensures, c.skip.ensures) (past_escape _ _ c.body.invariant _ _ (first_tail c.body.cursor c.in-Some.c (sym c.first.ensures ∙ c.in-Some.is)) c.if-c-eq92.true)

pub body-preserved : goal.body-preserved
body-preserved c = rw c.skip.ensures (past_other _ _ c.body.invariant _ _ (first_tail c.body.cursor c.in-Some.c (sym c.first.ensures ∙ c.in-Some.is)) c.if-c-eq39.false c.if-c-eq92.false (rw c.ahead.ensures at (sym c.stops_at.ensures ∙ c.if-stops_at.false)))

pub returns : goal.returns
returns c = at_end _ _ c.body.invariant (no_first c.body.cursor (sym c.first.ensures ∙ c.in_default.is))
