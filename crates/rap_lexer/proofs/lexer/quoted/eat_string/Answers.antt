use Rattle.std.proofs.Common.{length, sym, ap, ◌∙◌, arith}
use Rattle.rap_lexer.specs.Class.{is_in}
use Rattle.rap_lexer.specs.declared.lexer.run.Class.TheVariants.{InString}
use Rattle.rap_lexer.proofs.Runs.{after_length, tail_length}
use Rattle.rap_lexer.proofs.Strings.{at_end, at_quote, past_escape, past_other, past_text}
use Rattle.rap_lexer.proofs.lexer.quoted.eat_string.Goals as goal

pub returns-then-c-eq34 : goal.returns-then-c-eq34
returns-then-c-eq34 c = at_quote _ _ (rw c.eat_text.ensures (past_text _ _ c.body.invariant)) _ _ c.in-Some.ensures.taken c.if-c-eq34.true

pub body-preserved-then-takes_next : goal.body-preserved-then-takes_next
body-preserved-then-takes_next c = rw c.skip.ensures (past_escape _ _ (rw c.eat_text.ensures (past_text _ _ c.body.invariant)) _ _ c.in-Some.ensures.taken (sym c.takes_next.ensures ∙ c.if-takes_next.true))

pub body-preserved : goal.body-preserved
body-preserved c = past_other _ _ (rw c.eat_text.ensures (past_text _ _ c.body.invariant)) _ _ c.in-Some.ensures.taken c.if-c-eq34.false (sym c.takes_next.ensures ∙ c.if-takes_next.false)

pub returns-in_default : goal.returns-in_default
returns-in_default c = rw c.in_default.ensures.taken.1 (at_end _ _ (rw c.eat_text.ensures (past_text _ _ c.body.invariant)) c.in_default.ensures.taken.0)

pub body-smaller-then-takes_next : goal.body-smaller-then-takes_next
body-smaller-then-takes_next c = omega (arith, ap length c.skip.ensures, tail_length c.bump.new.self, ap length c.in-Some.ensures.taken, ap length c.eat_text.ensures, after_length (is_in InString) c.body.cursor)

pub body-smaller : goal.body-smaller
body-smaller c = omega (arith, ap length c.in-Some.ensures.taken, ap length c.eat_text.ensures, after_length (is_in InString) c.body.cursor)
