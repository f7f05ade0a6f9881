use Rattle.std.proofs.Common.{length, ap, arith}
use Rattle.rap_lexer.specs.Class.{is_in}
use Rattle.rap_lexer.specs.declared.lexer.run.Class.TheVariants.{InRawString}
use Rattle.rap_lexer.proofs.RawStrings.{at_end, at_close, past_other, past_text}
use Rattle.rap_lexer.proofs.RawWalk.{to_run}
use Rattle.rap_lexer.proofs.Runs.{after_length}
use Rattle.rap_lexer.proofs.lexer.raw_string.eat_raw.Goals as goal

pub returns-then-closes : goal.returns-then-closes
returns-then-closes c = to_run _ _ _ _ (at_close _ _ _ (rw c.eat_text.ensures (past_text _ _ _ c.body.invariant)) _ _ c.in-Some.ensures.taken c.if-closes.ensures)

pub body-preserved : goal.body-preserved
body-preserved c = rw c.if-closes.ensures.0 (past_other _ _ _ (rw c.eat_text.ensures (past_text _ _ _ c.body.invariant)) _ _ c.in-Some.ensures.taken c.if-closes.ensures.1)

pub returns-in_default : goal.returns-in_default
returns-in_default c = rw c.in_default.ensures.taken.1 (to_run _ _ _ _ (at_end _ _ _ (rw c.eat_text.ensures (past_text _ _ _ c.body.invariant)) c.in_default.ensures.taken.0))

pub body-smaller : goal.body-smaller
body-smaller c = omega (arith, ap length c.if-closes.ensures.0, ap length c.in-Some.ensures.taken, ap length c.eat_text.ensures, after_length (is_in InRawString) c.body.cursor)
