use Rattle.std.proofs.Common.{refl, sym, ◌∙◌, arith}
use Rattle.rap_lexer.proofs.RawStrings.{ahead_more, ahead_none}
use Rattle.rap_lexer.proofs.lexer.raw_string.eat_hashes.Goals as goal

pub returns-then-not-is_next : goal.returns-then-not-is_next
returns-then-not-is_next c = (refl, ahead_none _ _ _ _ c.loop.invariant (omega arith) (sym c.is_next.ensures ∙ c.if-not-is_next.true))

pub loop-preserved : goal.loop-preserved
loop-preserved c = rw c.skip.ensures (ahead_more _ _ _ _ _ c.loop.invariant (omega arith) (sym c.is_next.ensures ∙ c.if-not-is_next.false))
