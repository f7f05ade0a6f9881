use Rattle.rap_lexed.proofs.Handed.{hands-refused, stops-within, hands-after}
use Rattle.rap_lexed.proofs.shortcuts.builder.Builder.settle.Goals as goal

pub returns-in_err-close-clause-steps : goal.returns-in_err-close-clause-steps
returns-in_err-close-clause-steps g c =
    hands-refused g.S.StrSink.takes g.S.StrSink.refuses _ _ _ c.from_residual.result _ c.from_residual.ensures.1
    (stops-within g.S.StrSink.takes g.S.StrSink.refuses _ _ _ _ _ c.in_err-close.ensures.steps)

pub returns-clause-steps : goal.returns-clause-steps
returns-clause-steps g c =
    hands-after g.S.StrSink.takes g.S.StrSink.refuses _ _ _ c.close.new.sink _ c.eat_trivias.result c.in_ok-close.ensures.steps
    (rw c.in_ok-close.ensures.after at c.eat_trivias.ensures.steps)
