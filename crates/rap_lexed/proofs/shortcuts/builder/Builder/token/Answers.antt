use Rattle.rap_lexed.proofs.Handed.{hands-refused, stops-within, hands-after}
use Rattle.rap_lexed.proofs.shortcuts.builder.Builder.token.Goals as goal

pub returns-in_err-settle-clause-steps : goal.returns-in_err-settle-clause-steps
returns-in_err-settle-clause-steps g c =
    hands-refused g.S.StrSink.takes g.S.StrSink.refuses _ _ _ c.from_residual.result _ c.from_residual.ensures.1
    (stops-within g.S.StrSink.takes g.S.StrSink.refuses _ _ _ _ _ c.in_err-settle.ensures.steps)

pub returns-clause-steps : goal.returns-clause-steps
returns-clause-steps g c =
    hands-after g.S.StrSink.takes g.S.StrSink.refuses _ _ _ c.settle.new.sink _ c.do_token.result c.in_ok-settle.ensures.steps
    (rw c.in_ok-settle.ensures.after at c.do_token.ensures.steps)
