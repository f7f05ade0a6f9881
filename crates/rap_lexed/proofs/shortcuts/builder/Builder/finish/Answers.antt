use Rattle.rap_lexed.proofs.Handed.{hands-refused, stops-after, takes-append}
use Rattle.rap_lexed.proofs.shortcuts.builder.Builder.finish.Goals as goal

pub returns-in_err-close-clause-steps : goal.returns-in_err-close-clause-steps
returns-in_err-close-clause-steps g c =
    hands-refused g.S.StrSink.takes g.S.StrSink.refuses _ _ _ c.from_residual-in_err-close.result _ c.from_residual-in_err-close.ensures.1
    (stops-after g.S.StrSink.takes g.S.StrSink.refuses _ _ _ c.eat_trivias.new.sink _ _ c.in_ok-eat_trivias.ensures.steps
    (rw c.in_ok-eat_trivias.ensures.after at c.in_err-close.ensures.steps))

pub returns-clause-steps : goal.returns-clause-steps
returns-clause-steps g c =
    takes-append g.S.StrSink.takes _ c.eat_trivias.new.sink _ _ _ c.in_ok-eat_trivias.ensures.steps
    (rw c.in_ok-eat_trivias.ensures.after at c.in_ok-close.ensures.steps)
