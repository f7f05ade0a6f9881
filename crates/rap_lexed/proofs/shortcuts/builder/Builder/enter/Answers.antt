use Rattle.rap_lexed.specs.StrStep.{str_enter}
use Rattle.rap_lexed.proofs.Emitted.{made-next, place-next}
use Rattle.rap_lexed.proofs.Handed.{hands-refused, stops-within, hands-after, hands-one}
use Rattle.rap_lexed.proofs.shortcuts.builder.Builder.enter.Goals as goal

pub returns-in-PendingEnter-clause-steps : goal.returns-in-PendingEnter-clause-steps
returns-in-PendingEnter-clause-steps g c =
    rw c.in-PendingEnter.is (hands-one g.S.StrSink.takes g.S.StrSink.refuses (str_enter c.args.kind) _ _ c.step.result c.step.ensures)

pub returns-in_err-close-clause-steps : goal.returns-in_err-close-clause-steps
returns-in_err-close-clause-steps g c =
    rw (made-next c.args.self.now.lexed.now.tokens c.args.self.now.state c.args.self.now.pos c.args.kind c.in_default.not-PendingEnter)
    (hands-refused g.S.StrSink.takes g.S.StrSink.refuses _ _ _ c.from_residual.result _ c.from_residual.ensures.1
    (stops-within g.S.StrSink.takes g.S.StrSink.refuses _ _ _ _ _ c.in_err-close.ensures.steps))

pub returns-clause-steps : goal.returns-clause-steps
returns-clause-steps g c =
    rw (made-next c.args.self.now.lexed.now.tokens c.args.self.now.state c.args.self.now.pos c.args.kind c.in_default.not-PendingEnter)
    (hands-after g.S.StrSink.takes g.S.StrSink.refuses _ _ _ c.close.new.sink _ c.enter_between_trivias.result c.in_ok-close.ensures.steps
    (rw c.in_ok-close.ensures.after at c.enter_between_trivias.ensures.steps))

pub returns-clause-after : goal.returns-clause-after
returns-clause-after g c =
    rw (place-next c.args.self.now.lexed.now.tokens c.args.self.now.state c.args.self.now.pos c.args.kind c.in_default.not-PendingEnter)
    (rw c.in_ok-close.ensures.after at c.enter_between_trivias.ensures.after)
