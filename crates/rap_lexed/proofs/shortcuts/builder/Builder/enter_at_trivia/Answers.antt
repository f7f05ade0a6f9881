use Rattle.std.proofs.Common.{[], ◌∷◌, sym, ◌∙◌}
use Rattle.rap_lexed.specs.Builder.{leaves_of}
use Rattle.rap_lexed.specs.StrStep.{str_enter}
use Rattle.rap_lexed.specs.Trivia.{trivia_at}
use Rattle.rap_lexed.proofs.Handed.{hands-refused, stops-within, hands-after, hands-one}
use Rattle.rap_lexed.proofs.Tails.{before-all, tail-empty}
use Rattle.rap_lexed.proofs.shortcuts.builder.Builder.enter_at_trivia.Goals as goal

pub returns-in_err-eat_trivias-clause-steps : goal.returns-in_err-eat_trivias-clause-steps
returns-in_err-eat_trivias-clause-steps g c =
    let ts = c.args.self.now.lexed.now.tokens in
    let at = c.args.self.now.pos in
    let plain = sym c.takes_tail.ensures ∙ c.if-takes_tail.false in
    rw (before-all ts at c.args.kind plain)
    (hands-refused g.S.StrSink.takes g.S.StrSink.refuses _ _ _ c.from_residual.result _ c.from_residual.ensures.1
    (stops-within g.S.StrSink.takes g.S.StrSink.refuses _ _ _ _ _ c.in_err-eat_trivias.ensures.steps))

pub returns-clause-steps : goal.returns-clause-steps
returns-clause-steps g c =
    let ts = c.args.self.now.lexed.now.tokens in
    let at = c.args.self.now.pos in
    let plain = sym c.takes_tail.ensures ∙ c.if-takes_tail.false in
    rw (before-all ts at c.args.kind plain, tail-empty ts at c.args.kind plain)
    (hands-after g.S.StrSink.takes g.S.StrSink.refuses (leaves_of (trivia_at ts at)) (str_enter c.args.kind ∷ []) c.args.sink.now c.eat_trivias.new.sink c.step.new.self c.step.result
    c.in_ok-eat_trivias.ensures.steps
    (hands-one g.S.StrSink.takes g.S.StrSink.refuses (str_enter c.args.kind) _ _ c.step.result c.step.ensures))
