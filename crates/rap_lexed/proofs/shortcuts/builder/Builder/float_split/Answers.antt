use Rattle.std.proofs.Common.{◌≡◌, length, ap, sym, ◌∙◌, arith}
use Rattle.rap_lexed.specs.Trivia.{past_trivia, text_of}
use Rattle.rap_lexed.proofs.Handed.{hands-refused, stops-within, hands-after}
use Rattle.rap_lexed.proofs.TriviaRuns.{text-one}
use Rattle.rap_lexed.proofs.shortcuts.builder.Builder.float_split.Goals as goal

pub returns-in_err-settle-clause-steps : goal.returns-in_err-settle-clause-steps
returns-in_err-settle-clause-steps g c =
    hands-refused g.S.StrSink.takes g.S.StrSink.refuses _ _ _ c.from_residual.result _ c.from_residual.ensures.1
    (stops-within g.S.StrSink.takes g.S.StrSink.refuses _ _ _ _ _ c.in_err-settle.ensures.steps)

pub overflow_add-self : goal.overflow_add-self
overflow_add-self g c =
    let place = ap (λ b. b.pos) c.in_ok-settle.ensures.after in
    let same = ap (λ b. length b.lexed.now.tokens) c.in_ok-settle.ensures.after in
    omega (arith, c.requires.can.0, place, same, c.len-count.ensures.count)

pub returns-clause-steps : goal.returns-clause-steps
returns-clause-steps g c =
    let ts = c.args.self.now.lexed.now.tokens in
    let p = past_trivia ts c.args.self.now.pos in
    let token = rw c.in_ok-settle.ensures.after at c.text-text.ensures.token in
    let text : c.text-text.result.now ≡ text_of ts p 1 = token ∙ sym (text-one ts p (omega (arith, c.requires.can.0))) in
    let start = rw c.in_ok-settle.ensures.after at c.text_start-start.ensures in
    hands-after g.S.StrSink.takes g.S.StrSink.refuses _ _ _ c.settle.new.sink _ c.hand_out_float.result c.in_ok-settle.ensures.steps
    (rw (text, start) at c.hand_out_float.ensures)
