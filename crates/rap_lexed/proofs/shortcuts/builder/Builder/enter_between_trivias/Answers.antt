use Rattle.std.proofs.Common.{◌≡◌, ◌≤◌, ℕ, ap, arith}
use Rattle.rap_lexed.specs.declared.shortcuts.builder.Builder.{Builder}
use Rattle.rap_lexed.specs.StrStep.{str_enter}
use Rattle.rap_lexed.specs.Trivia.{past_trivia}
use Rattle.rap_lexed.proofs.Handed.{OnOk-from, hands-one}
use Rattle.rap_lexed.proofs.Tails.{bare-from, before-bare, tail-bare}
use Rattle.rap_lexed.proofs.shortcuts.builder.Builder.enter_between_trivias.Goals as goal

pub returns-clause-steps : goal.returns-clause-steps
returns-clause-steps g c =
    let ts = c.args.self.now.lexed.now.tokens in
    let at = c.args.self.now.pos in
    let bare : past_trivia ts at ≤ at = bare-from ts at c.is_at_trivia.result c.is_at_trivia.ensures c.if-is_at_trivia.false in
    rw (before-bare ts at c.args.kind bare, tail-bare ts at c.args.kind bare)
    (hands-one g.S.StrSink.takes g.S.StrSink.refuses (str_enter c.args.kind) c.args.sink.now c.step.new.self c.step.result c.step.ensures)

pub returns-clause-after : goal.returns-clause-after
returns-clause-after g c =
    let ts = c.args.self.now.lexed.now.tokens in
    let at = c.args.self.now.pos in
    let bare : past_trivia ts at ≤ at = bare-from ts at c.is_at_trivia.result c.is_at_trivia.ensures c.if-is_at_trivia.false in
    let same : at ≡ past_trivia ts at = omega (arith, bare) in
    OnOk-from c.step.result (ap {A = ℕ} {B = Builder} (λ k. record c.args.self.now { pos = k }) same)
