use Rattle.std.proofs.Common.{arith, sym, ◌∙◌, ap}
use Rattle.std.proofs.lemmas.Result.{err_from_is_err_and}
use Rattle.rap_base.specs.TokenTests.{is_trivia}
use Rattle.rap_lexed.proofs.Eating.{eats-more, eats-stops}
use Rattle.rap_lexed.proofs.shortcuts.builder.Builder.eat_trivias.Goals as goal

pub trivia-preserved : goal.trivia-preserved
trivia-preserved g c =
    rw c.in_ok-do_token.ensures.after
    (eats-more g.S.StrSink.takes c.args.self.now c.args.sink.now c.trivia.self c.trivia.sink c.trivia.invariant c.kind-kind.result (omega arith) c.kind-kind.ensures.kind
    (sym (ap is_trivia c.kind-kind.ensures.kind) ∙ sym c.is_trivia.ensures ∙ c.if-not-is_trivia.false) c.do_token.new.sink c.in_ok-do_token.ensures.steps)

pub returns-in_err-do_token-clause-steps : goal.returns-in_err-do_token-clause-steps
returns-in_err-do_token-clause-steps g c =
    let p = err_from_is_err_and c.from_residual.result c.from_residual.ensures.1 in
    rw (p.1, p.2)
    (eats-stops g.S.StrSink.takes c.args.self.now c.args.sink.now c.trivia.self c.trivia.sink c.trivia.invariant c.kind-kind.result (omega arith) c.kind-kind.ensures.kind
    (sym (ap is_trivia c.kind-kind.ensures.kind) ∙ sym c.is_trivia.ensures ∙ c.if-not-is_trivia.false) g.S.StrSink.refuses c.do_token.new.sink c.in_err-do_token.field-0.0 c.in_err-do_token.ensures.steps)
