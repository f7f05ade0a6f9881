use Rattle.std.proofs.Common.{◌<◌, length, ap, arith}
use Rattle.std.proofs.lemmas.Result.{err_from_is_err_and}
use Rattle.rap_lexed.proofs.Eating.{some-more, some-stops}
use Rattle.rap_lexed.proofs.shortcuts.builder.Builder.eat_n_trivias.Goals as goal

pub tokens-preserved : goal.tokens-preserved
tokens-preserved g c =
    let place = ap (λ b. b.pos) c.tokens.invariant.same in
    let same = ap (λ b. length b.lexed.now.tokens) c.tokens.invariant.same in
    let inside : c.tokens.self.pos < length c.tokens.self.lexed.now.tokens = omega (arith, place, same, c.requires, c.tokens-test.true) in
    rw c.in_ok-do_token.ensures.after
    (some-more g.S.StrSink.takes c.args.self.now c.args.sink.now c.args.n c.tokens.counter c.tokens-test.true c.tokens.self c.tokens.sink c.tokens.invariant c.kind-trivia.result inside c.kind-trivia.ensures.kind
    c.do_token.new.sink c.in_ok-do_token.ensures.steps)

pub returns-in_err-do_token-clause-steps : goal.returns-in_err-do_token-clause-steps
returns-in_err-do_token-clause-steps g c =
    let p = err_from_is_err_and c.from_residual.result c.from_residual.ensures.1 in
    let place = ap (λ b. b.pos) c.tokens.invariant.same in
    let same = ap (λ b. length b.lexed.now.tokens) c.tokens.invariant.same in
    let inside : c.tokens.self.pos < length c.tokens.self.lexed.now.tokens = omega (arith, place, same, c.requires, c.tokens-test.true) in
    rw (p.1, p.2)
    (some-stops g.S.StrSink.takes c.args.self.now c.args.sink.now c.args.n c.tokens.counter c.tokens-test.true c.tokens.self c.tokens.sink c.tokens.invariant c.kind-trivia.result inside c.kind-trivia.ensures.kind
    g.S.StrSink.refuses c.do_token.new.sink c.in_err-do_token.field-0.0 c.in_err-do_token.ensures.steps)
