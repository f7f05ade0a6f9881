use Rattle.std.proofs.Common.{◌≡◌, ◌+◌, ◌-◌, [], ◌∷◌, length, arith}
use Rattle.rap_lexed.specs.Attached.{attached_tail, before_tail}
use Rattle.rap_lexed.specs.Builder.{leaves_of}
use Rattle.rap_lexed.specs.StrStep.{str_enter}
use Rattle.rap_lexed.specs.Trivia.{trivia_at}
use Rattle.rap_lexed.proofs.Handed.{hands-refused, stops-within, hands-after, takes-one}
use Rattle.rap_lexed.proofs.Tails.{before-item, past-before, place-item, trivia-before}
use Rattle.rap_lexed.proofs.shortcuts.builder.Builder.enter_with_tail.Goals as goal

pub overflow_sub-begin : goal.overflow_sub-begin
overflow_sub-begin g c =
    omega (arith, place-item c.args.self.now.lexed.now.tokens c.args.self.now.pos c.args.kind c.requires.item c.tail_begin-begin.result c.tail_begin-begin.ensures)

pub returns-in_err-eat_n_trivias-clause-steps : goal.returns-in_err-eat_n_trivias-clause-steps
returns-in_err-eat_n_trivias-clause-steps g c =
    hands-refused g.S.StrSink.takes g.S.StrSink.refuses _ _ _ c.from_residual.result _ c.from_residual.ensures.1
    (stops-within g.S.StrSink.takes g.S.StrSink.refuses _ _ _ _ _
    (rw (before-item c.args.self.now.lexed.now.tokens c.args.self.now.pos c.args.kind c.requires.item c.tail_begin-begin.result c.tail_begin-begin.ensures) at c.in_err-eat_n_trivias.ensures.steps))

pub returns-clause-steps : goal.returns-clause-steps
returns-clause-steps g c =
    let ts = c.args.self.now.lexed.now.tokens in
    let at = c.args.self.now.pos in
    let begin = c.tail_begin-begin.result in
    let h = c.tail_begin-begin.ensures in
    let tail = leaves_of (attached_tail c.args.kind (trivia_at ts at)) in
    let place : at + (begin - at) ≡ at + length (before_tail c.args.kind (trivia_at ts at)) = omega (arith, place-item ts at c.args.kind c.requires.item begin h) in
    hands-after g.S.StrSink.takes g.S.StrSink.refuses (leaves_of (before_tail c.args.kind (trivia_at ts at))) (str_enter c.args.kind ∷ tail) c.args.sink.now c.eat_n_trivias.new.sink c.eat_trivias.new.sink c.eat_trivias.result
    (rw (before-item ts at c.args.kind c.requires.item begin h) at c.in_ok-eat_n_trivias.ensures.steps)
    (hands-after g.S.StrSink.takes g.S.StrSink.refuses (str_enter c.args.kind ∷ []) tail c.eat_n_trivias.new.sink c.step.new.self c.eat_trivias.new.sink c.eat_trivias.result
    (takes-one g.S.StrSink.takes (str_enter c.args.kind) c.eat_n_trivias.new.sink c.step.new.self c.in_ok-step.ensures)
    (rw (c.in_ok-eat_n_trivias.ensures.after, place, trivia-before ts at c.args.kind) at c.eat_trivias.ensures.steps))

pub returns-clause-after : goal.returns-clause-after
returns-clause-after g c =
    let ts = c.args.self.now.lexed.now.tokens in
    let at = c.args.self.now.pos in
    let begin = c.tail_begin-begin.result in
    let place : at + (begin - at) ≡ at + length (before_tail c.args.kind (trivia_at ts at)) = omega (arith, place-item ts at c.args.kind c.requires.item begin c.tail_begin-begin.ensures) in
    rw (c.in_ok-eat_n_trivias.ensures.after, place, past-before ts at c.args.kind) at c.eat_trivias.ensures.after
