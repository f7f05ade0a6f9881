use Rattle.std.proofs.Common.{ap, sym, ◌∙◌, arith}
use Rattle.rap_events.proofs.Trees.{tree}
use Rattle.rap_lexed.proofs.Covered.{answers-tree}
use Rattle.rap_lexed.specs.Trivia.{front_of}
use Rattle.rap_events.specs.Forest.{used}
use Rattle.rap_lexed.proofs.Joined.{joined-front}
use Rattle.rap_lexed.proofs.FewSteps.{few-tree}
use Rattle.rap_lexed.proofs.Handed.{hands-refused}
use Rattle.rap_lexed.proofs.Walk.{stands-start, stands-more, stands-stops, stands-close, stands-unclosed, stands-hands, stands-end, answer-used, answer-whole}
use Rattle.rap_lexed.proofs.lexed_str.LexedStr.intersperse_trivia.Goals as goal

pub steps-init : goal.steps-init
steps-init g c =
    rw c.iter-steps.ensures.steps
    (stands-start g.S.StrSink.takes c.args.self.now.tokens c.args.output.now c.args.sink.now c.new-builder.result c.requires.prefix.0
    (ap (λ b. b.lexed.now.tokens) c.new-builder.ensures) (ap (λ b. b.pos) c.new-builder.ensures) (ap (λ b. b.state) c.new-builder.ensures)
    c.requires.tree (tree c.args.output.now c.iter-steps.ensures.splits) c.requires.prefix.1)

pub steps-preserved : goal.steps-preserved
steps-preserved g c =
    rw c.in_ok-step.ensures.after
    (stands-more g.S.StrSink.takes c.args.self.now.tokens c.args.output.now c.args.sink.now c.steps.builder _ c.next.new.self c.steps.sink
    (rw c.in-Some.ensures.steps at c.steps.invariant) c.step.new.sink c.in_ok-step.ensures.steps)

pub steps-preserved-then-not-is_at_message_or_end : goal.steps-preserved-then-not-is_at_message_or_end
steps-preserved-then-not-is_at_message_or_end g c =
    rw c.in_ok-close.ensures.after
    (stands-close g.S.StrSink.takes c.args.self.now.tokens c.args.output.now c.args.sink.now c.step.new.self c.next.new.self c.step.new.sink
    (rw c.in_ok-step.ensures.after
    (stands-more g.S.StrSink.takes c.args.self.now.tokens c.args.output.now c.args.sink.now c.steps.builder _ c.next.new.self c.steps.sink
    (rw c.in-Some.ensures.steps at c.steps.invariant) c.step.new.sink c.in_ok-step.ensures.steps))
    (c.is_waiting.ensures.0 c.if-is_waiting.true)
    (sym c.is_at_message_or_end.ensures ∙ c.if-not-is_at_message_or_end.true)
    c.close.new.sink c.in_ok-close.ensures.steps)

pub returns-in_err-close-clause-steps : goal.returns-in_err-close-clause-steps
returns-in_err-close-clause-steps g c =
    hands-refused g.S.StrSink.takes g.S.StrSink.refuses _ _ _ c.from_residual-in_err-close.result _ c.from_residual-in_err-close.ensures.1
    (stands-unclosed g.S.StrSink.takes c.args.self.now.tokens c.args.output.now c.args.sink.now c.step.new.self c.next.new.self c.step.new.sink
    (rw c.in_ok-step.ensures.after
    (stands-more g.S.StrSink.takes c.args.self.now.tokens c.args.output.now c.args.sink.now c.steps.builder _ c.next.new.self c.steps.sink
    (rw c.in-Some.ensures.steps at c.steps.invariant) c.step.new.sink c.in_ok-step.ensures.steps))
    (c.is_waiting.ensures.0 c.if-is_waiting.true)
    (sym c.is_at_message_or_end.ensures ∙ c.if-not-is_at_message_or_end.true)
    g.S.StrSink.refuses c.close.new.sink _ c.in_err-close.ensures.steps)

pub returns-in_err-step-clause-steps : goal.returns-in_err-step-clause-steps
returns-in_err-step-clause-steps g c =
    hands-refused g.S.StrSink.takes g.S.StrSink.refuses _ _ _ c.from_residual.result _ c.from_residual.ensures.1
    (stands-stops g.S.StrSink.takes c.args.self.now.tokens c.args.output.now c.args.sink.now c.steps.builder _ c.next.new.self c.steps.sink
    (rw c.in-Some.ensures.steps at c.steps.invariant) g.S.StrSink.refuses c.step.new.sink _ c.in_err-step.ensures.steps)

pub returns-in_err-step-clause-touching : goal.returns-in_err-step-clause-touching
returns-in_err-step-clause-touching g c = (answers-tree c.args.self.now.tokens c.requires.prefix.0 c.args.output.now c.requires.tree c.requires.prefix.1).touch

pub returns-clause-steps : goal.returns-clause-steps
returns-clause-steps g c =
    stands-hands g.S.StrSink.takes c.args.self.now.tokens c.args.output.now c.args.sink.now c.steps.builder c.steps.sink
    (rw c.in_default.ensures.steps.0 at c.steps.invariant) g.S.StrSink.refuses c.finish.new.sink c.finish.result c.finish.ensures.steps

pub returns-clause-answer : goal.returns-clause-answer
returns-clause-answer g c =
    answer-used c.args.self.now.tokens _ c.args.output.now c.requires.tree (tree c.args.output.now c.iter-steps.ensures.splits) _ c.steps.invariant.same
    (stands-end g.S.StrSink.takes c.args.self.now.tokens c.args.output.now c.args.sink.now c.steps.builder c.steps.sink (rw c.in_default.ensures.steps.0 at c.steps.invariant))
    (answers-tree c.args.self.now.tokens c.requires.prefix.0 c.args.output.now c.requires.tree c.requires.prefix.1) c.finish.result c.finish.ensures.answer

pub returns-clause-touching : goal.returns-clause-touching
returns-clause-touching g c = (answers-tree c.args.self.now.tokens c.requires.prefix.0 c.args.output.now c.requires.tree c.requires.prefix.1).touch

pub returns-clause-whole : goal.returns-clause-whole
returns-clause-whole g c =
    answer-whole c.args.self.now.tokens _ c.args.output.now c.requires.tree (tree c.args.output.now c.iter-steps.ensures.splits) _ c.steps.invariant.same
    (stands-end g.S.StrSink.takes c.args.self.now.tokens c.args.output.now c.args.sink.now c.steps.builder c.steps.sink (rw c.in_default.ensures.steps.0 at c.steps.invariant))
    (answers-tree c.args.self.now.tokens c.requires.prefix.0 c.args.output.now c.requires.tree c.requires.prefix.1) c.finish.result c.finish.ensures.answer

pub returns-in_err-step-clause-front : goal.returns-in_err-step-clause-front
returns-in_err-step-clause-front g c =
    let answers = answers-tree c.args.self.now.tokens c.requires.prefix.0 c.args.output.now c.requires.tree c.requires.prefix.1 in
    joined-front c.args.self.now.tokens (front_of (used c.args.output.now) c.args.self.now.tokens) c.args.output.now c.requires.tree
    (tree c.args.output.now c.iter-steps.ensures.splits) answers.touch answers.front

pub returns-clause-front : goal.returns-clause-front
returns-clause-front g c =
    let answers = answers-tree c.args.self.now.tokens c.requires.prefix.0 c.args.output.now c.requires.tree c.requires.prefix.1 in
    joined-front c.args.self.now.tokens (front_of (used c.args.output.now) c.args.self.now.tokens) c.args.output.now c.requires.tree
    (tree c.args.output.now c.iter-steps.ensures.splits) answers.touch answers.front

pub returns-in_err-step-clause-few : goal.returns-in_err-step-clause-few
returns-in_err-step-clause-few g c =
    let answers = answers-tree c.args.self.now.tokens c.requires.prefix.0 c.args.output.now c.requires.tree c.requires.prefix.1 in
    omega (arith, answers.within, few-tree c.args.self.now.tokens c.args.output.now c.requires.tree (tree c.args.output.now c.iter-steps.ensures.splits))

pub returns-clause-few : goal.returns-clause-few
returns-clause-few g c =
    let answers = answers-tree c.args.self.now.tokens c.requires.prefix.0 c.args.output.now c.requires.tree c.requires.prefix.1 in
    omega (arith, answers.within, few-tree c.args.self.now.tokens c.args.output.now c.requires.tree (tree c.args.output.now c.iter-steps.ensures.splits))

pub returns-in_err-close-clause-touching : goal.returns-in_err-close-clause-touching
returns-in_err-close-clause-touching g c = (answers-tree c.args.self.now.tokens c.requires.prefix.0 c.args.output.now c.requires.tree c.requires.prefix.1).touch

pub returns-in_err-close-clause-front : goal.returns-in_err-close-clause-front
returns-in_err-close-clause-front g c =
    let answers = answers-tree c.args.self.now.tokens c.requires.prefix.0 c.args.output.now c.requires.tree c.requires.prefix.1 in
    joined-front c.args.self.now.tokens (front_of (used c.args.output.now) c.args.self.now.tokens) c.args.output.now c.requires.tree
    (tree c.args.output.now c.iter-steps.ensures.splits) answers.touch answers.front

pub returns-in_err-close-clause-few : goal.returns-in_err-close-clause-few
returns-in_err-close-clause-few g c =
    let answers = answers-tree c.args.self.now.tokens c.requires.prefix.0 c.args.output.now c.requires.tree c.requires.prefix.1 in
    omega (arith, answers.within, few-tree c.args.self.now.tokens c.args.output.now c.requires.tree (tree c.args.output.now c.iter-steps.ensures.splits))
