use Rattle.std.proofs.Common.{◌≡◌, ◌+◌, List, [], ◌∷◌, drop, map, sym, ap, ◌∙◌, subst, arith}
use Rattle.std.proofs.lemmas.List.{drop_more, drop_all}
use Rattle.rap_events.specs.Forest.{Forest}
use Rattle.rap_events.specs.Reading.{forest_of}
use Rattle.rap_events.specs.Step.{step_value}
use Rattle.rap_events.specs.StepValue.{StepValue}
use Rattle.rap_events.proofs.Trees.{tree}
use Rattle.rap_lexed.proofs.Covered.{answers-tree}
use Rattle.rap_lexed.proofs.Handed.{hands-refused}
use Rattle.rap_lexed.proofs.Walk.{Stands, stands-start, stands-more, stands-stops, stands-hands, stands-end, answer-used}
use Rattle.rap_lexed.proofs.lexed_str.LexedStr.intersperse_steps.Goals as goal

pub loop-step-init : goal.loop-step-init
loop-step-init g c =
    let f : Forest = forest_of (map step_value c.args.steps.now) in
    subst (λ (l : List StepValue). Stands g.S.StrSink.takes c.args.self.now.tokens f c.args.sink.now c.new-builder.result l c.args.sink.now) c.requires.shown
    (stands-start g.S.StrSink.takes c.args.self.now.tokens f c.args.sink.now c.new-builder.result c.requires.prefix.0
    (ap (λ b. b.lexed.now.tokens) c.new-builder.ensures) (ap (λ b. b.pos) c.new-builder.ensures) (ap (λ b. b.state) c.new-builder.ensures)
    c.requires.tree (tree f c.requires.splits) c.requires.prefix.1)

pub loop-step-preserved : goal.loop-step-preserved
loop-step-preserved g c =
    let xs = c.args.steps.now in
    let i = c.loop-step.step-index in
    let f : Forest = forest_of (map step_value xs) in
    let rest : List StepValue = map step_value (drop (i + 1) xs) in
    let next : map step_value (drop i xs) ≡ step_value c.copied_step.result ∷ rest =
    ap (map step_value) (drop_more xs i c.step-item.result (omega (arith, c.loop-step-test.true)))
    ∙ ap (λ x. step_value x ∷ rest) (sym c.step-item.is)
    ∙ ap (λ v. v ∷ rest) (sym c.copied_step.ensures) in
    rw c.in_ok-step.ensures.after
    (stands-more g.S.StrSink.takes c.args.self.now.tokens f c.args.sink.now c.loop-step.builder (step_value c.copied_step.result) rest c.loop-step.sink
    (subst (λ (l : List StepValue). Stands g.S.StrSink.takes c.args.self.now.tokens f c.args.sink.now c.loop-step.builder l c.loop-step.sink) next c.loop-step.invariant)
    c.step.new.sink c.in_ok-step.ensures.steps)

pub returns-in_err-step-clause-steps : goal.returns-in_err-step-clause-steps
returns-in_err-step-clause-steps g c =
    let xs = c.args.steps.now in
    let i = c.loop-step.step-index in
    let f : Forest = forest_of (map step_value xs) in
    let rest : List StepValue = map step_value (drop (i + 1) xs) in
    let next : map step_value (drop i xs) ≡ step_value c.copied_step.result ∷ rest =
    ap (map step_value) (drop_more xs i c.step-item.result (omega (arith, c.loop-step-test.true)))
    ∙ ap (λ x. step_value x ∷ rest) (sym c.step-item.is)
    ∙ ap (λ v. v ∷ rest) (sym c.copied_step.ensures) in
    hands-refused g.S.StrSink.takes g.S.StrSink.refuses _ _ _ c.from_residual.result _ c.from_residual.ensures.1
    (stands-stops g.S.StrSink.takes c.args.self.now.tokens f c.args.sink.now c.loop-step.builder (step_value c.copied_step.result) rest c.loop-step.sink
    (subst (λ (l : List StepValue). Stands g.S.StrSink.takes c.args.self.now.tokens f c.args.sink.now c.loop-step.builder l c.loop-step.sink) next c.loop-step.invariant)
    g.S.StrSink.refuses c.step.new.sink _ c.in_err-step.ensures.steps)

pub returns-clause-steps : goal.returns-clause-steps
returns-clause-steps g c =
    let xs = c.args.steps.now in
    let f : Forest = forest_of (map step_value xs) in
    let done : map step_value (drop c.loop-step.step-index xs) ≡ [] = ap (map step_value) (drop_all c.loop-step.step-index xs (omega (arith, c.loop-step-test.false))) in
    stands-hands g.S.StrSink.takes c.args.self.now.tokens f c.args.sink.now c.loop-step.builder c.loop-step.sink
    (subst (λ (l : List StepValue). Stands g.S.StrSink.takes c.args.self.now.tokens f c.args.sink.now c.loop-step.builder l c.loop-step.sink) done c.loop-step.invariant)
    g.S.StrSink.refuses c.finish.new.sink c.finish.result c.finish.ensures.steps

pub returns-clause-answer : goal.returns-clause-answer
returns-clause-answer g c =
    let xs = c.args.steps.now in
    let f : Forest = forest_of (map step_value xs) in
    let done : map step_value (drop c.loop-step.step-index xs) ≡ [] = ap (map step_value) (drop_all c.loop-step.step-index xs (omega (arith, c.loop-step-test.false))) in
    answer-used c.args.self.now.tokens _ f c.requires.tree (tree f c.requires.splits) _ c.loop-step.invariant.same
    (stands-end g.S.StrSink.takes c.args.self.now.tokens f c.args.sink.now c.loop-step.builder c.loop-step.sink
    (subst (λ (l : List StepValue). Stands g.S.StrSink.takes c.args.self.now.tokens f c.args.sink.now c.loop-step.builder l c.loop-step.sink) done c.loop-step.invariant))
    (answers-tree c.args.self.now.tokens c.requires.prefix.0 f c.requires.tree c.requires.prefix.1) c.finish.result c.finish.ensures.answer
