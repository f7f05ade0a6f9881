use Rattle.std.proofs.Common.{◌≡◌, ◌+◌, List, [], ◌∷◌, drop, map, sym, ap, ◌∙◌, subst, arith}
use Rattle.std.proofs.lemmas.List.{drop_more}
use Rattle.rap_lexed.specs.StrStep.{StrStepValue, str_step_value}
use Rattle.rap_lexed.proofs.Handed.{Reached, reached-more, takes-one}
use Rattle.rap_lexed.proofs.shortcuts.builder.hand_out.Goals as goal

pub steps-preserved : goal.steps-preserved
steps-preserved g c =
    let i = c.steps.step-index in
    let xs = c.args.steps.now in
    let rest : List StrStepValue = map str_step_value (drop (i + 1) xs) in
    let next : map str_step_value (drop i xs) ≡ str_step_value c.copied.result ∷ rest =
    ap (map str_step_value) (drop_more xs i c.step-item.result (omega (arith, c.steps-test.true)))
    ∙ ap (λ x. str_step_value x ∷ rest) (sym c.step-item.is)
    ∙ ap (λ v. v ∷ rest) (sym c.copied.ensures) in
    reached-more g.S.StrSink.takes (map str_step_value xs) (str_step_value c.copied.result ∷ []) rest c.args.sink.now c.steps.sink c.step.new.self
    (subst (λ (l : List StrStepValue). Reached g.S.StrSink.takes (map str_step_value xs) c.args.sink.now l c.steps.sink) next c.steps.invariant)
    (takes-one g.S.StrSink.takes (str_step_value c.copied.result) c.steps.sink c.step.new.self c.in_ok-step.ensures)
