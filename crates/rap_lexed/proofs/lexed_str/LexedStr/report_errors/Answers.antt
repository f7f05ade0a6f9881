use Rattle.std.proofs.Common.{◌≡◌, ℕ, ◌+◌, List, [], ◌∷◌, length, drop, sym, ap, ◌∙◌, subst}
use Rattle.std.proofs.lemmas.List.{drop_more}
use Rattle.rap_lexed.specs.ErrorSteps.{error_steps}
use Rattle.rap_lexed.specs.LexedStr.{AreInOrder, Message, Token, start_of}
use Rattle.rap_lexed.specs.StrStep.{StrStepValue, str_error}
use Rattle.rap_lexed.proofs.Cuts.{count}
use Rattle.rap_lexed.proofs.Handed.{Reached, reached-none, reached-more, takes-one}
use Rattle.rap_lexed.proofs.lexed_str.LexedStr.report_errors.Goals as goal

pub errors-init : goal.errors-init
errors-init g c =
    let ms : List Message = c.args.self.now.errors in
    let n : length c.args.self.now.tokens ≡ length c.self.inside.kind.items = count _ _ _ c.self.invariant.0 _ (ap (λ l. l.tokens) c.self.view_is) in
    let ordered : AreInOrder (length c.self.inside.kind.items) ms =
    subst (λ (l : List Message). AreInOrder (length c.self.inside.kind.items) l) (ap (λ l. l.errors) c.self.view_is) c.self.invariant.2 in
    record {
      ordered = subst (λ (k : ℕ). AreInOrder k ms) (sym n) ordered;
      so = reached-none g.S.StrSink.takes (error_steps c.args.self.now.tokens ms) c.args.sink.now;
    }

pub errors-preserved : goal.errors-preserved
errors-preserved g c =
    let ts : List Token = c.args.self.now.tokens in
    let ms : List Message = c.args.self.now.errors in
    let i : ℕ = c.errors.error-index in
    let m : Message = c.error-item.result in
    let all : List Message = c.deref-error-items.result.now in
    let same : all ≡ ms = c.deref-error-items.ensures.value ∙ ap (λ l. l.errors) c.self.view_is in
    let next : drop i ms ≡ m ∷ drop (i + 1) ms =
    subst (λ (l : List Message). drop i l ≡ m ∷ drop (i + 1) l) same
    (drop_more all i m c.errors-test.true ∙ ap (λ x. x ∷ drop (i + 1) all) (sym c.error-item.is)) in
    let rest : List StrStepValue = error_steps ts (drop (i + 1) ms) in
    let steps : error_steps ts (drop i ms) ≡ str_error c.message-msg.result.now c.text_start-pos.result ∷ rest =
    ap (λ (l : List Message). error_steps ts l) next
    ∙ ap (λ (t : List ℕ). str_error t (start_of ts m.token) ∷ rest) (sym c.message-msg.ensures)
    ∙ ap (λ (p : ℕ). str_error c.message-msg.result.now p ∷ rest) (ap (λ (k : ℕ). start_of ts k) (sym c.token.ensures) ∙ sym c.text_start-pos.ensures) in
    record {
      ordered = (subst (λ (l : List Message). AreInOrder (length ts) l) next c.errors.invariant.ordered).2;
      so = reached-more g.S.StrSink.takes (error_steps ts ms) (str_error c.message-msg.result.now c.text_start-pos.result ∷ []) rest c.args.sink.now c.errors.sink c.step.new.self
          (subst (λ (l : List StrStepValue). Reached g.S.StrSink.takes (error_steps ts ms) c.args.sink.now l c.errors.sink) steps c.errors.invariant.so)
          (takes-one g.S.StrSink.takes (str_error c.message-msg.result.now c.text_start-pos.result) c.errors.sink c.step.new.self c.in_ok-step.ensures);
    }
