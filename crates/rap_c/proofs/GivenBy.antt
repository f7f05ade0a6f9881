-- What a filler returns to its caller.
use Rattle.std.proofs.Common.{◌≡◌, ℕ, List, [], ◌∷◌, ◌++◌, true, false, length, refl, ap, subst, sym, ◌∙◌, zero-add}
use Rattle.std.proofs.lemmas.Bool.{cond-true, cond-false}
use Rattle.rap_events.specs.Forest.{Forest, flat, one_tree}
use Rattle.rap_lexed.specs.LexedStr.{Token}
use Rattle.rap_lexed.specs.StrForest.{str_flat}
use Rattle.rap_lexed.specs.StrSink.{Takes}
use Rattle.rap_lexed.specs.StrStep.{StrStepValue}
use Rattle.rap_lexed.specs.Trivia.{with_trivia}
use Rattle.rap_c.specs.Item.{Item, counted, all_said, text_items, output_items}
use Rattle.rap_c.specs.Filling.{Filling, after_all}
use Rattle.rap_c.specs.Fills.{filling_of, IsStart, IsSame, AddsAll, AddsStep}
use Rattle.rap_c.specs.Given.{IsGiven}
use Rattle.rap_c.specs.Output.{items_of}
use Rattle.rap_c.specs.declared.answer.RapAnswer.{RapAnswer}
use Rattle.rap_c.specs.declared.filler.Filler.{Filler}
use Rattle.rap_c.specs.declared.step.RapStep.{RapStep}
use Rattle.rap_c.proofs.Filled.{IsAt, steps_along, messages_along, count_along, said_along, after_all-append}
use Rattle.rap_c.proofs.Put.{same_refl, same_trans}

-- the steps of a tree, taken one after another
pub along : (steps : List StrStepValue) (f g : Filler) → Takes AddsStep f steps g → AddsAll (text_items steps) f g
along [] f g h = record { is = ap filling_of (sym h); same = subst (λ i. IsSame f i) h (same_refl f) }
along (x ∷ xs) f g h =
    let rest : AddsAll (text_items xs) h.0 g = along xs h.0 g h.2 in
    record {
      is = rest.is ∙ ap (λ i. after_all i (text_items xs)) h.1.is;
      same = same_trans f h.0 g h.1.same rest.same;
    }

-- items, and others after them
pub then : (xs ys : List Item) (f g i : Filler) → AddsAll xs f g → AddsAll ys g i → AddsAll (xs ++ ys) f i
then xs ys f g i a b = record {
  is = b.is ∙ (ap (λ s. after_all s ys) a.is ∙ sym (after_all-append (filling_of f) xs ys));
  same = same_trans f g i a.same b.same;
}

started : (steps : List RapStep) (messages : List ℕ) (f : Filler) → IsStart steps messages f → IsAt (record { steps = steps; messages = messages; count = 0; said = 0; place = 0 }) 0 0 0
started steps messages f h = record { count_is = refl; said_is = refl; place_is = refl; short_steps = h.short_steps; short_messages = h.short_messages }

-- all that was added is returned
pub given_by : (xs : List Item) (steps : List RapStep) (messages : List ℕ) (f g : Filler) (status used : ℕ) → IsStart steps messages f → AddsAll xs f g
    → IsGiven xs steps g.steps.now messages g.messages.now (record { status = status; steps = g.count; message_bytes = g.said; used = used })
given_by xs steps messages f g status used start added =
    let begin : Filling = record { steps = steps; messages = messages; count = 0; said = 0; place = 0 } in
    let at : IsAt begin 0 0 0 = started steps messages f start in
    let is : filling_of g ≡ after_all begin xs = added.is ∙ ap (λ s. after_all s xs) start.is in
    record {
      steps_are = ap (λ (s : Filling). s.steps) is ∙ steps_along xs begin 0 0 0 at;
      messages_are = ap (λ (s : Filling). s.messages) is ∙ messages_along xs begin 0 0 0 at;
      count = ap (λ (s : Filling). s.count) is ∙ (count_along xs begin 0 0 0 at ∙ ap counted (zero-add (length xs)));
      bytes = ap (λ (s : Filling). s.said) is ∙ (said_along xs begin 0 0 0 at ∙ ap counted (zero-add (length (all_said xs))));
    }

-- all that was added is in the caller's room when the call returns
pub given_back : (xs : List Item) (steps steps_after : List RapStep) (messages messages_after : List ℕ) (f g : Filler) (status used : ℕ) (answer : RapAnswer)
    → IsStart steps messages f → AddsAll xs f g → steps_after ≡ g.steps.now → messages_after ≡ g.messages.now
    → answer ≡ record { status = status; steps = g.count; message_bytes = g.said; used = used } → IsGiven xs steps steps_after messages messages_after answer
given_back xs steps steps_after messages messages_after f g status used answer start added e d is =
    let h = given_by xs steps messages f g status used start added in
    record {
      steps_are = e ∙ h.steps_are;
      messages_are = d ∙ h.messages_are;
      count = ap (λ (a : RapAnswer). a.steps) is ∙ h.count;
      bytes = ap (λ (a : RapAnswer). a.message_bytes) is ∙ h.bytes;
    }

-- the items of an output that is one tree, and of one that is not
pub tree_added : (ts : List Token) (output : Forest) (f g : Filler) → one_tree output ≡ true → AddsAll (text_items (str_flat (with_trivia ts output))) f g → AddsAll (items_of ts output) f g
tree_added ts output f g e h = subst (λ xs. AddsAll xs f g) (sym (cond-true (one_tree output) (text_items (str_flat (with_trivia ts output))) (output_items (flat output)) e)) h

pub steps_added : (ts : List Token) (output : Forest) (f g : Filler) → one_tree output ≡ false → AddsAll (output_items (flat output)) f g → AddsAll (items_of ts output) f g
steps_added ts output f g e h = subst (λ xs. AddsAll xs f g) (sym (cond-false (one_tree output) (text_items (str_flat (with_trivia ts output))) (output_items (flat output)) e)) h
