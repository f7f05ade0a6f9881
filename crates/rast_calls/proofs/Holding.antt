-- What a sink holds of steps, and how many messages there are among steps.
use Rattle.std.proofs.Common.{◌≡◌, ℕ, ◌+◌, ◌≤◌, List, [], ◌∷◌, ◌++◌, Bool, length, ap, sym, ◌∙◌, subst, codes, string_bytes, append_assoc, append-nil, arith, inl, inr}
use Rattle.rap_base.specs.declared.edition.Edition.{Edition}
use Rattle.rap_events.specs.StepValue.{StepValue, enter, exit, token, float_split, error}
use Rattle.rap_lexed.specs.LexedStr.{Lexed}
use Rattle.rap_lexed.specs.StrForest.{str_flat}
use Rattle.rap_lexed.specs.StrSink.{Takes}
use Rattle.rap_lexed.specs.StrStep.{StrStepValue}
use Rattle.rap_lexed.specs.Trivia.{with_trivia}
use Rattle.ra_ap_parser.specs.Headline.{CutShort, Headline, Leaves}
use Rattle.ra_ap_parser.specs.declared.entry_point.TopEntryPoint.{TopEntryPoint}
use Rattle.ra_ap_parser.specs.declared.whole_text.TextFault.{TextFault}
use Rattle.ra_ap_parser.specs.declared.whole_text.TextFault.TheVariants.{Refused}
use Rattle.rast_calls.specs.Held.{Holds, IsHeld, Refuses, answer_line, str_line, str_lines}
use Rattle.rast_calls.specs.Listed.{messages_in}
use Rattle.rast_calls.specs.declared.sink.Holder.{Holder}
use Rattle.rast_calls.specs.declared.sink.Refusal.{Refusal}
use Rattle.rast_calls.specs.declared.sink.Refusal.TheVariants.{Full}

-- there are no more messages than steps
pub messages_few : (steps : List StepValue) → messages_in steps ≤ length steps
messages_few [] = omega arith
messages_few (enter kind ∷ steps) = omega (arith, messages_few steps)
messages_few (exit ∷ steps) = omega (arith, messages_few steps)
messages_few (token kind width ∷ steps) = omega (arith, messages_few steps)
messages_few (float_split ends_in_dot ∷ steps) = omega (arith, messages_few steps)
messages_few (error bytes ∷ steps) = omega (arith, messages_few steps)

-- the lines along the steps that a sink accepts
lines_along : (steps : List StrStepValue) (s t : Holder) → Takes Holds s steps t → string_bytes t.lines ≡ string_bytes s.lines ++ str_lines steps
lines_along [] s t h = ap (λ (p : Holder). string_bytes p.lines) (sym h) ∙ sym (append-nil (string_bytes s.lines))
lines_along (x ∷ xs) s t h =
    let m = h.0 in
    lines_along xs m t h.2
    ∙ (ap (λ l. l ++ str_lines xs) h.1.lines
    ∙ append_assoc (string_bytes s.lines) (str_line x) (str_lines xs))

-- how many more it accepts after them
left_along : (steps : List StrStepValue) (s t : Holder) → Takes Holds s steps t → t.left + length steps ≡ s.left
left_along [] s t h = let same : t.left ≡ s.left = ap (λ (p : Holder). p.left) (sym h) in omega (arith, same)
left_along (x ∷ xs) s t h = let m = h.0 in omega (arith, left_along xs m t h.2, h.1.left)

-- all steps, from a sink that held nothing
pub holds_all : (text : List ℕ) (edition : Edition) (entry : TopEntryPoint) (count : ℕ) (lexed : Lexed) (whole : Bool) (s t : Holder) (lines : List ℕ)
    → string_bytes s.lines ≡ [] → s.left ≡ count
    → Headline Holds text edition entry lexed whole s t
    → lines ≡ string_bytes t.lines ++ answer_line whole
    → IsHeld text edition entry count lines
holds_all text edition entry count lexed whole s t lines none_yet from h is =
    let steps = str_flat (with_trivia lexed.tokens h.forest) in
    let here : string_bytes t.lines ≡ str_lines steps = lines_along steps s t h.taken ∙ ap (λ l. l ++ str_lines steps) none_yet in
    inl (record {
      lexed = lexed;
      forest = h.forest;
      parsed = h.parsed;
      few = omega (arith, left_along steps s t h.taken, from);
      is = is ∙ (ap (λ a. string_bytes t.lines ++ answer_line a) h.all ∙ ap (λ l. l ++ codes "answer true\n") here);
    })

-- the first of the steps, if it refused the next one
pub holds_first : (text : List ℕ) (edition : Edition) (entry : TopEntryPoint) (count : ℕ) (fault : TextFault Refusal) (s t : Holder) (lines : List ℕ)
    → string_bytes s.lines ≡ [] → s.left ≡ count
    → fault ≡ Refused Full
    → Leaves Holds Refuses text edition entry fault s t
    → lines ≡ string_bytes t.lines ++ codes "refused\n"
    → IsHeld text edition entry count lines
holds_first text edition entry count fault s t lines none_yet from full left is =
    let h : CutShort Holds Refuses text edition entry Full s t = subst (λ (f : TextFault Refusal). Leaves Holds Refuses text edition entry f s t) full left in
    let stop = h.stopped in
    let here : string_bytes t.lines ≡ str_lines stop.prefix =
    stop.refused.1 ∙ (lines_along stop.prefix s stop.before stop.taken ∙ ap (λ l. l ++ str_lines stop.prefix) none_yet) in
    inr (record {
      lexed = h.lexed;
      forest = h.forest;
      parsed = h.parsed;
      prefix = stop.prefix;
      next = stop.next;
      back = stop.back;
      split = stop.split;
      many = omega (arith, left_along stop.prefix s stop.before stop.taken, stop.refused.0, from);
      is = is ∙ ap (λ l. l ++ codes "refused\n") here;
    })
