-- What the sink has written along the steps of a tree.
use Rattle.std.proofs.Common.{◌≡◌, ℕ, List, [], ◌∷◌, ◌++◌, refl, ap, sym, ◌∙◌, Bool, string_bytes, append_assoc, append-nil}
use Rattle.rap_base.specs.declared.edition.Edition.{Edition}
use Rattle.rap_lexed.specs.ErrorSteps.{error_steps}
use Rattle.rap_lexed.specs.LexedStr.{Lexed, Token, Message}
use Rattle.rap_lexed.specs.StrForest.{str_flat}
use Rattle.rap_lexed.specs.StrSink.{Takes}
use Rattle.rap_lexed.specs.StrStep.{StrStepValue}
use Rattle.rap_lexed.specs.Trivia.{with_trivia}
use Rattle.ra_ap_parser.specs.Headline.{Headline}
use Rattle.ra_ap_parser.specs.declared.entry_point.TopEntryPoint.{TopEntryPoint}
use Rattle.rast_page.specs.Ran.{AreRows}
use Rattle.rast_page.specs.Rows.{step_row, step_rows, step_message_row, message_rows, lexer_message_rows}
use Rattle.rast_page.specs.Takes.{Records}
use Rattle.rast_page.specs.declared.rows.Rows.{Rows}

pub steps_along : (steps : List StrStepValue) (s t : Rows) → Takes Records s steps t → string_bytes t.steps ≡ string_bytes s.steps ++ step_rows steps
steps_along [] s t h = ap (λ (r : Rows). string_bytes r.steps) (sym h) ∙ sym (append-nil (string_bytes s.steps))
steps_along (x ∷ xs) s t h =
    let m = h.0 in
    steps_along xs m t h.2
    ∙ (ap (λ l. l ++ step_rows xs) h.1.steps
    ∙ append_assoc (string_bytes s.steps) (step_row x) (step_rows xs))

pub messages_along : (steps : List StrStepValue) (s t : Rows) → Takes Records s steps t → string_bytes t.messages ≡ string_bytes s.messages ++ message_rows steps
messages_along [] s t h = ap (λ (r : Rows). string_bytes r.messages) (sym h) ∙ sym (append-nil (string_bytes s.messages))
messages_along (x ∷ xs) s t h =
    let m = h.0 in
    messages_along xs m t h.2
    ∙ (ap (λ l. l ++ message_rows xs) h.1.messages
    ∙ append_assoc (string_bytes s.messages) (step_message_row x) (message_rows xs))

-- the lexer's messages add no row to the tree's
step_rows-errors : (ts : List Token) (ms : List Message) → step_rows (error_steps ts ms) ≡ []
step_rows-errors ts [] = refl
step_rows-errors ts (m ∷ ms) = step_rows-errors ts ms

pub same_after_errors : (ts : List Token) (ms : List Message) (s t : Rows) → Takes Records s (error_steps ts ms) t → string_bytes t.steps ≡ string_bytes s.steps
same_after_errors ts ms s t h = steps_along (error_steps ts ms) s t h ∙ (ap (λ l. string_bytes s.steps ++ l) (step_rows-errors ts ms) ∙ append-nil (string_bytes s.steps))

-- the rows of a tree and of all messages, from a sink that had written nothing
pub rows_whole : (text : List ℕ) (edition : Edition) (entry : TopEntryPoint) (lexed : Lexed) (all : Bool) (s t u : Rows)
    → string_bytes s.steps ≡ [] → string_bytes s.messages ≡ []
    → Headline Records text edition entry lexed all s t → Takes Records t (error_steps lexed.tokens lexed.errors) u
    → AreRows text edition entry u
rows_whole text edition entry lexed all s t u no_steps no_messages h more =
    let steps = str_flat (with_trivia lexed.tokens h.forest) in
    record {
      lexed = lexed;
      forest = h.forest;
      parsed = h.parsed;
      steps = same_after_errors lexed.tokens lexed.errors t u more ∙ (steps_along steps s t h.taken ∙ ap (λ l. l ++ step_rows steps) no_steps);
      messages = messages_along (error_steps lexed.tokens lexed.errors) t u more ∙ ap (λ l. l ++ lexer_message_rows lexed.tokens lexed.errors) (messages_along steps s t h.taken ∙ ap (λ l. l ++ message_rows steps) no_messages);
    }
