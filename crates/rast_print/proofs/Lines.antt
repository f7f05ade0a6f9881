-- What a printer has written along the steps of a tree.
use Rattle.std.proofs.Common.{◌≡◌, ℕ, List, [], ◌∷◌, ◌++◌, refl, ap, sym, ◌∙◌, Bool, string_bytes, append_assoc, append-nil}
use Rattle.rap_base.specs.declared.edition.Edition.{Edition}
use Rattle.rap_lexed.specs.ErrorSteps.{error_steps}
use Rattle.rap_lexed.specs.LexedStr.{Lexed, Token, Message}
use Rattle.rap_lexed.specs.StrForest.{str_flat}
use Rattle.rap_lexed.specs.StrSink.{Takes}
use Rattle.rap_lexed.specs.StrStep.{StrStepValue}
use Rattle.rap_lexed.specs.Trivia.{with_trivia}
use Rattle.ra_ap_parser.specs.Headline.{Headline}
use Rattle.ra_ap_parser.specs.declared.entry_point.TopEntryPoint.{TopEntryPoint}
use Rattle.rast_print.specs.Printed.{line, printed, reported_line, reported, lexer_reported}
use Rattle.rast_print.specs.Prints.{Prints}
use Rattle.rast_print.specs.Shown.{IsPrinted}
use Rattle.rast_print.specs.declared.printer.Printer.{Printer}

pub tree_along : (steps : List StrStepValue) (s t : Printer) → Takes Prints s steps t → t.tree ≡ s.tree ++ printed s.depth steps
tree_along [] s t h = ap (λ (p : Printer). p.tree) (sym h) ∙ sym (append-nil (s.tree))
tree_along (x ∷ xs) s t h =
    let m = h.0 in
    tree_along xs m t h.2
    ∙ (ap (λ l. l ++ printed m.depth xs) h.1.tree
    ∙ (append_assoc (s.tree) (line s.depth x) (printed m.depth xs)
    ∙ ap (λ d. s.tree ++ (line s.depth x ++ printed d xs)) h.1.depth))

pub messages_along : (steps : List StrStepValue) (s t : Printer) → Takes Prints s steps t → string_bytes t.messages ≡ string_bytes s.messages ++ reported steps
messages_along [] s t h = ap (λ (p : Printer). string_bytes p.messages) (sym h) ∙ sym (append-nil (string_bytes s.messages))
messages_along (x ∷ xs) s t h =
    let m = h.0 in
    messages_along xs m t h.2
    ∙ (ap (λ l. l ++ reported xs) h.1.messages
    ∙ append_assoc (string_bytes s.messages) (reported_line x) (reported xs))

-- the lexer's messages add no line to the tree's
printed-errors : (depth : ℕ) (ts : List Token) (ms : List Message) → printed depth (error_steps ts ms) ≡ []
printed-errors depth ts [] = refl
printed-errors depth ts (m ∷ ms) = printed-errors depth ts ms

pub same_after_errors : (ts : List Token) (ms : List Message) (s t : Printer) → Takes Prints s (error_steps ts ms) t → t.tree ≡ s.tree
same_after_errors ts ms s t h = tree_along (error_steps ts ms) s t h ∙ (ap (λ l. s.tree ++ l) (printed-errors s.depth ts ms) ∙ append-nil s.tree)

-- the lines of a tree and of all messages, from a printer that had written nothing
pub printed_whole : (text : List ℕ) (edition : Edition) (entry : TopEntryPoint) (lexed : Lexed) (all : Bool) (s t u : Printer)
    → s.tree ≡ [] → string_bytes s.messages ≡ [] → s.depth ≡ 0
    → Headline Prints text edition entry lexed all s t → Takes Prints t (error_steps lexed.tokens lexed.errors) u
    → IsPrinted text edition entry u
printed_whole text edition entry lexed all s t u no_tree no_messages no_depth h more =
    let steps = str_flat (with_trivia lexed.tokens h.forest) in
    record {
      lexed = lexed;
      forest = h.forest;
      parsed = h.parsed;
      tree = same_after_errors lexed.tokens lexed.errors t u more ∙ (tree_along steps s t h.taken ∙ (ap (λ l. l ++ printed s.depth steps) no_tree ∙ ap (λ d. printed d steps) no_depth));
      messages = messages_along (error_steps lexed.tokens lexed.errors) t u more ∙ ap (λ l. l ++ lexer_reported lexed.tokens lexed.errors) (messages_along steps s t h.taken ∙ ap (λ l. l ++ reported steps) no_messages);
    }
