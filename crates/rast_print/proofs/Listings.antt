-- What is listed of an output.
use Rattle.std.proofs.Common.{◌≡◌, ℕ, ◌≤◌, ◌<◌, List, [], ◌++◌, true, false, codes, ap, subst, sym, ◌∙◌, append_assoc, append-nil, length}
use Rattle.std.proofs.lemmas.Bool.{cond-true, cond-false}
use Rattle.rap_base.specs.declared.edition.Edition.{Edition}
use Rattle.rap_events.specs.Record.{Record}
use Rattle.rap_events.specs.Forest.{Forest, one_tree}
use Rattle.std.proofs.Common.{string_bytes}
use Rattle.ra_ap_parser.specs.Headline.{HasTooManyTokens}
use Rattle.rap_lexed.specs.LexedStr.{Lexed, IsLexing, Token}
use Rattle.rap_lexed.specs.StrSink.{Takes}
use Rattle.rap_lexed.specs.StrStep.{StrStepValue}
use Rattle.rap_lexed.specs.Trivia.{significant}
use Rattle.rast_print.specs.Printed.{printed, reported}
use Rattle.rast_print.specs.Prints.{Prints}
use Rattle.rast_print.specs.declared.printer.Printer.{Printer}
use Rattle.rast_print.proofs.Lines.{tree_along, messages_along}
use Rattle.rast_print.specs.Listed.{tree_lines, tree_part}
use Rattle.rap_base.specs.Limits.{max_tokens}

-- the lines of a tree after those that a printer began with
pub tree_after : (lines : List ℕ) (steps : List StrStepValue) (s t : Printer) → s.tree ≡ lines → s.depth ≡ 0 → Takes Prints s steps t → t.tree ≡ lines ++ printed 0 steps
tree_after lines steps s t begun no_depth h = tree_along steps s t h ∙ (ap (λ l. l ++ printed s.depth steps) begun ∙ ap (λ d. lines ++ printed d steps) no_depth)

pub messages_from : (steps : List StrStepValue) (s t : Printer) → string_bytes s.messages ≡ [] → Takes Prints s steps t → string_bytes t.messages ≡ reported steps
messages_from steps s t none_yet h = messages_along steps s t h ∙ ap (λ l. l ++ reported steps) none_yet

-- the lines of an output that is no tree, and of one that is
pub no_tree : (l : List ℕ) (ts : List Token) (output : Forest) → one_tree output ≡ false → l ≡ l ++ tree_part ts output
no_tree l ts output h = sym (ap (λ part. l ++ part) (cond-false (one_tree output) (codes "tree\n" ++ tree_lines ts output) [] h) ∙ append-nil l)

pub a_tree : (l : List ℕ) (ts : List Token) (output : Forest) → one_tree output ≡ true → (l ++ codes "tree\n") ++ tree_lines ts output ≡ l ++ tree_part ts output
a_tree l ts output h =
    append_assoc l (codes "tree\n") (tree_lines ts output) ∙
    sym (ap (λ part. l ++ part) (cond-true (one_tree output) (codes "tree\n" ++ tree_lines ts output) [] h))

-- a text with this number of records
pub too_many : (text : List ℕ) (edition : Edition) (lexed : Lexed) (input : List Record) → length text ≤ 4294967295 → IsLexing text edition lexed → length input ≡ significant lexed.tokens → max_tokens < length input → HasTooManyTokens text edition
too_many text edition lexed input small lexing e many = record {
  small = small;
  lexed = lexed;
  lexing = lexing;
  many = subst (λ n. max_tokens < n) e many;
}
