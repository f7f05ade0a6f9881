-- What a collector holds along the steps of a tree.
use Rattle.std.proofs.Common.{◌≡◌, ℕ, List, [], ◌∷◌, ◌++◌, refl, ap, subst, sym, ◌∙◌, Bool, append_assoc, append-nil, length, map}
use Rattle.std.specs.Prelude.{◌↔◌, IsTrue}
use Rattle.rap_base.specs.declared.edition.Edition.{Edition}
use Rattle.std.specs.List.Sorted.{IsNonDecreasingBy}
use Rattle.rap_lexed.specs.ErrorSteps.{error_steps}
use Rattle.rap_events.specs.Forest.{Forest, used}
use Rattle.rap_lexed.specs.LexedStr.{Lexed, Message, Token, joined, start_of}
use Rattle.rap_lexed.specs.StrForest.{str_flat, str_joined}
use Rattle.rap_lexed.specs.StrSink.{Takes}
use Rattle.rap_lexed.specs.StrStep.{StrStepValue}
use Rattle.rap_lexed.specs.Trivia.{significant, with_trivia}
use Rattle.ra_ap_parser.specs.Headline.{Headline, IsParsed}
use Rattle.ra_ap_parser.proofs.Parsed.{headed}
use Rattle.ra_ap_parser.specs.declared.entry_point.TopEntryPoint.{TopEntryPoint}
use Rattle.rap_ranged.proofs.MessageOrder.{merged_in_order}
use Rattle.rap_ranged.specs.MergedMessages.{merged}
use Rattle.rap_ranged.specs.Ranged.{Ranged}
use Rattle.rap_ranged.specs.RangedForest.{RangedNode}
use Rattle.rap_ranged.specs.RangedMessages.{RangedMessage, ranged_message}
use Rattle.rap_ranged.specs.Reports.{ReportValue, reports_of_step, reports_of, lexer_reports}
use Rattle.rap_ranged.specs.Seats.{AreSeated}
use Rattle.flat_tree.specs.Building.{Builds, building}
use Rattle.flat_tree.specs.Built.{IsOver}
use Rattle.flat_tree.specs.Collects.{Collects}
use Rattle.flat_tree.specs.FlatTree.{elements_of_tree, no_parent}
use Rattle.flat_tree.specs.TextTree.{IsFlatText}
use Rattle.flat_tree.specs.declared.collector.Collector.{Collector}
use Rattle.flat_tree.specs.declared.element.Element.{Element}
use Rattle.flat_tree.proofs.Runs.{held}
use Rattle.flat_tree.proofs.Trees.{IsOrdered, flat_of, ordered, over_of}

builds_along : (steps : List StrStepValue) (s t : Collector) → Takes Collects s steps t → Takes Builds s.builder steps t.builder
builds_along [] s t h = ap (λ (c : Collector). c.builder) h
builds_along (x ∷ xs) s t h = (h.0.builder, h.1.tree, builds_along xs h.0 t h.2)

reports_along : (steps : List StrStepValue) (s t : Collector) → Takes Collects s steps t → t.reports.items ≡ s.reports.items ++ reports_of steps
reports_along [] s t h = ap (λ (c : Collector). c.reports.items) (sym h) ∙ sym (append-nil s.reports.items)
reports_along (x ∷ xs) s t h =
    reports_along xs h.0 t h.2
    ∙ (ap (λ l. l ++ reports_of xs) h.1.reports
    ∙ append_assoc s.reports.items (reports_of_step x) (reports_of xs))

-- the lexer's messages come as steps too
errors_are : (ts : List Token) (ms : List Message) → reports_of (error_steps ts ms) ≡ lexer_reports ts ms
errors_are ts [] = refl
errors_are ts (m ∷ ms) = ap (λ l. record { text = m.text; at = start_of ts m.token } ∷ l) (errors_are ts ms)

pub errors_along : (ts : List Token) (ms : List Message) (s t : Collector) → s.reports.items ≡ [] → Takes Collects s (error_steps ts ms) t → t.reports.items ≡ lexer_reports ts ms
errors_along ts ms s t none h = reports_along (error_steps ts ms) s t h ∙ (ap (λ l. l ++ reports_of (error_steps ts ms)) none ∙ errors_are ts ms)

-- what was handed out of the tree of an output
abbrev pub headed_by : (text : List ℕ) (edition : Edition) (entry : TopEntryPoint) (lexed : Lexed) (f : Forest) (all : Bool) (s t : Collector)
    → IsParsed text edition entry lexed f → Takes Collects s (str_flat (with_trivia lexed.tokens f)) t
    → (IsTrue all ↔ (used f ≡ significant lexed.tokens)) → (IsTrue all → str_joined (with_trivia lexed.tokens f) ≡ joined lexed.tokens)
    → Headline Collects text edition entry lexed all s t
headed_by text edition entry lexed f all s t p taken answer whole =
    let h = headed Collects text edition entry lexed f all s t p taken answer whole in
    record { forest = f; parsed = p; taken = taken; whole = whole h.all ∙ p.lexing.whole; all = h.all }

-- with the lexer's messages it is the tree of the text
pub text_tree : (text : List ℕ) (edition : Edition) (entry : TopEntryPoint) (lexed : Lexed) (all : Bool) (s t : Collector) (es : List Element) (of_lexer : List ReportValue) (messages : List RangedMessage)
    → building s.builder ≡ held [] no_parent 0 → s.reports.items ≡ [] → (h : Headline Collects text edition entry lexed all s t)
    → es ≡ (building t.builder).elements → of_lexer ≡ lexer_reports lexed.tokens lexed.errors
    → ((root : RangedNode) → Ranged (with_trivia lexed.tokens h.forest) root → es ≡ elements_of_tree root
    → messages ≡ merged (map (ranged_message root.children) t.reports.items) (map (ranged_message root.children) of_lexer))
    → AreSeated 0 (with_trivia lexed.tokens h.forest)
    → IsFlatText text edition entry es messages
text_tree text edition entry lexed all s t es of_lexer messages e none h is more placed seats =
    let f = with_trivia lexed.tokens h.forest in
    let taken = builds_along (str_flat f) s t h.taken in
    let over : IsOver text text f es = over_of f s.builder t.builder text es h.parsed.str_one e taken is h.whole in
    let place : ReportValue → RangedMessage = ranged_message over.root.children in
    let first : t.reports.items ≡ reports_of (str_flat f) = reports_along (str_flat f) s t h.taken ∙ ap (λ l. l ++ reports_of (str_flat f)) none in
    let all_of : messages ≡ merged (map place (reports_of (str_flat f))) (map place (lexer_reports lexed.tokens lexed.errors)) =
    placed over.root over.ranged over.elements
    ∙ (ap (λ l. merged (map place l) (map place of_lexer)) first
    ∙ ap (λ l. merged (map place (reports_of (str_flat f))) (map place l)) more) in
    let P : List RangedMessage → Type 0 = λ l. IsNonDecreasingBy (λ (m : RangedMessage). m.at) l in
    record {
      lexed = lexed;
      forest = h.forest;
      root = over.root;
      parsed = h.parsed;
      ranged = over.ranged;
      elements = over.elements;
      seated = seats;
      start = over.start;
      end = over.end;
      places = over.places;
      reports = all_of;
      in_order = subst P (sym all_of) (merged_in_order over.root.children lexed.tokens h.forest (length lexed.tokens) lexed.errors h.parsed.lexing.ordered);
    }

-- and its elements are in order
pub text_order : (text : List ℕ) (edition : Edition) (entry : TopEntryPoint) (lexed : Lexed) (all : Bool) (s t : Collector) (es : List Element)
    → building s.builder ≡ held [] no_parent 0 → Headline Collects text edition entry lexed all s t → es ≡ (building t.builder).elements → IsOrdered es
text_order text edition entry lexed all s t es e h is =
    let f = with_trivia lexed.tokens h.forest in
    ordered f es (flat_of f s.builder t.builder es h.parsed.str_one e (builds_along (str_flat f) s t h.taken) is)
