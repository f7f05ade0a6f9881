-- What a collector holds along the steps of a tree.
use Rattle.std.proofs.Common.{◌≡◌, ℕ, List, [], ◌∷◌, ◌++◌, refl, ap, subst, sym, ◌∙◌, Bool, append_assoc, append-nil, length, map}
use Rattle.rap_base.specs.declared.edition.Edition.{Edition}
use Rattle.rap_lexed.specs.ErrorSteps.{error_steps}
use Rattle.rap_lexed.specs.LexedStr.{Lexed, Token, Message}
use Rattle.rap_lexed.specs.StrForest.{str_flat}
use Rattle.rap_lexed.specs.StrSink.{Takes}
use Rattle.rap_lexed.specs.StrStep.{StrStepValue}
use Rattle.rap_lexed.specs.Trivia.{with_trivia}
use Rattle.ra_ap_parser.specs.Headline.{Headline}
use Rattle.ra_ap_parser.specs.declared.entry_point.TopEntryPoint.{TopEntryPoint}
use Rattle.syntax_tree.specs.Building.{Building, Builds, building, outermost}
use Rattle.syntax_tree.specs.Collects.{Collects}
use Rattle.syntax_tree.specs.InRow.{InRow}
use Rattle.syntax_tree.specs.Places.{HavePlaces}
use Rattle.syntax_tree.specs.Ranged.{Ranged, ranged}
use Rattle.syntax_tree.specs.RangedForest.{RangedForest, RangedNode, ranged_none, alone}
use Rattle.syntax_tree.specs.RangedMessages.{RangedMessage, ranged_message}
use Rattle.syntax_tree.specs.TextTree.{IsTextTree}
use Rattle.syntax_tree.specs.Reports.{ReportValue, reports_of_step, reports_of, lexer_reports}
use Rattle.syntax_tree.specs.declared.collector.Collector.{Collector}
use Rattle.rap_ranged.proofs.Roots.{one_node, root_place}
use Rattle.syntax_tree.proofs.Runs.{run, along, held, built}
use Rattle.syntax_tree.proofs.Texts.{places_of}
use Rattle.rap_ranged.proofs.TreeRows.{root_row}

pub builds_along : (steps : List StrStepValue) (s t : Collector) → Takes Collects s steps t → Takes Builds s.builder steps t.builder
builds_along [] s t h = ap (λ (c : Collector). c.builder) h
builds_along (x ∷ xs) s t h = (h.0.builder, h.1.tree, builds_along xs h.0 t h.2)

pub reports_along : (steps : List StrStepValue) (s t : Collector) → Takes Collects s steps t → t.reports.items ≡ s.reports.items ++ reports_of steps
reports_along [] s t h = ap (λ (c : Collector). c.reports.items) (sym h) ∙ sym (append-nil s.reports.items)
reports_along (x ∷ xs) s t h =
    reports_along xs h.0 t h.2
    ∙ (ap (λ l. l ++ reports_of xs) h.1.reports
    ∙ append_assoc s.reports.items (reports_of_step x) (reports_of xs))

-- what it holds after the lexer's messages: the same tree, and these messages after the others
pub run-errors : (ts : List Token) (ms : List Message) (b : Building) → run b (error_steps ts ms) ≡ b
run-errors ts [] b = refl
run-errors ts (m ∷ ms) b = run-errors ts ms b

pub same_after_errors : (ts : List Token) (ms : List Message) (s t : Collector) → Takes Collects s (error_steps ts ms) t → (building t.builder).forest ≡ (building s.builder).forest
same_after_errors ts ms s t h = ap (λ (b : Building). b.forest) (along (error_steps ts ms) s.builder t.builder (builds_along (error_steps ts ms) s t h) ∙ run-errors ts ms (building s.builder))

pub more_after_errors : (ts : List Token) (ms : List Message) (s t : Collector) → Takes Collects s (error_steps ts ms) t → t.reports.items ≡ s.reports.items ++ lexer_reports ts ms
more_after_errors ts ms s t h = reports_along (error_steps ts ms) s t h

-- what a collector holds that had nothing and has taken the steps of a text's tree
pub forest_of_text : (text : List ℕ) (edition : Edition) (entry : TopEntryPoint) (lexed : Lexed) (all : Bool) (s t : Collector)
    → building s.builder ≡ held outermost ranged_none 0 → (h : Headline Collects text edition entry lexed all s t)
    → (building t.builder).forest ≡ ranged 0 (with_trivia lexed.tokens h.forest)
forest_of_text text edition entry lexed all s t e h =
    built (with_trivia lexed.tokens h.forest) s.builder t.builder e (builds_along (str_flat (with_trivia lexed.tokens h.forest)) s t h.taken)

-- it is one node
pub node_of_text : (text : List ℕ) (edition : Edition) (entry : TopEntryPoint) (lexed : Lexed) (all : Bool) (s t : Collector)
    → building s.builder ≡ held outermost ranged_none 0 → Headline Collects text edition entry lexed all s t
    → (n : RangedNode) × ((building t.builder).forest ≡ alone n)
node_of_text text edition entry lexed all s t e h =
    let one = one_node (with_trivia lexed.tokens h.forest) h.parsed.str_one in
    (one.0, forest_of_text text edition entry lexed all s t e h ∙ one.1)

-- whose places follow one another
pub row_of_text : (text : List ℕ) (edition : Edition) (entry : TopEntryPoint) (lexed : Lexed) (all : Bool) (s t : Collector) (root : RangedNode)
    → building s.builder ≡ held outermost ranged_none 0 → Headline Collects text edition entry lexed all s t → (building t.builder).forest ≡ alone root
    → InRow root.start root.children root.end × (root.start ≡ 0)
row_of_text text edition entry lexed all s t root e h is = root_row (with_trivia lexed.tokens h.forest) root (sym is ∙ forest_of_text text edition entry lexed all s t e h)

-- and with the lexer's messages it is the tree of the text
pub text_tree : (text : List ℕ) (edition : Edition) (entry : TopEntryPoint) (lexed : Lexed) (all : Bool) (s t : Collector) (root : RangedNode) (reports : List ReportValue) (messages : List RangedMessage)
    → building s.builder ≡ held outermost ranged_none 0 → s.reports.items ≡ [] → Headline Collects text edition entry lexed all s t
    → (building t.builder).forest ≡ alone root → reports ≡ t.reports.items ++ lexer_reports lexed.tokens lexed.errors → messages ≡ map (ranged_message root.children) reports
    → IsTextTree text edition entry root messages
text_tree text edition entry lexed all s t root reports messages e none h is more placed =
    let f = with_trivia lexed.tokens h.forest in
    let taken = builds_along (str_flat f) s t h.taken in
    let is_ranged : Ranged f root = sym is ∙ forest_of_text text edition entry lexed all s t e h in
    let at = root_place f root h.parsed.str_one is_ranged in
    let P : RangedForest → Type 0 = λ g. HavePlaces text g in
    record {
      lexed = lexed;
      forest = h.forest;
      parsed = h.parsed;
      ranged = is_ranged;
      start = at.0;
      end = at.1 ∙ ap length h.whole;
      places = subst P (sym is_ranged) (places_of f s.builder t.builder text taken h.whole);
      reports =
          placed
          ∙ ap (map (ranged_message root.children))
          (more ∙ ap (λ l. l ++ lexer_reports lexed.tokens lexed.errors) (reports_along (str_flat f) s t h.taken ∙ ap (λ l. l ++ reports_of (str_flat f)) none));
    }
