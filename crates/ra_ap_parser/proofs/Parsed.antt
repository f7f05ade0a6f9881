-- The parts of the promise, put together.
use Rattle.std.proofs.Common.{◌≡◌, ◌≢◌, ℕ, ◌+◌, ◌*◌, ◌<◌, ◌≤◌, List, [], ◌∷◌, Bool, true, length, length-append, refl, ap, ◌∙◌, subst, arith}
use Rattle.std.specs.Prelude.{◌↔◌, All, IsTrue}
use Rattle.std.proofs.lemmas.List.Elements.{All-head, All-tail}
use Rattle.std.proofs.lemmas.List.Sums.{count_by-le-length}
use Rattle.rap_base.specs.declared.edition.Edition.{Edition}
use Rattle.rap_events.specs.Cover.{covers}
use Rattle.rap_events.specs.Forest.{Forest, flat, splits_placed, used}
use Rattle.rap_events.specs.Record.{Record}
use Rattle.rap_events.proofs.Trees.{tree}
use Rattle.rap_grammar.specs.Top.{IsTreeOver}
use Rattle.rap_grammar_shapes.specs.HaveShapes.{HaveShapesWithin}
use Rattle.ra_ap_parser.specs.EntryScript.{IsOutputOf}
use Rattle.rap_lexed.specs.Input.{records}
use Rattle.rap_lexed.specs.LexedStr.{AreTokens, Lexed, IsLexing, joined}
use Rattle.rap_lexed.specs.OneLexing.{IsOnlyLexing}
use Rattle.rap_lexed.specs.StrForest.{str_flat, str_joined, str_one_tree}
use Rattle.rap_lexed.specs.StrSink.{Takes}
use Rattle.rap_lexed.specs.StrStep.{StrStepValue}
use Rattle.rap_lexed.specs.Token.{Token}
use Rattle.rap_lexed.specs.Trivia.{is_significant, significant, with_trivia}
use Rattle.rap_lexed.proofs.Covered.{answers-tree}
use Rattle.rap_lexed.proofs.FewSteps.{few-tree}
use Rattle.rap_lexed.proofs.Joined.{one-tree}
use Rattle.rap_lexed.proofs.Records.{length-records}
use Rattle.rap_text_nodes.proofs.Nodes.{text_nodes}
use Rattle.ra_ap_parser.specs.Headline.{HasTooManyTokens, Headline, IsParsed, Leaves}
use Rattle.ra_ap_parser.specs.declared.entry_point.TopEntryPoint.{TopEntryPoint}
use Rattle.ra_ap_parser.specs.declared.whole_text.TextFault.{TextFault}
use Rattle.ra_ap_parser.specs.declared.whole_text.TextFault.TheVariants.{TextTooLong, TooManyTokens, NoMemory, Refused}
use Rattle.ra_ap_parser.proofs.EntryTrees.{core_tree}
use Rattle.rap_base.specs.Limits.{max_tokens}

at_most : (m n : ℕ) → (m < n → ⊥) → n ≤ m
at_most m n h = omega (arith, h)

-- no token of a lexed text is empty
few_tokens_in : (ts : List Token) → All (λ t. 0 < length t.text) ts → length ts ≤ length (joined ts)
few_tokens_in [] h = omega arith
few_tokens_in (t ∷ ts) h =
    omega (arith, All-head (λ x. 0 < length x.text) t ts h, few_tokens_in ts (All-tail (λ x. 0 < length x.text) t ts h), length-append t.text (joined ts))

-- the steps of a tree with its trivia, by the bytes of the text
few_in_bytes : (text : List ℕ) (ts : List Token) (steps own n : ℕ) → joined ts ≡ text → AreTokens ts → n ≡ significant ts →
    own ≤ 256 * (n + 1) → steps ≤ own + (9 * n + length ts) → steps ≤ 266 * (length text + 1)
few_in_bytes text ts steps own n whole tokens e few all =
    omega (arith, few_tokens_in ts tokens.full, ap length whole, count_by-le-length is_significant ts, e, few, all)

pub parsed : (text : List ℕ) (edition : Edition) (entry : TopEntryPoint) (lexed : Lexed) (input : List Record) (f : Forest) → (4294967295 < length text → ⊥) → IsLexing text edition lexed → input ≡ records lexed.tokens edition → (max_tokens < length input → ⊥) → IsTreeOver input f → IsOutputOf entry input f → HaveShapesWithin f → str_one_tree (with_trivia lexed.tokens f) ≡ true → AreTokens lexed.tokens → length input ≡ significant lexed.tokens → length (str_flat (with_trivia lexed.tokens f)) ≤ length (flat f) + (9 * used f + length lexed.tokens) → IsParsed text edition entry lexed f
parsed text edition entry lexed input f small lexing e few tree made shapes one tokens count whole = record {
  small = at_most 4294967295 (length text) small;
  lexing = lexing;
  few_tokens = subst (λ (rs : List Record). length rs ≤ max_tokens) e (at_most max_tokens (length input) few);
  one = tree.one;
  covering = subst (λ (rs : List Record). covers rs f ≡ true) e tree.forest.covers;
  all_used = tree.forest.used ∙ ap length e;
  few_steps = subst (λ (rs : List Record). length (flat f) ≤ 256 * (length rs + 1)) e tree.forest.few;
  made = subst (λ (rs : List Record). IsOutputOf entry rs f) e made;
  shapes = shapes;
  core = λ t h. core_tree entry (records lexed.tokens edition) (subst (λ (rs : List Record). IsOutputOf entry rs f) e made) h;
  text_shapes =
      text_nodes lexed.tokens edition f (subst (λ (rs : List Record). covers rs f ≡ true) e tree.forest.covers)
      shapes;
  str_one = one;
  few_whole =
      few_in_bytes text lexed.tokens (length (str_flat (with_trivia lexed.tokens f))) (length (flat f)) (length input) lexing.whole tokens count tree.forest.few
      (omega (arith, whole, tree.forest.used));
}

-- the same without a walk through the steps
pub parsed_tokens : (text : List ℕ) (edition : Edition) (entry : TopEntryPoint) (lexed : Lexed) (input : List Record) (f : Forest) → (4294967295 < length text → ⊥) → IsLexing text edition lexed → input ≡ records lexed.tokens edition → (max_tokens < length input → ⊥) → IsTreeOver input f → IsOutputOf entry input f → HaveShapesWithin f → splits_placed f ≡ true → AreTokens lexed.tokens → length input ≡ significant lexed.tokens → IsParsed text edition entry lexed f
parsed_tokens text edition entry lexed input f small lexing e few over made shapes splits tokens count =
    let covering : covers (records lexed.tokens edition) f ≡ true = subst (λ (rs : List Record). covers rs f ≡ true) e over.forest.covers in
    let answers = answers-tree lexed.tokens edition f over.one covering in
    parsed text edition entry lexed input f small lexing e few over made shapes (one-tree lexed.tokens f over.one) tokens count
    (omega (arith, answers.within, few-tree lexed.tokens f over.one (tree f splits)))

-- a sink that has taken the steps of that tree has taken those of the text
pub headed : {S : Type 0} (takes : S → StrStepValue → S → Type 0) (text : List ℕ) (edition : Edition) (entry : TopEntryPoint) (lexed : Lexed) (f : Forest) (all : Bool) (s t : S)
    → IsParsed text edition entry lexed f → Takes takes s (str_flat (with_trivia lexed.tokens f)) t
    → (IsTrue all ↔ (used f ≡ significant lexed.tokens)) → (IsTrue all → str_joined (with_trivia lexed.tokens f) ≡ joined lexed.tokens)
    → Headline takes text edition entry lexed all s t
headed takes text edition entry lexed f all s t p taken answer whole =
    let is_all = answer.1 (p.all_used ∙ length-records lexed.tokens edition) in
    record { forest = f; parsed = p; taken = taken; whole = whole is_all ∙ p.lexing.whole; all = is_all }

-- a fault that is no refusal leaves the sink where it was
pub left_alone : {S R : Type 0} (takes : S → StrStepValue → S → Type 0) (refuses : S → StrStepValue → R → S → Type 0) (text : List ℕ) (edition : Edition) (entry : TopEntryPoint) (fault : TextFault R) (s : S)
    → ((e : R) → fault ≢ Refused e) → Leaves takes refuses text edition entry fault s s
left_alone takes refuses text edition entry TextTooLong s h = refl
left_alone takes refuses text edition entry TooManyTokens s h = refl
left_alone takes refuses text edition entry NoMemory s h = refl
left_alone takes refuses text edition entry (Refused e) s h = absurd (h e refl)

-- a text with so few records has not too many tokens
pub few_tokens : (text : List ℕ) (edition : Edition) (lexed : Lexed) (input : List Record) → IsOnlyLexing text edition lexed → length input ≡ significant lexed.tokens → (max_tokens < length input → ⊥) → ¬ HasTooManyTokens text edition
few_tokens text edition lexed input only e few h =
    let same = ap (λ l. significant l.tokens) (only h.lexed h.lexing) in
    few (omega (arith, h.many, same, e))
