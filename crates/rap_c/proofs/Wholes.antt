-- A whole text's parse, and the sizes of trees.
use Rattle.std.proofs.Common.{◌≡◌, ℕ, zero, suc, ◌+◌, ◌*◌, ◌^◌, ◌<◌, ◌≤◌, List, [], ◌∷◌, ◌++◌, true, ap, sym, subst, ◌∙◌, length, length-append, arith, inl, inr}
use Rattle.std.specs.Prelude.{All}
use Rattle.std.proofs.lemmas.Bool.{cases_Bool, cond-true, cond-false}
use Rattle.std.proofs.lemmas.List.Elements.{All-head, All-tail}
use Rattle.rap_base.specs.Limits.{max_tokens}
use Rattle.rap_base.specs.declared.edition.Edition.{Edition}
use Rattle.rap_events.proofs.Trees.{tree}
use Rattle.rap_events.specs.Cover.{covers}
use Rattle.rap_events.specs.Forest.{Forest, flat, splits_placed, used}
use Rattle.rap_events.specs.Record.{Record}
use Rattle.rap_grammar.specs.Top.{IsTreeOver}
use Rattle.rap_grammar_shapes.specs.HaveShapes.{HaveShapesWithin}
use Rattle.rap_lexed.proofs.Covered.{answers-tree}
use Rattle.rap_lexed.proofs.FewSteps.{few-tree}
use Rattle.rap_lexed.proofs.Joined.{joined-whole, one-tree}
use Rattle.rap_lexed.specs.Input.{records}
use Rattle.rap_lexed.specs.LexedStr.{AreTokens, IsLexing, Lexed, Token, joined}
use Rattle.rap_lexed.specs.StrForest.{StrForest, str_none, str_node, str_leaf, str_message, str_flat, str_joined}
use Rattle.rap_lexed.specs.StrStep.{str_enter, str_exit, str_token, str_error}
use Rattle.rap_lexed.specs.Trivia.{front_of, is_trivial, significant, with_trivia}
use Rattle.ra_ap_parser.proofs.Parsed.{parsed}
use Rattle.ra_ap_parser.specs.EntryScript.{IsOutputOf}
use Rattle.ra_ap_parser.specs.Headline.{IsParsed}
use Rattle.ra_ap_parser.specs.declared.entry_point.TopEntryPoint.{TopEntryPoint}
use Rattle.rap_ranged.proofs.Listings.{size-listed}
use Rattle.rap_ranged.proofs.Waits.{reports_rise}
use Rattle.rap_ranged.specs.Listed.{listed_tree, no_parent}
use Rattle.rap_ranged.specs.Listing.{Rising}
use Rattle.rap_ranged.specs.Ranged.{Ranged, end_from, ranged}
use Rattle.rap_ranged.specs.RangedForest.{RangedNode, alone, forest_size}
use Rattle.rap_ranged.specs.Reports.{ReportValue, lexer_reports}
use Rattle.rap_c.specs.Listed.{IsListGiven, Rooms}
use Rattle.rap_c.specs.Nodes.{IsFilledNodes}
use Rattle.rap_c.specs.declared.element.RapNodesAnswer.{RapNodesAnswer}

pub not_long : (m n : ℕ) → (m < n → ⊥) → n ≤ m
not_long m n h = omega (arith, h)

-- the text's tree, and that its leaves are the text
pub record IsWhole (text : List ℕ) (edition : Edition) (entry : TopEntryPoint) (lexed : Lexed) (f : Forest) : Type 0 where
  pub parsed : IsParsed text edition entry lexed f
  pub joined : str_joined (with_trivia lexed.tokens f) ≡ text

pub whole_is : (text : List ℕ) (edition : Edition) (entry : TopEntryPoint) (lexed : Lexed) (input : List Record) (f : Forest) → (4294967295 < length text → ⊥) → IsLexing text edition lexed
    → input ≡ records lexed.tokens edition → (max_tokens < length input → ⊥) → IsTreeOver input f → IsOutputOf entry input f → HaveShapesWithin f → splits_placed f ≡ true → AreTokens lexed.tokens → length input ≡ significant lexed.tokens
    → IsWhole text edition entry lexed f
whole_is text edition entry lexed input f small lexing same few over made shapes splits tokens count =
    let ts : List Token = lexed.tokens in
    let covering : covers (records ts edition) f ≡ true = subst (λ rs. covers rs f ≡ true) same over.forest.covers in
    let answers = answers-tree ts edition f over.one covering in
    let all : used f ≡ significant ts = over.forest.used ∙ count in
    record {
      parsed =
          parsed text edition entry lexed input f small lexing same few over made shapes (one-tree ts f over.one) tokens count
          (omega (arith, answers.within, few-tree ts f over.one (tree f splits)));
      joined = joined-whole ts f over.one (tree f splits) answers.touch (sym (answers.at_end all)) ∙ lexing.whole;
    }

-- a front of a text is no longer than it
front_shorter : (n : ℕ) (ts : List Token) → length (joined (front_of n ts)) ≤ length (joined ts)
front_shorter zero [] = omega arith
front_shorter (suc n) [] = omega arith
front_shorter zero (t ∷ ts) = elim (cases_Bool (is_trivial t)) [
  | inl h ↦
      omega (
        arith,
        ap (λ l. length (joined l)) (cond-true (is_trivial t) (t ∷ front_of 0 ts) [] h),
        length-append t.text (joined (front_of 0 ts)),
        length-append t.text (joined ts),
        front_shorter 0 ts,
      )
  | inr h ↦ omega (arith, ap (λ l. length (joined l)) (cond-false (is_trivial t) (t ∷ front_of 0 ts) [] h))
]
front_shorter (suc n) (t ∷ ts) = elim (cases_Bool (is_trivial t)) [
  | inl h ↦
      omega (
        arith,
        ap (λ l. length (joined (t ∷ l))) (cond-true (is_trivial t) (front_of (suc n) ts) (front_of n ts) h),
        length-append t.text (joined (front_of (suc n) ts)),
        length-append t.text (joined ts),
        front_shorter (suc n) ts,
      )
  | inr h ↦
      omega (
        arith,
        ap (λ l. length (joined (t ∷ l))) (cond-false (is_trivial t) (front_of (suc n) ts) (front_of n ts) h),
        length-append t.text (joined (front_of n ts)),
        length-append t.text (joined ts),
        front_shorter n ts,
      )
]

-- no token of a lexed text is empty
few_tokens_in : (ts : List Token) → All (λ (t : Token). 0 < length t.text) ts → length ts ≤ length (joined ts)
few_tokens_in [] h = omega arith
few_tokens_in (t ∷ ts) h =
    omega (arith, All-head (λ (x : Token). 0 < length x.text) t ts h, few_tokens_in ts (All-tail (λ (x : Token). 0 < length x.text) t ts h), length-append t.text (joined ts))

-- the steps of a tree, and its text, are below 2^64
pub few_steps_in : (ts : List Token) (f : Forest) → AreTokens ts → length (flat f) ≤ 256 * (max_tokens + 1) → used f ≤ max_tokens → length (str_flat (with_trivia ts f)) ≤ length (flat f) + (9 * used f + length ts)
    → length (str_flat (with_trivia ts f)) < 2 ^ 64
few_steps_in ts f tokens few small all = omega (arith, few_tokens_in ts tokens.full, tokens.small, few, small, all)

pub short_front : (ts : List Token) (f : Forest) → AreTokens ts → str_joined (with_trivia ts f) ≡ joined (front_of (used f) ts) → length (str_joined (with_trivia ts f)) < 2 ^ 32
short_front ts f tokens front = omega (arith, ap length front, front_shorter (used f) ts, tokens.small)

-- the lexer's messages are about places in the text of the tree
pub waits_in : (text : List ℕ) (edition : Edition) (entry : TopEntryPoint) (lexed : Lexed) (f : Forest) (waiting : List ReportValue) → IsParsed text edition entry lexed f → str_joined (with_trivia lexed.tokens f) ≡ text
    → AreTokens lexed.tokens → waiting ≡ lexer_reports lexed.tokens lexed.errors → Rising 0 waiting (length (str_joined (with_trivia lexed.tokens f)))
waits_in text edition entry lexed f waiting p whole tokens is =
    let P : List ReportValue → Type 0 = λ ws. Rising 0 ws (length (str_joined (with_trivia lexed.tokens f))) in
    let same : joined lexed.tokens ≡ str_joined (with_trivia lexed.tokens f) = p.lexing.whole ∙ sym whole in
    let Q : List ℕ → Type 0 = λ l. Rising 0 (lexer_reports lexed.tokens lexed.errors) (length l) in
    subst P (sym is) (subst Q same (reports_rise lexed.tokens lexed.errors tokens p.lexing.ordered))

-- there are no more nodes and leaves than steps
few_in_forest : (f : StrForest) (at : ℕ) → forest_size (ranged at f) ≤ length (str_flat f)
few_in_forest str_none at = omega arith
few_in_forest (str_node before kind children) at =
    omega (
      arith,
      few_in_forest before at,
      few_in_forest children (end_from at before),
      length-append (str_flat before) (str_enter kind ∷ (str_flat children ++ str_exit ∷ [])),
      length-append (str_flat children) (str_exit ∷ []),
    )
few_in_forest (str_leaf before kind text) at = omega (arith, few_in_forest before at, length-append (str_flat before) (str_token kind text ∷ []))
few_in_forest (str_message before bytes pos) at = omega (arith, few_in_forest before at, length-append (str_flat before) (str_error bytes pos ∷ []))

few_elements : (f : StrForest) (root : RangedNode) → Ranged f root → length (listed_tree root) ≤ length (str_flat f)
few_elements f root r = omega (arith, size-listed (alone root) 0 no_parent, ap forest_size r, few_in_forest f 0)

-- all of it is returned
pub nodes_filled : (text : List ℕ) (edition : Edition) (entry : TopEntryPoint) (lexed : Lexed) (f : Forest) (waiting : List ReportValue) (used_bytes : ℕ) (rooms rooms_after : Rooms) (answer : RapNodesAnswer)
    → IsParsed text edition entry lexed f → str_joined (with_trivia lexed.tokens f) ≡ text → waiting ≡ lexer_reports lexed.tokens lexed.errors → used_bytes ≡ length text
    → IsListGiven lexed.tokens f waiting used_bytes rooms rooms_after answer → IsFilledNodes text edition entry rooms rooms_after answer
nodes_filled text edition entry lexed f waiting used_bytes rooms rooms_after answer p whole is end given =
    let P : List ReportValue → ℕ → Type 0 = λ ws n. IsListGiven lexed.tokens f ws n rooms rooms_after answer in
    record {
      lexed = lexed;
      forest = f;
      parsed = p;
      whole = whole;
      given = subst (P (lexer_reports lexed.tokens lexed.errors)) end (subst (λ ws. P ws used_bytes) is given);
      few = omega (arith, given.given.count, few_elements (with_trivia lexed.tokens f) given.root given.ranged, p.few_whole);
    }
