-- What the parser promises of a whole text.
use Rattle.std.specs.Prelude.{◌≡◌, ℕ, ◌+◌, ◌*◌, ◌≤◌, ◌<◌, List, Bool, true, length}
use Rattle.rap_base.specs.declared.edition.Edition.{Edition}
use Rattle.rap_events.specs.Cover.{covers}
use Rattle.rap_events.specs.Forest.{Forest, flat, one_tree, used, message_count}
use Rattle.rap_grammar_shapes.specs.HaveShapes.{HaveShapesWithin}
use Rattle.ra_ap_parser.specs.EntryScript.{IsOutputOf, IsCore}
use Rattle.rap_lexed.specs.Input.{records}
use Rattle.rap_lexed.specs.LexedStr.{Lexed, IsLexing}
use Rattle.rap_lexed.specs.StrForest.{str_flat, str_joined, str_one_tree}
use Rattle.rap_lexed.specs.StrSink.{Takes, Stops}
use Rattle.rap_lexed.specs.StrStep.{StrStepValue}
use Rattle.rap_lexed.specs.Trivia.{significant, with_trivia}
use Rattle.rap_text_nodes.specs.TextNodes.{AreShaped}
use Rattle.ra_ap_parser.specs.declared.entry_point.TopEntryPoint.{TopEntryPoint}
use Rattle.ra_ap_parser.specs.declared.whole_text.TextFault.{TextFault}
use Rattle.ra_ap_parser.specs.declared.whole_text.TextFault.TheVariants.{TextTooLong, TooManyTokens, NoMemory, Refused}
use Rattle.rap_base.specs.Limits.{max_tokens}

-- The text's tokens; one tree over all those that are no trivia, in at most 256 steps for each and 256 more; that it is
-- the entry's, that its nodes have the shapes of their kinds, and where the core grammar derives the tokens, that it is
-- their derivation's, without a message; and the same tree with the trivia put back, whose nodes come from those nodes,
-- and which is one tree too, in at most 266 steps for each byte of the text and 266 more.
pub record IsParsed (text : List ℕ) (edition : Edition) (entry : TopEntryPoint) (lexed : Lexed) (forest : Forest) : Type 0 where
  pub small : length text ≤ 4294967295
  pub lexing : IsLexing text edition lexed
  pub few_tokens : length (records lexed.tokens edition) ≤ max_tokens
  pub one : one_tree forest ≡ true
  pub covering : covers (records lexed.tokens edition) forest ≡ true
  pub all_used : used forest ≡ length (records lexed.tokens edition)
  pub few_steps : length (flat forest) ≤ 256 * (length (records lexed.tokens edition) + 1)
  pub made : IsOutputOf entry (records lexed.tokens edition) forest
  pub shapes : HaveShapesWithin forest
  pub core : (tree : Forest) → IsCore entry (records lexed.tokens edition) tree → (forest ≡ tree) × (message_count forest ≡ 0)
  pub text_shapes : AreShaped lexed.tokens forest
  pub str_one : str_one_tree (with_trivia lexed.tokens forest) ≡ true
  pub few_whole : length (str_flat (with_trivia lexed.tokens forest)) ≤ 266 * (length text + 1)

-- The sink has taken the steps of that tree, one after another; its token texts joined are the text, byte for byte;
-- and the result says so.
pub record Headline {S : Type 0} (takes : S → StrStepValue → S → Type 0) (text : List ℕ) (edition : Edition) (entry : TopEntryPoint) (lexed : Lexed) (answer : Bool) (before after : S) : Type 0 where
  pub forest : Forest
  pub parsed : IsParsed text edition entry lexed forest
  pub taken : Takes takes before (str_flat (with_trivia lexed.tokens forest)) after
  pub whole : str_joined (with_trivia lexed.tokens forest) ≡ text
  pub all : answer ≡ true

-- The sink has taken a prefix of the steps of that tree, and refused the next one.
pub record CutShort {S R : Type 0} (takes : S → StrStepValue → S → Type 0) (refuses : S → StrStepValue → R → S → Type 0) (text : List ℕ) (edition : Edition) (entry : TopEntryPoint) (refusal : R) (before after : S) : Type 0 where
  pub lexed : Lexed
  pub forest : Forest
  pub parsed : IsParsed text edition entry lexed forest
  pub stopped : Stops takes refuses before (str_flat (with_trivia lexed.tokens forest)) refusal after

-- The text has more tokens that are no trivia than a parse takes.
pub record HasTooManyTokens (text : List ℕ) (edition : Edition) : Type 0 where
  pub small : length text ≤ 4294967295
  pub lexed : Lexed
  pub lexing : IsLexing text edition lexed
  pub many : max_tokens < significant lexed.tokens

-- What a fault leaves the sink at: where it was, unless it has refused a step.
abbrev pub Leaves : {S R : Type 0} → (S → StrStepValue → S → Type 0) → (S → StrStepValue → R → S → Type 0) → List ℕ → Edition → TopEntryPoint → TextFault R → S → S → Type 0
Leaves takes refuses text edition entry TextTooLong before after = after ≡ before
Leaves takes refuses text edition entry TooManyTokens before after = after ≡ before
Leaves takes refuses text edition entry NoMemory before after = after ≡ before
Leaves takes refuses text edition entry (Refused e) before after = CutShort takes refuses text edition entry e before after
