-- What is returned of a node that is parsed again.
use Rattle.std.specs.Prelude.{◌≡◌, ◌≢◌, ℕ, ◌≤◌, ◌<◌, List, Option, Some, None, true, nat_le, if◌then◌else◌, length, IsUtf8}
use Rattle.rap_base.specs.TokenKind.{L_CURLY}
use Rattle.rap_base.specs.declared.edition.Edition.{Edition}
use Rattle.rap_events.specs.Forest.{Forest}
use Rattle.rap_events.specs.Record.{next_kind}
use Rattle.rap_grammar.specs.Part.{IsOneNode, IsPrefixOf, IsPrefixOver, part_script, part_kind, asks_brace}
use Rattle.rap_grammar.specs.declared.entry.part.Part.{Part}
use Rattle.rap_grammar_ends.specs.Dots.{dots_inside}
use Rattle.rap_base.specs.Limits.{max_tokens}
use Rattle.rap_lexed.specs.Input.{records}
use Rattle.rap_lexed.specs.LexedStr.{Lexed, IsLexing}
use Rattle.rap_lexed.specs.Trivia.{significant}
use Rattle.ra_ap_parser.specs.Reparsed.{reparsed}
use Rattle.rap_c.specs.Numbers.{IsEditionOf, IsNoEdition, kind_in}
use Rattle.rap_c.specs.Output.{IsOutput}
use Rattle.rap_c.specs.Prefix.{IsRead}
use Rattle.rap_c.specs.declared.answer.Fault.{Fault}
use Rattle.rap_c.specs.declared.answer.Fault.TheVariants.{NoEdition, NoEntry, NotUtf8, TextTooLong, TooManyTokens, NoMemory, NoNode, NoBrace, NoRecord, NoSteps}
use Rattle.rap_c.specs.declared.answer.RapAnswer.{RapAnswer}
use Rattle.rap_c.specs.declared.step.RapStep.{RapStep}

-- The kind of the node that is parsed again, if it can be, by numbers. A number of no kind means that there is none.
abbrev pub asked_kind : ℕ → ℕ → ℕ → Option ℕ
asked_kind node first_child parent = if nat_le node 329 then reparsed node (kind_in first_child) (kind_in parent) else None

-- The node that is parsed again is returned: it is over tokens at the front and over no others, and where a brace comes
-- first it is exactly one node of its kind.
pub record IsFilledNode (text : List ℕ) (edition : Edition) (part : Part) (steps steps_after : List RapStep) (messages messages_after : List ℕ) (answer : RapAnswer) : Type 0 where
  pub lexed : Lexed
  pub output : Forest
  pub is_read : IsRead text edition lexed
  pub brace : asks_brace part ≡ true → next_kind (records lexed.tokens edition) ≡ L_CURLY
  pub made : IsPrefixOf (part_script part) (records lexed.tokens edition) output
  pub front : IsPrefixOver (records lexed.tokens edition) output
  pub dots : dots_inside output ≡ true
  pub one : next_kind (records lexed.tokens edition) ≡ L_CURLY → IsOneNode (part_kind part) output
  pub is : IsOutput lexed.tokens output steps steps_after messages messages_after answer

-- The bytes are UTF-8, the number is that of an edition, and the node of this kind is returned.
pub record IsReparsed (text : List ℕ) (year : ℕ) (kind : Option ℕ) (steps steps_after : List RapStep) (messages messages_after : List ℕ) (answer : RapAnswer) : Type 0 where
  pub edition : Edition
  pub is_edition : IsEditionOf year edition
  pub part : Part
  pub is_part : kind ≡ Some (part_kind part)
  pub utf8 : IsUtf8 text
  pub filled : IsFilledNode text edition part steps steps_after messages messages_after answer

-- the node must begin with a brace, and the text does not
pub record LacksBrace (text : List ℕ) (edition : Edition) (part : Part) : Type 0 where
  pub asks : asks_brace part ≡ true
  pub small : length text ≤ 4294967295
  pub lexed : Lexed
  pub lexing : IsLexing text edition lexed
  pub lacks : next_kind (records lexed.tokens edition) ≢ L_CURLY

-- the text has more tokens than a parse accepts, and the node begins as it must
pub record HasTooManyInBraces (text : List ℕ) (edition : Edition) (part : Part) : Type 0 where
  pub small : length text ≤ 4294967295
  pub lexed : Lexed
  pub lexing : IsLexing text edition lexed
  pub many : max_tokens < significant lexed.tokens
  pub brace : asks_brace part ≡ true → next_kind (records lexed.tokens edition) ≡ L_CURLY

-- when a fault occurs for a text
abbrev pub ComesOfNode : List ℕ → Edition → Part → Fault → Type 0
ComesOfNode text edition part NoEdition = ⊥
ComesOfNode text edition part NoEntry = ⊥
ComesOfNode text edition part NotUtf8 = ⊥
ComesOfNode text edition part TextTooLong = 4294967295 < length text
ComesOfNode text edition part TooManyTokens = HasTooManyInBraces text edition part
ComesOfNode text edition part NoMemory = length text ≤ 4294967295
ComesOfNode text edition part NoNode = ⊥
ComesOfNode text edition part NoBrace = LacksBrace text edition part
ComesOfNode text edition part NoRecord = ⊥
ComesOfNode text edition part NoSteps = ⊥

-- The bytes are UTF-8, the number is that of an edition and the node can be parsed again; and this holds for them.
pub record IsAskedNode (text : List ℕ) (year : ℕ) (kind : Option ℕ) (Holds : Edition → Part → Type 0) : Type 0 where
  pub edition : Edition
  pub is_edition : IsEditionOf year edition
  pub part : Part
  pub is_part : kind ≡ Some (part_kind part)
  pub utf8 : IsUtf8 text
  pub holds : Holds edition part

-- when a fault occurs for numbers and bytes
abbrev pub ComesOfReparse : List ℕ → ℕ → Option ℕ → Fault → Type 0
ComesOfReparse text year kind NoEdition = IsNoEdition year
ComesOfReparse text year kind NoEntry = ⊥
ComesOfReparse text year kind NotUtf8 = ((edition : Edition) × IsEditionOf year edition) × ((part : Part) × (kind ≡ Some (part_kind part))) × (¬ IsUtf8 text)
ComesOfReparse text year kind TextTooLong = IsAskedNode text year kind (λ edition part. ComesOfNode text edition part TextTooLong)
ComesOfReparse text year kind TooManyTokens = IsAskedNode text year kind (λ edition part. ComesOfNode text edition part TooManyTokens)
ComesOfReparse text year kind NoMemory = IsAskedNode text year kind (λ edition part. ComesOfNode text edition part NoMemory)
ComesOfReparse text year kind NoNode = ((edition : Edition) × IsEditionOf year edition) × (kind ≡ None)
ComesOfReparse text year kind NoBrace = IsAskedNode text year kind (λ edition part. ComesOfNode text edition part NoBrace)
ComesOfReparse text year kind NoRecord = ⊥
ComesOfReparse text year kind NoSteps = ⊥
