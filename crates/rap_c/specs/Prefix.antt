-- What is returned of a prefix of a text.
use Rattle.std.specs.Prelude.{◌≡◌, ℕ, ◌≤◌, ◌<◌, List, true, length, IsUtf8}
use Rattle.rap_base.specs.declared.edition.Edition.{Edition}
use Rattle.rap_events.specs.Forest.{Forest}
use Rattle.ra_ap_parser.specs.EntryScript.{IsPrefixOutputOf}
use Rattle.rap_grammar.specs.Part.{IsPrefixOver}
use Rattle.rap_grammar_ends.specs.Dots.{dots_inside}
use Rattle.ra_ap_parser.specs.Headline.{HasTooManyTokens}
use Rattle.rap_lexed.specs.Input.{records}
use Rattle.rap_lexed.specs.LexedStr.{Lexed, IsLexing}
use Rattle.ra_ap_parser.specs.declared.entry_point.PrefixEntryPoint.{PrefixEntryPoint}
use Rattle.rap_c.specs.Numbers.{IsEditionOf, IsNoEdition, IsPrefixOf, IsNoPrefix}
use Rattle.rap_c.specs.Output.{IsOutput}
use Rattle.rap_c.specs.declared.answer.Fault.{Fault}
use Rattle.rap_c.specs.declared.answer.Fault.TheVariants.{NoEdition, NoEntry, NotUtf8, TextTooLong, TooManyTokens, NoMemory, NoNode, NoBrace, NoRecord, NoSteps}
use Rattle.rap_c.specs.declared.answer.RapAnswer.{RapAnswer}
use Rattle.rap_c.specs.declared.step.RapStep.{RapStep}
use Rattle.rap_base.specs.Limits.{max_tokens}

-- The text's tokens, few enough for the parser.
pub record IsRead (text : List ℕ) (edition : Edition) (lexed : Lexed) : Type 0 where
  pub small : length text ≤ 4294967295
  pub lexing : IsLexing text edition lexed
  pub few : length (records lexed.tokens edition) ≤ max_tokens

-- The output of the entry for a prefix of the text is returned: it is over tokens at the front and over no others, and no
-- node at its top ends with a float that ends in a dot.
pub record IsFilledPrefix (text : List ℕ) (edition : Edition) (entry : PrefixEntryPoint) (steps steps_after : List RapStep) (messages messages_after : List ℕ) (answer : RapAnswer) : Type 0 where
  pub lexed : Lexed
  pub output : Forest
  pub is_read : IsRead text edition lexed
  pub made : IsPrefixOutputOf entry (records lexed.tokens edition) output
  pub front : IsPrefixOver (records lexed.tokens edition) output
  pub dots : dots_inside output ≡ true
  pub is : IsOutput lexed.tokens output steps steps_after messages messages_after answer

-- The bytes are UTF-8, the numbers are those of an edition and of an entry, and its output is returned.
pub record IsPrefix (text : List ℕ) (year entry_number : ℕ) (steps steps_after : List RapStep) (messages messages_after : List ℕ) (answer : RapAnswer) : Type 0 where
  pub edition : Edition
  pub is_edition : IsEditionOf year edition
  pub entry : PrefixEntryPoint
  pub is_entry : IsPrefixOf entry_number entry
  pub utf8 : IsUtf8 text
  pub filled : IsFilledPrefix text edition entry steps steps_after messages messages_after answer

-- when a fault occurs for a text
abbrev pub ComesOfFront : List ℕ → Edition → Fault → Type 0
ComesOfFront text edition NoEdition = ⊥
ComesOfFront text edition NoEntry = ⊥
ComesOfFront text edition NotUtf8 = ⊥
ComesOfFront text edition TextTooLong = 4294967295 < length text
ComesOfFront text edition TooManyTokens = HasTooManyTokens text edition
ComesOfFront text edition NoMemory = length text ≤ 4294967295
ComesOfFront text edition NoNode = ⊥
ComesOfFront text edition NoBrace = ⊥
ComesOfFront text edition NoRecord = ⊥
ComesOfFront text edition NoSteps = ⊥

-- The bytes are UTF-8, and the numbers those of an edition and of an entry; and this holds for the edition.
pub record IsAsked (text : List ℕ) (year entry_number : ℕ) (Holds : Edition → Type 0) : Type 0 where
  pub edition : Edition
  pub is_edition : IsEditionOf year edition
  pub entry : PrefixEntryPoint
  pub is_entry : IsPrefixOf entry_number entry
  pub utf8 : IsUtf8 text
  pub holds : Holds edition

-- when a fault occurs for numbers and bytes
abbrev pub ComesOfPrefix : List ℕ → ℕ → ℕ → Fault → Type 0
ComesOfPrefix text year entry_number NoEdition = IsNoEdition year
ComesOfPrefix text year entry_number NoEntry = ((edition : Edition) × IsEditionOf year edition) × IsNoPrefix entry_number
ComesOfPrefix text year entry_number NotUtf8 =
    ((edition : Edition) × IsEditionOf year edition) × ((entry : PrefixEntryPoint) × IsPrefixOf entry_number entry) × (¬ IsUtf8 text)
ComesOfPrefix text year entry_number TextTooLong = IsAsked text year entry_number (λ edition. ComesOfFront text edition TextTooLong)
ComesOfPrefix text year entry_number TooManyTokens = IsAsked text year entry_number (λ edition. ComesOfFront text edition TooManyTokens)
ComesOfPrefix text year entry_number NoMemory = IsAsked text year entry_number (λ edition. ComesOfFront text edition NoMemory)
ComesOfPrefix text year entry_number NoNode = ⊥
ComesOfPrefix text year entry_number NoBrace = ⊥
ComesOfPrefix text year entry_number NoRecord = ⊥
ComesOfPrefix text year entry_number NoSteps = ⊥
