-- What is returned of a text's tree.
use Rattle.std.specs.Prelude.{◌≡◌, ℕ, ◌+◌, ◌*◌, ◌≤◌, ◌<◌, List, ◌++◌, length, IsUtf8}
use Rattle.rap_base.specs.declared.edition.Edition.{Edition}
use Rattle.rap_events.specs.Forest.{Forest}
use Rattle.ra_ap_parser.specs.Headline.{HasTooManyTokens, IsParsed}
use Rattle.rap_lexed.specs.LexedStr.{Lexed}
use Rattle.rap_lexed.specs.StrForest.{str_flat, str_joined}
use Rattle.rap_lexed.specs.Trivia.{with_trivia}
use Rattle.ra_ap_parser.specs.declared.entry_point.TopEntryPoint.{TopEntryPoint}
use Rattle.rap_c.specs.Given.{IsGiven}
use Rattle.rap_c.specs.Item.{Item, text_items, lexer_items}
use Rattle.rap_c.specs.Numbers.{IsEditionOf, IsNoEdition, IsTopOf, IsNoTop}
use Rattle.rap_c.specs.declared.answer.Fault.{Fault}
use Rattle.rap_c.specs.declared.answer.Fault.TheVariants.{NoEdition, NoEntry, NotUtf8, TextTooLong, TooManyTokens, NoMemory, NoNode, NoBrace, NoRecord, NoSteps}
use Rattle.rap_c.specs.declared.answer.RapAnswer.{RapAnswer}
use Rattle.rap_c.specs.declared.step.RapStep.{RapStep}

-- the steps of a tree, and after them the lexer's messages
abbrev pub tree_items : Lexed → Forest → List Item
tree_items lexed forest = text_items (str_flat (with_trivia lexed.tokens forest)) ++ lexer_items lexed.tokens lexed.errors

-- The text's one tree is returned; the texts of its tokens joined are the text, and there are at most 267 steps for each
-- byte of the text and 267 more.
pub record IsFilledTree (text : List ℕ) (edition : Edition) (entry : TopEntryPoint) (steps steps_after : List RapStep) (messages messages_after : List ℕ) (answer : RapAnswer) : Type 0 where
  pub lexed : Lexed
  pub forest : Forest
  pub parsed : IsParsed text edition entry lexed forest
  pub whole : str_joined (with_trivia lexed.tokens forest) ≡ text
  pub given : IsGiven (tree_items lexed forest) steps steps_after messages messages_after answer
  pub status : answer.status ≡ 0
  pub used : answer.used ≡ length text
  pub few : answer.steps ≤ 267 * (length text + 1)

-- The bytes are UTF-8, the numbers are those of an edition and of an entry, and the text's one tree is returned.
pub record IsTree (text : List ℕ) (year entry_number : ℕ) (steps steps_after : List RapStep) (messages messages_after : List ℕ) (answer : RapAnswer) : Type 0 where
  pub edition : Edition
  pub is_edition : IsEditionOf year edition
  pub entry : TopEntryPoint
  pub is_entry : IsTopOf entry_number entry
  pub utf8 : IsUtf8 text
  pub filled : IsFilledTree text edition entry steps steps_after messages messages_after answer

-- when a fault occurs for a text
abbrev pub ComesOfText : List ℕ → Edition → Fault → Type 0
ComesOfText text edition NoEdition = ⊥
ComesOfText text edition NoEntry = ⊥
ComesOfText text edition NotUtf8 = ⊥
ComesOfText text edition TextTooLong = 4294967295 < length text
ComesOfText text edition TooManyTokens = HasTooManyTokens text edition
ComesOfText text edition NoMemory = (length text ≤ 4294967295) × ¬ HasTooManyTokens text edition
ComesOfText text edition NoNode = ⊥
ComesOfText text edition NoBrace = ⊥
ComesOfText text edition NoRecord = ⊥
ComesOfText text edition NoSteps = ⊥

-- The bytes are UTF-8, and the numbers those of an edition and of an entry; and this holds for the edition.
pub record IsAsked (text : List ℕ) (year entry_number : ℕ) (Holds : Edition → Type 0) : Type 0 where
  pub edition : Edition
  pub is_edition : IsEditionOf year edition
  pub entry : TopEntryPoint
  pub is_entry : IsTopOf entry_number entry
  pub utf8 : IsUtf8 text
  pub holds : Holds edition

-- when a fault occurs for numbers and bytes
abbrev pub ComesOfTree : List ℕ → ℕ → ℕ → Fault → Type 0
ComesOfTree text year entry_number NoEdition = IsNoEdition year
ComesOfTree text year entry_number NoEntry = ((edition : Edition) × IsEditionOf year edition) × IsNoTop entry_number
ComesOfTree text year entry_number NotUtf8 =
    ((edition : Edition) × IsEditionOf year edition) × ((entry : TopEntryPoint) × IsTopOf entry_number entry) × (¬ IsUtf8 text)
ComesOfTree text year entry_number TextTooLong = IsAsked text year entry_number (λ edition. ComesOfText text edition TextTooLong)
ComesOfTree text year entry_number TooManyTokens = IsAsked text year entry_number (λ edition. ComesOfText text edition TooManyTokens)
ComesOfTree text year entry_number NoMemory = IsAsked text year entry_number (λ edition. ComesOfText text edition NoMemory)
ComesOfTree text year entry_number NoNode = ⊥
ComesOfTree text year entry_number NoBrace = ⊥
ComesOfTree text year entry_number NoRecord = ⊥
ComesOfTree text year entry_number NoSteps = ⊥
