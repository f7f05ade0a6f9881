-- What is returned of a text's tokens.
use Rattle.std.specs.Prelude.{◌≡◌, ℕ, ◌≤◌, ◌<◌, List, ◌++◌, length, IsUtf8}
use Rattle.rap_base.specs.declared.edition.Edition.{Edition}
use Rattle.rap_lexed.specs.LexedStr.{Lexed, IsLexing}
use Rattle.rap_c.specs.Given.{IsGiven}
use Rattle.rap_c.specs.Item.{Item, token_items, lexer_items}
use Rattle.rap_c.specs.Numbers.{IsEditionOf, IsNoEdition}
use Rattle.rap_c.specs.declared.answer.Fault.{Fault}
use Rattle.rap_c.specs.declared.answer.Fault.TheVariants.{NoEdition, NoEntry, NotUtf8, TextTooLong, TooManyTokens, NoMemory, NoNode, NoBrace, NoRecord, NoSteps}
use Rattle.rap_c.specs.declared.answer.RapAnswer.{RapAnswer}
use Rattle.rap_c.specs.declared.step.RapStep.{RapStep}

-- the tokens, and after them the lexer's messages
abbrev pub lexed_items : Lexed → List Item
lexed_items lexed = token_items lexed.tokens ++ lexer_items lexed.tokens lexed.errors

-- The text's tokens are returned.
pub record IsFilledTokens (text : List ℕ) (edition : Edition) (steps steps_after : List RapStep) (messages messages_after : List ℕ) (answer : RapAnswer) : Type 0 where
  pub lexed : Lexed
  pub lexing : IsLexing text edition lexed
  pub small : length text ≤ 4294967295
  pub given : IsGiven (lexed_items lexed) steps steps_after messages messages_after answer
  pub status : answer.status ≡ 0
  pub used : answer.used ≡ length text

-- The bytes are UTF-8, the number is that of an edition, and the text's tokens are returned.
pub record IsTokens (text : List ℕ) (year : ℕ) (steps steps_after : List RapStep) (messages messages_after : List ℕ) (answer : RapAnswer) : Type 0 where
  pub edition : Edition
  pub is_edition : IsEditionOf year edition
  pub utf8 : IsUtf8 text
  pub filled : IsFilledTokens text edition steps steps_after messages messages_after answer

-- when a fault occurs for a text
abbrev pub ComesOfLexing : List ℕ → Fault → Type 0
ComesOfLexing text NoEdition = ⊥
ComesOfLexing text NoEntry = ⊥
ComesOfLexing text NotUtf8 = ⊥
ComesOfLexing text TextTooLong = 4294967295 < length text
ComesOfLexing text TooManyTokens = ⊥
ComesOfLexing text NoMemory = length text ≤ 4294967295
ComesOfLexing text NoNode = ⊥
ComesOfLexing text NoBrace = ⊥
ComesOfLexing text NoRecord = ⊥
ComesOfLexing text NoSteps = ⊥

-- when a fault occurs for a number and bytes
abbrev pub ComesOfTokens : List ℕ → ℕ → Fault → Type 0
ComesOfTokens text year NoEdition = IsNoEdition year
ComesOfTokens text year NoEntry = ⊥
ComesOfTokens text year NotUtf8 = ((edition : Edition) × IsEditionOf year edition) × (¬ IsUtf8 text)
ComesOfTokens text year TextTooLong = ((edition : Edition) × IsEditionOf year edition) × IsUtf8 text × (4294967295 < length text)
ComesOfTokens text year TooManyTokens = ⊥
ComesOfTokens text year NoMemory = ((edition : Edition) × IsEditionOf year edition) × IsUtf8 text × (length text ≤ 4294967295)
ComesOfTokens text year NoNode = ⊥
ComesOfTokens text year NoBrace = ⊥
ComesOfTokens text year NoRecord = ⊥
ComesOfTokens text year NoSteps = ⊥
