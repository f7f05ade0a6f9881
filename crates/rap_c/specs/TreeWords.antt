-- What is returned of a text's tree in words.
use Rattle.std.specs.Prelude.{◌≡◌, ℕ, ◌+◌, ◌*◌, ◌≤◌, List, ◌++◌, length, IsUtf8}
use Rattle.rap_base.specs.declared.edition.Edition.{Edition}
use Rattle.rap_events.specs.Forest.{Forest}
use Rattle.ra_ap_parser.specs.Headline.{IsParsed}
use Rattle.ra_ap_parser.specs.declared.entry_point.TopEntryPoint.{TopEntryPoint}
use Rattle.rap_lexed.specs.ErrorSteps.{error_steps}
use Rattle.rap_lexed.specs.LexedStr.{Lexed}
use Rattle.rap_lexed.specs.StrForest.{str_flat, str_joined}
use Rattle.rap_lexed.specs.StrStep.{StrStepValue}
use Rattle.rap_lexed.specs.Trivia.{with_trivia}
use Rattle.rap_c.specs.Filling.{overwritten}
use Rattle.rap_c.specs.Item.{counted}
use Rattle.rap_c.specs.Numbers.{IsEditionOf, IsTopOf}
use Rattle.rap_c.specs.Words.{all_words, all_bytes}
use Rattle.rap_c.specs.declared.answer.RapAnswer.{RapAnswer}

-- The first words of the room are those of the steps, and of others after them, as many as fit, and the first bytes
-- those of their messages; what is after them does not change. The result has the number of each, and how many of the
-- words are those of the first steps.
pub record AreWordsGiven (steps others : List StrStepValue) (words words_after messages messages_after : List ℕ) (answer : RapAnswer) : Type 0 where
  pub words_are : words_after ≡ overwritten words (all_words (steps ++ others))
  pub messages_are : messages_after ≡ overwritten messages (all_bytes (steps ++ others))
  pub status : answer.status ≡ 0
  pub count : answer.steps ≡ counted (length (all_words (steps ++ others)))
  pub bytes : answer.message_bytes ≡ counted (length (all_bytes (steps ++ others)))
  pub used : answer.used ≡ counted (length (all_words steps))

-- The text's one tree is returned, and after it the lexer's messages; the texts of its tokens joined are the text, and
-- there are at most 801 words for each byte of the text and 801 more.
pub record IsFilledTreeWords (text : List ℕ) (edition : Edition) (entry : TopEntryPoint) (words words_after messages messages_after : List ℕ) (answer : RapAnswer) : Type 0 where
  pub lexed : Lexed
  pub forest : Forest
  pub parsed : IsParsed text edition entry lexed forest
  pub whole : str_joined (with_trivia lexed.tokens forest) ≡ text
  pub given : AreWordsGiven (str_flat (with_trivia lexed.tokens forest)) (error_steps lexed.tokens lexed.errors) words words_after messages messages_after answer
  pub few : answer.steps ≤ 801 * (length text + 1)

-- The bytes are UTF-8, the numbers are those of an edition and of an entry, and the text's one tree is returned.
pub record IsTreeWords (text : List ℕ) (year entry_number : ℕ) (words words_after messages messages_after : List ℕ) (answer : RapAnswer) : Type 0 where
  pub edition : Edition
  pub is_edition : IsEditionOf year edition
  pub entry : TopEntryPoint
  pub is_entry : IsTopOf entry_number entry
  pub utf8 : IsUtf8 text
  pub filled : IsFilledTreeWords text edition entry words words_after messages messages_after answer

-- the room is unchanged
pub record AreWordsUntouched (words words_after messages messages_after : List ℕ) : Type 0 where
  pub words_are : words_after ≡ words
  pub messages_are : messages_after ≡ messages
