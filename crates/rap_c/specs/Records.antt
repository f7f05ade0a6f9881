-- What is returned of a text's records.
use Rattle.std.specs.Prelude.{◌≡◌, ℕ, ◌≤◌, List, map, length, IsUtf8}
use Rattle.rap_base.specs.declared.edition.Edition.{Edition}
use Rattle.rap_lexed.specs.Input.{records}
use Rattle.rap_lexed.specs.LexedStr.{Lexed, IsLexing}
use Rattle.rap_c.specs.Filling.{overwritten}
use Rattle.rap_c.specs.Numbers.{IsEditionOf}
use Rattle.rap_c.specs.Record.{row_of}
use Rattle.rap_c.specs.declared.answer.RapAnswer.{RapAnswer}
use Rattle.rap_c.specs.declared.record.RapRecord.{RapRecord}

-- The first records of the room are those of the text's tokens that are no trivia, as many as fit; what is after
-- them does not change. The result has the number of all.
pub record IsFilledRecords (text : List ℕ) (edition : Edition) (room room_after : List RapRecord) (answer : RapAnswer) : Type 0 where
  pub lexed : Lexed
  pub lexing : IsLexing text edition lexed
  pub small : length text ≤ 4294967295
  pub rows_are : room_after ≡ overwritten room (map row_of (records lexed.tokens edition))
  pub answer_is : answer ≡ record { status = 0; steps = length (records lexed.tokens edition); message_bytes = 0; used = length text }

-- The bytes are UTF-8, the number is that of an edition, and the text's records are returned.
pub record IsRecords (text : List ℕ) (year : ℕ) (room room_after : List RapRecord) (answer : RapAnswer) : Type 0 where
  pub edition : Edition
  pub is_edition : IsEditionOf year edition
  pub utf8 : IsUtf8 text
  pub filled : IsFilledRecords text edition room room_after answer
