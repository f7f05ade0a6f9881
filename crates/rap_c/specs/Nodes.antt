-- What is returned of a text's tree in one list.
use Rattle.std.specs.Prelude.{◌≡◌, ℕ, ◌+◌, ◌*◌, ◌≤◌, List, length, IsUtf8}
use Rattle.rap_base.specs.declared.edition.Edition.{Edition}
use Rattle.rap_events.specs.Forest.{Forest}
use Rattle.ra_ap_parser.specs.Headline.{IsParsed}
use Rattle.ra_ap_parser.specs.declared.entry_point.TopEntryPoint.{TopEntryPoint}
use Rattle.rap_lexed.specs.LexedStr.{Lexed}
use Rattle.rap_lexed.specs.StrForest.{str_joined}
use Rattle.rap_lexed.specs.Trivia.{with_trivia}
use Rattle.rap_ranged.specs.Reports.{lexer_reports}
use Rattle.rap_c.specs.Listed.{IsListGiven, Rooms}
use Rattle.rap_c.specs.NodesAnswer.{nodes_refusal}
use Rattle.rap_c.specs.Numbers.{IsEditionOf, IsTopOf}
use Rattle.rap_c.specs.declared.answer.Fault.{Fault}
use Rattle.rap_c.specs.declared.element.RapNodesAnswer.{RapNodesAnswer}

-- The text's one tree is returned, with the messages of the parser and of the lexer in the order of the text; the texts
-- of its leaves joined are the text, and there are at most 266 elements for each byte of the text and 266 more.
pub record IsFilledNodes (text : List ℕ) (edition : Edition) (entry : TopEntryPoint) (rooms rooms_after : Rooms) (answer : RapNodesAnswer) : Type 0 where
  pub lexed : Lexed
  pub forest : Forest
  pub parsed : IsParsed text edition entry lexed forest
  pub whole : str_joined (with_trivia lexed.tokens forest) ≡ text
  pub given : IsListGiven lexed.tokens forest (lexer_reports lexed.tokens lexed.errors) (length text) rooms rooms_after answer
  pub few : answer.elements ≤ 266 * (length text + 1)

-- The bytes are UTF-8, the numbers are those of an edition and of an entry, and the text's one tree is returned.
pub record IsNodes (text : List ℕ) (year entry_number : ℕ) (rooms rooms_after : Rooms) (answer : RapNodesAnswer) : Type 0 where
  pub edition : Edition
  pub is_edition : IsEditionOf year edition
  pub entry : TopEntryPoint
  pub is_entry : IsTopOf entry_number entry
  pub utf8 : IsUtf8 text
  pub filled : IsFilledNodes text edition entry rooms rooms_after answer

-- the room is unchanged
abbrev pub AreNodesUntouched : Rooms → Rooms → Type 0
AreNodesUntouched rooms rooms_after = rooms_after ≡ rooms

-- the result is that of a fault, which occurred
pub record IsNodesRefusal (Comes : Fault → Type 0) (answer : RapNodesAnswer) : Type 0 where
  pub fault : Fault
  pub comes : Comes fault
  pub is : answer ≡ nodes_refusal fault
