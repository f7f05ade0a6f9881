-- What is returned of a tree in one list.
use Rattle.std.specs.Prelude.{◌≡◌, ℕ, List, length, map}
use Rattle.rap_events.specs.Forest.{Forest}
use Rattle.rap_lexed.specs.LexedStr.{Token}
use Rattle.rap_lexed.specs.StrForest.{str_flat}
use Rattle.rap_lexed.specs.Trivia.{with_trivia}
use Rattle.rap_ranged.specs.Listed.{ListedElement, listed_tree}
use Rattle.rap_ranged.specs.MergedMessages.{merged}
use Rattle.rap_ranged.specs.Ranged.{Ranged}
use Rattle.rap_ranged.specs.RangedForest.{RangedNode}
use Rattle.rap_ranged.specs.RangedMessages.{RangedMessage, ranged_message}
use Rattle.rap_ranged.specs.Reports.{ReportValue, reports_of}
use Rattle.rap_c.specs.Element.{cells, message_rows, message_texts}
use Rattle.rap_c.specs.Filling.{overwritten}
use Rattle.rap_c.specs.Item.{counted}
use Rattle.rap_c.specs.declared.element.RapElement.{RapElement}
use Rattle.rap_c.specs.declared.element.RapMessage.{RapMessage}
use Rattle.rap_c.specs.declared.element.RapNodesAnswer.{RapNodesAnswer}

-- the caller's room: for elements, for messages and for the bytes of messages
pub record Rooms : Type 0 where
  pub elements : List RapElement
  pub messages : List RapMessage
  pub bytes : List ℕ

abbrev pub rooms_of : List RapElement → List RapMessage → List ℕ → Rooms
rooms_of elements messages bytes = record { elements = elements; messages = messages; bytes = bytes }

-- the messages of the tree of an output, and others among them, in the order of the text, each with its leaf
abbrev pub all_messages : List Token → Forest → RangedNode → List ReportValue → List RangedMessage
all_messages ts output root others =
    merged (map (ranged_message root.children) (reports_of (str_flat (with_trivia ts output)))) (map (ranged_message root.children) others)

-- The first places of the room have the elements, the messages and their bytes, as many as fit; what is after them does
-- not change. The result has the number of each.
pub record AreNodesGiven (elements : List ListedElement) (messages : List RangedMessage) (used : ℕ) (rooms rooms_after : Rooms) (answer : RapNodesAnswer) : Type 0 where
  pub elements_are : rooms_after.elements ≡ overwritten rooms.elements (cells elements)
  pub messages_are : rooms_after.messages ≡ overwritten rooms.messages (message_rows 0 messages)
  pub bytes_are : rooms_after.bytes ≡ overwritten rooms.bytes (message_texts messages)
  pub status : answer.status ≡ 0
  pub count : answer.elements ≡ length elements
  pub message_count : answer.messages ≡ counted (length messages)
  pub byte_count : answer.message_bytes ≡ counted (length (message_texts messages))
  pub used_is : answer.used ≡ used

-- The tree of an output over the tokens is returned, trivia put back, and these messages among its own.
pub record IsListGiven (ts : List Token) (output : Forest) (others : List ReportValue) (used : ℕ) (rooms rooms_after : Rooms) (answer : RapNodesAnswer) : Type 0 where
  pub root : RangedNode
  pub ranged : Ranged (with_trivia ts output) root
  pub given : AreNodesGiven (listed_tree root) (all_messages ts output root others) used rooms rooms_after answer
