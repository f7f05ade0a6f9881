-- What is returned of a prefix of a text, and of a node that is parsed again, in one list.
use Rattle.std.specs.Prelude.{◌≡◌, ℕ, List, [], Bool, Option, Some, true, false, IsUtf8}
use Rattle.rap_base.specs.TokenKind.{L_CURLY}
use Rattle.rap_base.specs.declared.edition.Edition.{Edition}
use Rattle.rap_events.specs.Forest.{Forest, one_tree, used}
use Rattle.rap_events.specs.Record.{next_kind}
use Rattle.ra_ap_parser.specs.EntryScript.{IsPrefixOutputOf}
use Rattle.ra_ap_parser.specs.declared.entry_point.PrefixEntryPoint.{PrefixEntryPoint}
use Rattle.rap_grammar.specs.Part.{IsOneNode, IsPrefixOf, IsPrefixOver, part_script, part_kind, asks_brace}
use Rattle.rap_grammar.specs.declared.entry.part.Part.{Part}
use Rattle.rap_grammar_ends.specs.Dots.{dots_inside}
use Rattle.rap_lexed.specs.Input.{records}
use Rattle.rap_lexed.specs.LexedStr.{Lexed, Token}
use Rattle.rap_lexed.specs.Used.{end_after}
use Rattle.rap_c.specs.Listed.{IsListGiven, Rooms}
use Rattle.rap_c.specs.Numbers as numbers
use Rattle.rap_c.specs.Prefix.{IsRead}
use Rattle.rap_c.specs.declared.element.RapNodesAnswer.{RapNodesAnswer}

-- nothing is written, and nothing counted
pub record IsNoList (used : ℕ) (rooms rooms_after : Rooms) (answer : RapNodesAnswer) : Type 0 where
  pub untouched : rooms_after ≡ rooms
  pub is : answer ≡ record { status = 1; elements = 0; messages = 0; message_bytes = 0; used = used }

-- the output's tree, or nothing where it is not one tree
abbrev pub IsListOr : Bool → List Token → Forest → Rooms → Rooms → RapNodesAnswer → Type 0
IsListOr true ts output rooms rooms_after answer = IsListGiven ts output [] (end_after (used output) ts) rooms rooms_after answer
IsListOr false ts output rooms rooms_after answer = IsNoList (end_after (used output) ts) rooms rooms_after answer

abbrev pub IsOutputList : List Token → Forest → Rooms → Rooms → RapNodesAnswer → Type 0
IsOutputList ts output rooms rooms_after answer = IsListOr (one_tree output) ts output rooms rooms_after answer

-- The output of the entry for a prefix of the text is returned: it is over tokens at the front and over no others, and no
-- node at its top ends with a float that ends in a dot.
pub record IsFilledFront (text : List ℕ) (edition : Edition) (entry : PrefixEntryPoint) (rooms rooms_after : Rooms) (answer : RapNodesAnswer) : Type 0 where
  pub lexed : Lexed
  pub output : Forest
  pub is_read : IsRead text edition lexed
  pub made : IsPrefixOutputOf entry (records lexed.tokens edition) output
  pub front : IsPrefixOver (records lexed.tokens edition) output
  pub dots : dots_inside output ≡ true
  pub is : IsOutputList lexed.tokens output rooms rooms_after answer

-- The bytes are UTF-8, the numbers are those of an edition and of an entry, and its output is returned.
pub record IsFrontNodes (text : List ℕ) (year entry_number : ℕ) (rooms rooms_after : Rooms) (answer : RapNodesAnswer) : Type 0 where
  pub edition : Edition
  pub is_edition : numbers.IsEditionOf year edition
  pub entry : PrefixEntryPoint
  pub is_entry : numbers.IsPrefixOf entry_number entry
  pub utf8 : IsUtf8 text
  pub filled : IsFilledFront text edition entry rooms rooms_after answer

-- The node that is parsed again is returned: it is over tokens at the front and over no others, and where a brace comes
-- first it is exactly one node of its kind.
pub record IsFilledAgain (text : List ℕ) (edition : Edition) (part : Part) (rooms rooms_after : Rooms) (answer : RapNodesAnswer) : Type 0 where
  pub lexed : Lexed
  pub output : Forest
  pub is_read : IsRead text edition lexed
  pub brace : asks_brace part ≡ true → next_kind (records lexed.tokens edition) ≡ L_CURLY
  pub made : IsPrefixOf (part_script part) (records lexed.tokens edition) output
  pub front : IsPrefixOver (records lexed.tokens edition) output
  pub dots : dots_inside output ≡ true
  pub one : next_kind (records lexed.tokens edition) ≡ L_CURLY → IsOneNode (part_kind part) output
  pub is : IsOutputList lexed.tokens output rooms rooms_after answer

-- The bytes are UTF-8, the number is that of an edition, and the node of this kind is returned.
pub record IsAgainNodes (text : List ℕ) (year : ℕ) (kind : Option ℕ) (rooms rooms_after : Rooms) (answer : RapNodesAnswer) : Type 0 where
  pub edition : Edition
  pub is_edition : numbers.IsEditionOf year edition
  pub part : Part
  pub is_part : kind ≡ Some (part_kind part)
  pub utf8 : IsUtf8 text
  pub filled : IsFilledAgain text edition part rooms rooms_after answer
