-- What a filler of a tree in one list does.
-- (Used in contracts between internal functions only; no public contract rests on it.)
use Rattle.std.specs.Prelude.{◌≡◌, ℕ, zero, suc, ◌+◌, ◌≤◌, ◌<◌, ◌^◌, List, [], ◌∷◌, ◌++◌, Some, length, map, min, take, drop, slice_set}
use Rattle.std.specs.List.{slice_get}
use Rattle.rap_lexed.specs.StrStep.{StrStepValue}
use Rattle.rap_ranged.specs.Listed.{ListedElement, no_parent}
use Rattle.rap_ranged.specs.Listing.{Listing, Noting, all_added, all_ranged, listing_after, newest, noting_after, step_end}
use Rattle.rap_ranged.specs.RangedMessages.{RangedMessage}
use Rattle.rap_c.specs.Element.{cell, message_rows, message_texts}
use Rattle.rap_c.specs.Filling.{overwritten, write_at}
use Rattle.rap_c.specs.Item.{counted}
use Rattle.rap_c.specs.Listed.{Rooms}
use Rattle.rap_c.specs.declared.element.RapElement.{RapElement}
use Rattle.rap_c.specs.declared.element.RapMessage.{RapMessage}
use Rattle.rap_c.specs.declared.element_room.ElementCounts.{ElementCounts}
use Rattle.rap_c.specs.declared.message_room.MessageCounts.{MessageCounts}
use Rattle.rap_c.specs.declared.node_filler.NodeFiller.{NodeFiller}

-- the room for elements, as filled so far
pub record ElementRoom : Type 0 where
  pub elements : List RapElement
  pub count : ℕ
  pub newest : ℕ
  pub beyond : ℕ

abbrev pub element_room : List RapElement → ElementCounts → ElementRoom
element_room elements c = record { elements = elements; count = c.count; newest = c.newest; beyond = c.beyond }

abbrev pub elements_of : NodeFiller → ElementRoom
elements_of f = element_room f.elements.now f.element_counts

-- and that for messages
pub record MessageRoom : Type 0 where
  pub messages : List RapMessage
  pub bytes : List ℕ
  pub count : ℕ
  pub said : ℕ
  pub ranged : ℕ

abbrev pub message_room : List RapMessage → List ℕ → MessageCounts → MessageRoom
message_room messages bytes c = record { messages = messages; bytes = bytes; count = c.count; said = c.said; ranged = c.ranged }

abbrev pub messages_of : NodeFiller → MessageRoom
messages_of f = message_room f.messages.now f.bytes.now f.message_counts

-- how many elements have a place in the room
abbrev pub places : List RapElement → ℕ
places room = min (length room) no_parent

-- these indices have a place
abbrev pub AllPlaced : ℕ → List ℕ → Type 0
AllPlaced count [] = Unit {0}
AllPlaced count (i ∷ others) = (i < count) × AllPlaced count others

-- the newest open nodes, so many, have no place, and this one is the newest of those that have
abbrev pub IsUp : ℕ → List ℕ → ℕ → ℕ → Type 0
IsUp count open_nodes zero n = (n ≡ newest open_nodes) × AllPlaced count open_nodes
IsUp count [] (suc beyond) n = ⊥
IsUp count (i ∷ others) (suc beyond) n = (count ≤ i) × IsUp count others beyond n

-- each open node is an element in the next one
abbrev pub IsChain : List ListedElement → List ℕ → Type 0
IsChain es [] = Unit {0}
IsChain es (i ∷ others) = ((e : ListedElement) × (slice_get es i ≡ Some e) × (e.parent ≡ newest others)) × IsChain es others

-- the room has a list's elements, as far as they have places
pub record HoldsElements (room : List RapElement) (es : List ListedElement) (open_nodes : List ℕ) (r : ElementRoom) : Type 0 where
  pub is : r.elements ≡ overwritten room (take (places room) (map cell es))
  pub count : r.count ≡ length es
  pub few : r.beyond ≤ length es
  pub up : IsUp (places room) open_nodes r.beyond r.newest
  pub chain : IsChain es open_nodes

-- a step does to the room what it does to the list
pub record LaysElements (at : ℕ) (step : StrStepValue) (old new : ElementRoom) : Type 0 where
  pub holds : (room : List RapElement) (l : Listing) → l.at ≡ at → length l.elements + 1 < 2 ^ 64 → HoldsElements room l.elements l.opened old
      → HoldsElements room (listing_after l step).elements (listing_after l step).opened new

-- the room has messages and their bytes, as many as fit
pub record HoldsNotes (room : List RapMessage) (byte_room : List ℕ) (notes : List RangedMessage) (ranged : ℕ) (r : MessageRoom) : Type 0 where
  pub is : r.messages ≡ overwritten room (message_rows 0 notes)
  pub bytes : r.bytes ≡ overwritten byte_room (message_texts notes)
  pub count : r.count ≡ counted (length notes)
  pub said : r.said ≡ counted (length (message_texts notes))
  pub ranged_is : r.ranged ≡ counted ranged
  pub first : ranged ≤ length notes
  pub short_room : length room < 2 ^ 64
  pub short_bytes : length byte_room < 2 ^ 64

-- a message is written where there is room for it
pub record PutsNote (text : List ℕ) (at start end : ℕ) (old new : MessageRoom) : Type 0 where
  pub messages : new.messages ≡ slice_set old.messages old.count (record { at = at; start = start; end = end; text_start = old.said; text_end = counted (old.said + length text) })
  pub bytes : new.bytes ≡ write_at old.bytes old.said text
  pub count : new.count ≡ counted (old.count + 1)
  pub said : new.said ≡ counted (old.said + length text)
  pub ranged : new.ranged ≡ old.ranged

-- a message is added
pub record AddsNote (m : RangedMessage) (old new : MessageRoom) : Type 0 where
  pub holds : (room : List RapMessage) (byte_room : List ℕ) (notes : List RangedMessage) (ranged : ℕ) → HoldsNotes room byte_room notes ranged old
      → HoldsNotes room byte_room (notes ++ m ∷ []) ranged new

-- from a place on, so many messages end at this byte
abbrev pub ends_at : ℕ → ℕ → ℕ → List RapMessage → List RapMessage
ends_at zero zero end rs = rs
ends_at zero (suc n) end [] = []
ends_at zero (suc n) end (r ∷ rs) = record r { end = end } ∷ ends_at zero n end rs
ends_at (suc i) n end [] = []
ends_at (suc i) n end (r ∷ rs) = r ∷ ends_at i n end rs

-- the ranges of those that have none end
pub record EndsRanges (end : ℕ) (old new : MessageRoom) : Type 0 where
  pub holds : (room : List RapMessage) (byte_room : List ℕ) (n : Noting) → HoldsNotes room byte_room n.notes n.ranged old
      → HoldsNotes room byte_room (all_ranged end n).notes (all_ranged end n).ranged new

-- the rooms have a list and its messages
pub record HoldsNodes (rooms : Rooms) (l : Listing) (n : Noting) (f : NodeFiller) : Type 0 where
  pub elements : HoldsElements rooms.elements l.elements l.opened (elements_of f)
  pub notes : HoldsNotes rooms.messages rooms.bytes n.notes n.ranged (messages_of f)
  pub waits : drop f.next f.waiting.now ≡ n.waiting
  pub place : f.at ≡ l.at

-- they are the same rooms
pub record AreSameRooms (old new : NodeFiller) : Type 0 where
  pub elements : new.elements.ghost_name ≡ old.elements.ghost_name
  pub messages : new.messages.ghost_name ≡ old.messages.ghost_name
  pub bytes : new.bytes.ghost_name ≡ old.bytes.ghost_name

-- the messages of the lexer at a leaf are added
pub record AddsWaiting (start end : ℕ) (old new : NodeFiller) : Type 0 where
  pub holds : (room : List RapMessage) (byte_room : List ℕ) (n : Noting) → n.ranged ≡ length n.notes → HoldsNotes room byte_room n.notes n.ranged (messages_of old) → drop old.next old.waiting.now ≡ n.waiting
      → HoldsNotes room byte_room (all_added start end n).notes (all_added start end n).ranged (messages_of new) × (drop new.next new.waiting.now ≡ (all_added start end n).waiting)
  pub elements : elements_of new ≡ elements_of old
  pub place : new.at ≡ old.at
  pub same : AreSameRooms old new

-- the numbers of a list and of a step are small
pub record IsShort (l : Listing) (step : StrStepValue) : Type 0 where
  pub count : length l.elements + 1 < 2 ^ 64
  pub end : step_end l.at step < 2 ^ 32

-- a step does to the rooms what it does to the list and to its messages
pub record LaysStep (old : NodeFiller) (step : StrStepValue) (new : NodeFiller) : Type 0 where
  pub holds : (rooms : Rooms) (l : Listing) (n : Noting) → IsShort l step → HoldsNodes rooms l n old → HoldsNodes rooms (listing_after l step) (noting_after l.at n step) new
  pub same : AreSameRooms old new
