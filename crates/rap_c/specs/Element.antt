-- A tree's list and its messages, in numbers.
use Rattle.std.specs.Prelude.{ℕ, ◌+◌, List, [], ◌∷◌, ◌++◌, length, map, take}
use Rattle.rap_ranged.specs.Listed.{ListedElement}
use Rattle.rap_ranged.specs.RangedMessages.{RangedMessage}
use Rattle.rap_c.specs.Item.{counted}
use Rattle.rap_c.specs.Words.{as_word}
use Rattle.rap_c.specs.declared.element.RapElement.{RapElement}
use Rattle.rap_c.specs.declared.element.RapMessage.{RapMessage}

-- a node or a leaf
abbrev pub cell : ListedElement → RapElement
cell e = record { kind = e.kind; start = as_word e.start; end = as_word e.end; after = as_word e.after; parent = as_word e.parent }

-- those of a list, and no more than indices of 32 bits can name
abbrev pub cells : List ListedElement → List RapElement
cells es = take 4294967295 (map cell es)

-- a message after n bytes of messages
abbrev pub message_row : ℕ → RangedMessage → RapMessage
message_row said m =
    record { at = m.at; start = m.start; end = m.end; text_start = counted said; text_end = counted (said + length m.text) }

-- messages, one after another
abbrev pub message_rows : ℕ → List RangedMessage → List RapMessage
message_rows said [] = []
message_rows said (m ∷ ms) = message_row said m ∷ message_rows (said + length m.text) ms

-- the bytes of their texts
abbrev pub message_texts : List RangedMessage → List ℕ
message_texts [] = []
message_texts (m ∷ ms) = m.text ++ message_texts ms
