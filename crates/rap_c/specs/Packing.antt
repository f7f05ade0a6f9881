-- The caller's room for words, filled.
use Rattle.std.specs.Prelude.{ℕ, ◌+◌, List, [], ◌∷◌, length}
use Rattle.rap_lexed.specs.StrStep.{StrStepValue}
use Rattle.rap_c.specs.Filling.{write_at}
use Rattle.rap_c.specs.Item.{counted}
use Rattle.rap_c.specs.Words.{words_of, bytes_of}

-- The room for words and for the bytes of messages, and how many there were of each.
pub record Packing : Type 0 where
  pub words : List ℕ
  pub messages : List ℕ
  pub count : ℕ
  pub said : ℕ

-- more words, and more bytes of messages
abbrev pub packed : Packing → List ℕ → List ℕ → Packing
packed p words bytes = record {
  words = write_at p.words p.count words;
  messages = write_at p.messages p.said bytes;
  count = counted (p.count + length words);
  said = counted (p.said + length bytes);
}

-- more steps, one after another
abbrev pub packed_all : Packing → List StrStepValue → Packing
packed_all p [] = p
packed_all p (x ∷ xs) = packed_all (packed p (words_of x) (bytes_of x)) xs
