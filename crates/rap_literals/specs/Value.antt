-- What the body of a literal in quotes stands for (the Reference, "Character and string literals" and "Byte and byte
-- string literals"). A body is the list of the characters between the quotes. What its first character is, with or
-- without a backslash, are the lexer's own rules.
use Rattle.std.specs.Prelude.{◌≡◌, ℕ, Bool, ◌&&◌, List, [], ◌∷◌, ◌++◌, if◌then◌else◌, encode_utf8, Ok}
use Rattle.std.specs.Str.{byte}
use Rattle.rap_lexer.specs.Escape.{backslash, line_feed, carriage_return, is_gap, reported, BeginsNot, Character}
use Rattle.rap_lexer.specs.Run.{next_is, tail, after_run}
use Rattle.rap_lexer.specs.declared.escape.Mode.{Mode}

-- a `\x` stands first
abbrev pub begins_hex : List ℕ → Bool
begins_hex cs = next_is backslash cs && next_is (byte "x") (tail cs)

-- what the first character of a body comes to in bytes, by its value: a `\x` is the byte that it names, and any other
-- character is written in UTF-8
abbrev pub bytes_of : List ℕ → ℕ → List ℕ
bytes_of body value = if begins_hex body then value ∷ [] else encode_utf8 value

-- The body of a string stands for these bytes. A backslash at the end of a line stands for nothing, and so does the
-- white space after it; any other character has a value, of which nothing is to be reported.
pub data StringValue (mode : Mode) : List ℕ → List ℕ → Type 0 where
  end : StringValue mode [] []
  gap : (cs bytes : List ℕ) → StringValue mode (after_run is_gap cs) bytes
      → StringValue mode (backslash ∷ line_feed ∷ cs) bytes
  next : (body : List ℕ) (value : ℕ) (rest bytes : List ℕ)
      → BeginsNot (backslash ∷ line_feed ∷ []) body
      → Character mode body (Ok value) rest → reported mode (Ok value) ≡ []
      → StringValue mode rest bytes
      → StringValue mode body (bytes_of body value ++ bytes)

-- The body of a character or byte stands for this one: it is that character, with or without a backslash, and nothing
-- else. A carriage return needs a backslash.
pub record CharacterValue (mode : Mode) (body : List ℕ) (value : ℕ) : Type 0 where
  pub escaped_return : BeginsNot (carriage_return ∷ []) body
  pub whole : Character mode body (Ok value) []
