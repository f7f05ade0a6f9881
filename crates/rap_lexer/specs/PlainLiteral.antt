-- Literals in their plainest form, by their bytes: nothing is to be reported about them.
use Rattle.std.specs.Prelude.{◌≡◌, ℕ, Bool, false, true, ◌&&◌, ◌==◌, not, nat_le, is_some, if◌then◌else◌, List, [], ◌∷◌, ◌++◌, ◌+◌, length, chars, drop, IsCharBoundary}
use Rattle.std.specs.Str.{byte}
use Rattle.rap_base.specs.declared.edition.Edition.{Edition}
use Rattle.rap_lexer.specs.Common.{next_fits}
use Rattle.rap_lexer.specs.Escape.{simple_escape, Reports}
use Rattle.rap_lexer.specs.First.{First}
use Rattle.rap_lexer.specs.Lexeme.{literal}
use Rattle.rap_lexer.specs.Plain.{begins_suffix}
use Rattle.rap_lexer.specs.Run.{next_is, tail}
use Rattle.rap_lexer.specs.declared.escape.Mode.{Mode}
use Rattle.rap_lexer.specs.declared.escape.Mode.TheVariants.{Char, Byte, Str, ByteStr, CStr}

-- a backslash and this character are an escape
abbrev pub is_simple : ℕ → Bool
is_simple c = is_some (simple_escape c)

-- What follows the opening quote of a string is text without another backslash than those of escapes of one character,
-- up to a quote that nothing follows which may begin a suffix. `escaped` says that a backslash stands before.
abbrev pub ends_plainly : Bool → List ℕ → Bool
ends_plainly escaped [] = false
ends_plainly true (b ∷ bs) = is_simple b && ends_plainly false bs
ends_plainly false (b ∷ bs) = if b == byte "\"" then not (next_fits begins_suffix bs) else ends_plainly (b == byte "\\") bs

-- The text begins with a string of that form.
abbrev pub is_plain_string : List ℕ → Bool
is_plain_string text = next_is (byte "\"") text && ends_plainly false (tail text)

-- a printing character in ASCII that is neither a quote of a character nor a backslash
abbrev pub is_bare : ℕ → Bool
is_bare b = nat_le 32 b && (nat_le b 126 && (not (b == byte "'") && not (b == byte "\\")))

-- The text begins with an escape of one character in quotes, and nothing follows that may begin a suffix.
abbrev pub is_escaped_character : List ℕ → Bool
is_escaped_character text =
    next_is (byte "'") text && (next_is (byte "\\") (drop 1 text) && (next_fits is_simple (drop 2 text) &&
    (next_is (byte "'") (drop 3 text) && not (next_fits begins_suffix (drop 4 text)))))

-- The text begins with a bare character in quotes, and nothing follows that may begin a suffix.
abbrev pub is_bare_character : List ℕ → Bool
is_bare_character text =
    next_is (byte "'") text && (next_fits is_bare (drop 1 text) &&
    (next_is (byte "'") (drop 2 text) && not (next_fits begins_suffix (drop 3 text))))

-- The text begins with one of the two.
abbrev pub is_plain_character : List ℕ → Bool
is_plain_character text = if next_is (byte "\\") (drop 1 text) then is_escaped_character text else is_bare_character text

-- the quote of a literal
abbrev pub quote_of : Mode → ℕ
quote_of Char = byte "'"
quote_of Byte = byte "'"
quote_of Str = byte "\""
quote_of ByteStr = byte "\""
quote_of CStr = byte "\""

-- The text begins with a closed literal of this kind and this length in bytes, in whose body there is nothing to report.
pub record IsPlainLiteral (text : List ℕ) (kind : ℕ) (mode : Mode) (n : ℕ) : Type 0 where
  pub token : (edition : Edition) → First edition (chars text) (literal kind mode true) (chars (drop n text))
  pub border : IsCharBoundary text n
  pub body : List ℕ
  pub rest : List ℕ
  pub split : text ≡ quote_of mode ∷ (body ++ quote_of mode ∷ rest)
  pub size : n ≡ length body + 2
  pub nothing : Reports mode (chars body) []
