-- What the lexer reports about a token.
use Rattle.std.specs.Prelude.{◌≡◌, ◌≢◌, ◌⊎◌, ℕ, All, Bool, false, ◌&&◌, ◌||◌, ◌==◌, Option, Some, None, option_to_list, MatchOption, List, [], ◌∷◌, ◌++◌, map, chars, codes, if◌then◌else◌}
use Rattle.std.specs.Str.{byte}
use Rattle.rap_lexer.specs.Escape.{Reports, message}
use Rattle.rap_lexer.specs.Run.{next_is}
use Rattle.rap_lexer.specs.declared.escape.Fault.{Fault}
use Rattle.rap_lexer.specs.declared.escape.Mode.{Mode}
use Rattle.rap_lexer.specs.declared.escape.Mode.TheVariants.{Char, Byte, Str, ByteStr, CStr}
use Rattle.rap_lexer.specs.declared.lexer.lexeme.Remark.{Remark}
use Rattle.rap_lexer.specs.declared.lexer.lexeme.Remark.TheVariants.{Nothing, OpenComment, InvalidRawString, UnknownPrefix, NoDigits, NoExponentDigits, ReservedString, InvalidIdent, UnknownLifetimePrefix, LifetimeStartsWithNumber, Unterminated, Escapes}

-- the quote of a literal
abbrev pub quote_of : Mode → ℕ
quote_of Char = byte "'"
quote_of Byte = byte "'"
quote_of Str = byte "\""
quote_of ByteStr = byte "\""
quote_of CStr = byte "\""

-- the body stands between the first of these quotes and the last one
pub record IsBetween (quote : ℕ) (text body : List ℕ) : Type 0 where
  pub before : List ℕ
  pub after : List ℕ
  pub split : text ≡ before ++ quote ∷ (body ++ quote ∷ after)
  pub first : All (λ b. b ≢ quote) before
  pub last : All (λ b. b ≢ quote) after

-- the body of a literal with this text; where no two quotes stand in it, nothing
abbrev pub IsBody : Mode → List ℕ → List ℕ → Type 0
IsBody mode text body =
    IsBetween (quote_of mode) text body ⊎ ((body ≡ []) × ((other : List ℕ) → ¬ IsBetween (quote_of mode) text other))

-- what is reported about a literal without a closing quote
abbrev pub unterminated : Mode → List ℕ
unterminated Char = codes "Missing trailing `'` symbol to terminate the character literal"
unterminated Byte = codes "Missing trailing `'` symbol to terminate the byte literal"
unterminated Str = codes "Missing trailing `\"` symbol to terminate the string literal"
unterminated ByteStr = codes "Missing trailing `\"` symbol to terminate the byte string literal"
unterminated CStr = codes "Missing trailing `\"` symbol to terminate the C string literal"

-- the message of a remark that has one of its own
abbrev pub fixed_message : Remark → Option (List ℕ)
fixed_message Nothing = None
fixed_message OpenComment = Some (codes "Missing trailing `*/` symbols to terminate the block comment")
fixed_message InvalidRawString = Some (codes "Invalid raw string literal")
fixed_message UnknownPrefix = Some (codes "unknown literal prefix")
fixed_message NoDigits = Some (codes "Missing digits after the integer base prefix")
fixed_message NoExponentDigits = Some (codes "Missing digits after the exponent symbol")
fixed_message ReservedString = Some (codes "Invalid string literal (reserved syntax)")
fixed_message InvalidIdent = Some (codes "Ident contains invalid characters")
fixed_message UnknownLifetimePrefix = Some (codes "Unknown lifetime prefix")
fixed_message LifetimeStartsWithNumber = Some (codes "Lifetime name cannot start with a number")
fixed_message (Unterminated mode) = Some (unterminated mode)
fixed_message (Escapes mode) = None

-- a byte stands in the text
abbrev pub holds : ℕ → List ℕ → Bool
holds b [] = false
holds b (c ∷ cs) = (c == b) || holds b cs

-- two bytes stand in the text, one directly after the other
abbrev pub holds_pair : ℕ → ℕ → List ℕ → Bool
holds_pair a b [] = false
holds_pair a b (c ∷ cs) = ((c == a) && next_is b cs) || holds_pair a b cs

-- a text that looks as if its string went on too far: it has a `(`, and `//` or a `;` directly before a line feed
abbrev pub looks_open : List ℕ → Bool
looks_open text = holds (byte "(") text && (holds_pair (byte "/") (byte "/") text || holds_pair (byte ";") 0xa text)

-- the note on an unknown prefix after such a string
abbrev pub prefix_note : List ℕ → List ℕ
prefix_note text = codes "unknown literal prefix `" ++ (text ++ codes "` (note: check for unterminated string literal)")

-- the faults of a literal's body, each by its message
abbrev pub ReportsFaults : Mode → List ℕ → List (List ℕ) → Type 0
ReportsFaults mode body ms =
    (faults : List Fault) × Reports mode (chars body) faults × (ms ≡ map (λ fault. message fault mode) faults)

-- what literal a remark asks to be checked
abbrev pub checked_mode : Remark → Option Mode
checked_mode (Escapes mode) = Some mode
checked_mode remark = None

-- a prefix that has the note
abbrev pub has_note : Bool → Remark → Bool
has_note after_open UnknownPrefix = after_open
has_note after_open remark = false

-- The messages that are reported about a token with this text and remark: of a literal the faults of its body in order,
-- of an unknown prefix the note where a string before it looks open, and else the message of the remark, if it has one.
abbrev pub ReportsOf : Bool → List ℕ → Remark → List (List ℕ) → Type 0
ReportsOf after_open text remark ms =
    MatchOption (checked_mode remark)
    (ms ≡ (if has_note after_open remark then prefix_note text ∷ [] else option_to_list (fixed_message remark)))
    (λ mode. (body : List ℕ) × IsBody mode text body × ReportsFaults mode body ms)
