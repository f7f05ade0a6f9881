-- The faults in the body of a literal. A body is the list of the characters between the quotes.
use Rattle.std.specs.Prelude.{◌≡◌, ◌≢◌, ℕ, ◌<◌, ◌≤◌, ◌⊎◌, Bool, true, false, not, ◌&&◌, ◌||◌, ◌==◌, nat_lt, nat_le, if◌then◌else◌, ⊤, List, [], ◌∷◌, ◌++◌, length, filter, Option, Some, None, Result, Ok, Err, codes}
use Rattle.std.specs.Str.{byte}
use Rattle.std.specs.Str.Parse.{digits_value}
use Rattle.std.specs.Char.{digit_value}
use Rattle.std.specs.List.{AllByRecursion}
use Rattle.rap_lexer.specs.Run.{after_run}
use Rattle.rap_lexer.specs.declared.escape.Mode.{Mode}
use Rattle.rap_lexer.specs.declared.escape.Mode.TheVariants.{Char, Byte, Str, ByteStr, CStr}
use Rattle.rap_lexer.specs.declared.escape.Fault.{Fault}
use Rattle.rap_lexer.specs.declared.escape.Fault.TheVariants.{ZeroChars, MoreThanOneChar, InvalidEscape, EscapeOnlyChar, TooShortHexEscape, InvalidCharInHexEscape, OutOfRangeHexEscape, NoBraceInUnicodeEscape, UnclosedUnicodeEscape, LeadingUnderscoreUnicodeEscape, EmptyUnicodeEscape, InvalidCharInUnicodeEscape, OverlongUnicodeEscape, UnicodeEscapeInByte, InvalidUnicodeEscape, NonAsciiCharInByte, NulInCStr}

abbrev pub tab : ℕ
tab = 0x9

abbrev pub line_feed : ℕ
line_feed = 0xA

abbrev pub carriage_return : ℕ
carriage_return = 0xD

abbrev pub backslash : ℕ
backslash = byte "\\"

-- bytes and byte strings, whose characters are ASCII
abbrev pub is_byte : Mode → Bool
is_byte Char = false
is_byte Byte = true
is_byte Str = false
is_byte ByteStr = true
is_byte CStr = false

-- characters and bytes, which hold one character
abbrev pub is_single : Mode → Bool
is_single Char = true
is_single Byte = true
is_single Str = false
is_single ByteStr = false
is_single CStr = false

-- the greatest value of a `\x`: ASCII in what holds text
abbrev pub hex_limit : Mode → ℕ
hex_limit Char = 0x7F
hex_limit Byte = 0xFF
hex_limit Str = 0x7F
hex_limit ByteStr = 0xFF
hex_limit CStr = 0xFF

-- what an escape of one character stands for
abbrev pub simple_escape : ℕ → Option ℕ
simple_escape c =
    if c == byte "n" then Some line_feed
    else (if c == byte "r" then Some carriage_return
    else (if c == byte "t" then Some tab
    else (if c == backslash then Some backslash
    else (if c == byte "'" then Some (byte "'")
    else (if c == byte "\"" then Some (byte "\"")
    else (if c == byte "0" then Some 0
    else None))))))

abbrev pub IsHexDigit : ℕ → Type 0
IsHexDigit c = digit_value c < 16

abbrev pub IsNoHexDigit : ℕ → Type 0
IsNoHexDigit c = 16 ≤ digit_value c

-- what a `\x` of two digits is: its value, or that it is over the limit
abbrev pub hex_escape : Mode → ℕ → Result ℕ Fault
hex_escape mode value = if nat_lt (hex_limit mode) value then Err OutOfRangeHexEscape else Ok value

-- a digit or a later `_` of a `\u{..}`
abbrev pub IsDigitOrUnderscore : ℕ → Type 0
IsDigitOrUnderscore c = IsHexDigit c ⊎ (c ≡ byte "_")

-- a digit, and then digits and `_`
abbrev pub AreDigits : List ℕ → Type 0
AreDigits [] = ⊥
AreDigits (c ∷ cs) = IsHexDigit c × AllByRecursion IsDigitOrUnderscore cs

-- the same, or nothing yet
abbrev pub AreInitialDigits : List ℕ → Type 0
AreInitialDigits [] = ⊤
AreInitialDigits (c ∷ cs) = AreDigits (c ∷ cs)

-- neither a digit nor `_` nor the end of a `\u{..}`
abbrev pub IsForeign : ℕ → Type 0
IsForeign c = IsNoHexDigit c × (c ≢ byte "_") × (c ≢ byte "}")

abbrev pub without_underscores : List ℕ → List ℕ
without_underscores = filter (λ c. not (c == byte "_"))

-- over 10FFFF, or a surrogate
abbrev pub is_no_character : ℕ → Bool
is_no_character value = nat_lt 0x10FFFF value || (nat_le 0xD800 value && nat_le value 0xDFFF)

-- what a `\u{..}` of these digits is: too many digits are reported first, then a mode of bytes, then the value
abbrev pub unicode_escape : Mode → List ℕ → Result ℕ Fault
unicode_escape mode digits =
    if nat_lt 6 (length digits) then Err OverlongUnicodeEscape
    else (if is_byte mode then Err UnicodeEscapeInByte
    else (if is_no_character (digits_value 16 digits) then Err InvalidUnicodeEscape
    else Ok (digits_value 16 digits)))

-- An escape after its backslash: the value or the fault, and what is left after the characters that it took. A faulty
-- escape has taken the characters up to the one that shows the fault.
pub data Escape (mode : Mode) : List ℕ → Result ℕ Fault → List ℕ → Type 0 where
  -- a backslash that ends the body stands for itself
  alone : Escape mode [] (Ok backslash) []
  simple : (c value : ℕ) (rest : List ℕ) → simple_escape c ≡ Some value
      → Escape mode (c ∷ rest) (Ok value) rest
  unknown : (c : ℕ) (rest : List ℕ) → simple_escape c ≡ None → c ≢ byte "x" → c ≢ byte "u"
      → Escape mode (c ∷ rest) (Err InvalidEscape) rest
  -- the first character after `\x` is checked before the second is read
  hex_short_first : Escape mode (codes "x") (Err TooShortHexEscape) []
  hex_wrong_first : (a : ℕ) (rest : List ℕ) → IsNoHexDigit a
      → Escape mode (byte "x" ∷ a ∷ rest) (Err InvalidCharInHexEscape) rest
  hex_short_second : (a : ℕ) → IsHexDigit a
      → Escape mode (byte "x" ∷ a ∷ []) (Err TooShortHexEscape) []
  hex_wrong_second : (a b : ℕ) (rest : List ℕ) → IsHexDigit a → IsNoHexDigit b
      → Escape mode (byte "x" ∷ a ∷ b ∷ rest) (Err InvalidCharInHexEscape) rest
  hex : (a b : ℕ) (rest : List ℕ) → IsHexDigit a → IsHexDigit b
      → Escape mode (byte "x" ∷ a ∷ b ∷ rest) (hex_escape mode (digits_value 16 (a ∷ b ∷ []))) rest
  -- `\u`, and then `\u{`
  no_brace_at_end : Escape mode (codes "u") (Err NoBraceInUnicodeEscape) []
  no_brace : (c : ℕ) (rest : List ℕ) → c ≢ byte "{"
      → Escape mode (byte "u" ∷ c ∷ rest) (Err NoBraceInUnicodeEscape) rest
  leading_underscore : (rest : List ℕ)
      → Escape mode (codes "u{_" ++ rest) (Err LeadingUnderscoreUnicodeEscape) rest
  empty : (rest : List ℕ)
      → Escape mode (codes "u{}" ++ rest) (Err EmptyUnicodeEscape) rest
  unclosed : (cs : List ℕ) → AreInitialDigits cs
      → Escape mode (codes "u{" ++ cs) (Err UnclosedUnicodeEscape) []
  foreign : (cs : List ℕ) (c : ℕ) (rest : List ℕ) → AreInitialDigits cs → IsForeign c
      → Escape mode (codes "u{" ++ cs ++ c ∷ rest) (Err InvalidCharInUnicodeEscape) rest
  closed : (cs rest : List ℕ) → AreDigits cs
      → Escape mode (codes "u{" ++ cs ++ byte "}" ∷ rest) (unicode_escape mode (without_underscores cs)) rest

-- what a character without a backslash is: some must have one in a character or byte, and bytes are ASCII
abbrev pub plain_character : Mode → ℕ → Result ℕ Fault
plain_character mode c =
    if is_single mode && ((c == line_feed) || (c == tab) || (c == byte "'")) then Err EscapeOnlyChar
    else (if is_byte mode && nat_lt 0x7F c then Err NonAsciiCharInByte
    else Ok c)

-- The first character of a body, with or without a backslash: the value or the fault, and what is left.
pub data Character (mode : Mode) : List ℕ → Result ℕ Fault → List ℕ → Type 0 where
  plain : (c : ℕ) (rest : List ℕ) → c ≢ backslash
      → Character mode (c ∷ rest) (plain_character mode c) rest
  escaped : (cs : List ℕ) (outcome : Result ℕ Fault) (rest : List ℕ) → Escape mode cs outcome rest
      → Character mode (backslash ∷ cs) outcome rest

abbrev pub BeginsNot : List ℕ → List ℕ → Type 0
BeginsNot prefix body = (rest : List ℕ) → body ≢ prefix ++ rest

-- The body of a character or byte reports at most one fault. A carriage return without a backslash ends the check.
pub data CharacterReports (mode : Mode) : List ℕ → List Fault → Type 0 where
  empty : CharacterReports mode [] (ZeroChars ∷ [])
  bare_return : (rest : List ℕ) → CharacterReports mode (carriage_return ∷ rest) []
  faulty : (body : List ℕ) (fault : Fault) (rest : List ℕ) → BeginsNot (carriage_return ∷ []) body
      → Character mode body (Err fault) rest
      → CharacterReports mode body (fault ∷ [])
  more : (body : List ℕ) (value c : ℕ) (rest : List ℕ) → BeginsNot (carriage_return ∷ []) body
      → Character mode body (Ok value) (c ∷ rest)
      → CharacterReports mode body (MoreThanOneChar ∷ [])
  one : (body : List ℕ) (value : ℕ) → BeginsNot (carriage_return ∷ []) body
      → Character mode body (Ok value) []
      → CharacterReports mode body []

-- what a backslash before a line feed skips
abbrev pub is_gap : ℕ → Bool
is_gap c = (c == byte " ") || (c == tab) || (c == line_feed) || (c == carriage_return)

-- the faults of one character in a string: its own, or that it is the NUL of a C string
abbrev pub reported : Mode → Result ℕ Fault → List Fault
reported CStr (Ok value) = if value == 0 then NulInCStr ∷ [] else []
reported mode (Ok value) = []
reported mode (Err fault) = fault ∷ []

-- The body of a string reports the faults of its characters in order.
pub data StringReports (mode : Mode) : List ℕ → List Fault → Type 0 where
  end : StringReports mode [] []
  gap : (cs : List ℕ) (faults : List Fault) → StringReports mode (after_run is_gap cs) faults
      → StringReports mode (backslash ∷ line_feed ∷ cs) faults
  next : (body : List ℕ) (outcome : Result ℕ Fault) (rest : List ℕ) (faults : List Fault)
      → BeginsNot (backslash ∷ line_feed ∷ []) body
      → Character mode body outcome rest → StringReports mode rest faults
      → StringReports mode body (reported mode outcome ++ faults)

-- the body of a literal reports these faults
abbrev pub Reports : Mode → List ℕ → List Fault → Type 0
Reports Char = CharacterReports Char
Reports Byte = CharacterReports Byte
Reports Str = StringReports Str
Reports ByteStr = StringReports ByteStr
Reports CStr = StringReports CStr

-- the message of a fault
abbrev pub message : Fault → Mode → List ℕ
message ZeroChars mode = codes "empty character literal"
message MoreThanOneChar mode = codes "character literal may only contain one codepoint"
message InvalidEscape mode = if is_byte mode then codes "unknown byte escape" else codes "unknown character escape"
message EscapeOnlyChar mode =
    if is_byte mode then codes "byte constant must be escaped" else codes "character constant must be escaped"
message TooShortHexEscape mode = codes "numeric character escape is too short"
message InvalidCharInHexEscape mode = codes "invalid character in numeric character escape"
message OutOfRangeHexEscape mode = codes "out of range hex escape"
message NoBraceInUnicodeEscape mode = codes "incorrect unicode escape sequence"
message UnclosedUnicodeEscape mode = codes "unterminated unicode escape"
message LeadingUnderscoreUnicodeEscape mode = codes "invalid start of unicode escape"
message EmptyUnicodeEscape mode = codes "empty unicode escape"
message InvalidCharInUnicodeEscape mode = codes "invalid character in unicode escape"
message OverlongUnicodeEscape mode = codes "overlong unicode escape"
message UnicodeEscapeInByte mode = codes "unicode escape in byte string"
message InvalidUnicodeEscape mode = codes "invalid unicode character escape"
message NonAsciiCharInByte mode =
    if is_single mode then codes "non-ASCII character in byte literal" else codes
    "non-ASCII character in byte string literal"
message NulInCStr mode = codes "null character in C string literal"
