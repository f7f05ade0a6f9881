-- The faults of a literal's body as a function: a walk over its characters. The rules of `Escape` report the same list.
use Rattle.std.specs.Prelude.{ℕ, not, ◌&&◌, ◌==◌, nat_lt, if◌then◌else◌, List, [], ◌∷◌, ◌++◌, Result, Ok, Err}
use Rattle.std.specs.Option.{ok_or}
use Rattle.std.specs.Str.{byte}
use Rattle.std.specs.Str.Parse.{digits_value}
use Rattle.std.specs.Char.{digit_value}
use Rattle.rap_lexer.specs.declared.escape.Mode.{Mode}
use Rattle.rap_lexer.specs.declared.escape.Fault.{Fault}
use Rattle.rap_lexer.specs.declared.escape.Fault.TheVariants.{ZeroChars, MoreThanOneChar, InvalidEscape, TooShortHexEscape, InvalidCharInHexEscape, NoBraceInUnicodeEscape, UnclosedUnicodeEscape, LeadingUnderscoreUnicodeEscape, EmptyUnicodeEscape, InvalidCharInUnicodeEscape}
use Rattle.rap_lexer.specs.Escape.{is_single, line_feed, carriage_return, backslash, simple_escape, hex_escape, unicode_escape, plain_character, is_gap, reported}

-- where the walk stands
pub data Place : Type 0 where
  before_character : Place
  after_backslash : Place
  in_gap : Place
  after_x : Place
  after_x_digit : ℕ → Place
  after_u : Place
  after_brace : Place
  in_digits : List ℕ → Place

-- a character or byte reports its fault, or that more follows
abbrev pub only_fault : Result ℕ Fault → List ℕ → List Fault
only_fault (Err fault) rest = fault ∷ []
only_fault (Ok value) [] = []
only_fault (Ok value) (c ∷ cs) = MoreThanOneChar ∷ []

-- what is reported for a character and for what follows it, where `later` is what a string reports for that
abbrev pub reported_then : Mode → Result ℕ Fault → List ℕ → List Fault → List Fault
reported_then mode outcome rest later =
    if is_single mode then only_fault outcome rest else (reported mode outcome ++ later)

-- what is reported from a place of the walk on
unfoldable pub faults_from : Mode → Place → List ℕ → List Fault
faults_from mode before_character [] = []
faults_from mode before_character (c ∷ cs) =
    if c == backslash then faults_from mode after_backslash cs
    else reported_then mode (plain_character mode c) cs (faults_from mode before_character cs)
faults_from mode after_backslash [] = []
faults_from mode after_backslash (c ∷ cs) =
    if (c == line_feed) && not (is_single mode) then faults_from mode in_gap cs
    else (if c == byte "x" then faults_from mode after_x cs
    else (if c == byte "u" then faults_from mode after_u cs
    else reported_then mode (ok_or (simple_escape c) InvalidEscape) cs (faults_from mode before_character cs)))
faults_from mode in_gap [] = []
faults_from mode in_gap (c ∷ cs) =
    if is_gap c then faults_from mode in_gap cs
    else (if c == backslash then faults_from mode after_backslash cs
    else reported_then mode (plain_character mode c) cs (faults_from mode before_character cs))
faults_from mode after_x [] = TooShortHexEscape ∷ []
faults_from mode after_x (a ∷ cs) =
    if nat_lt (digit_value a) 16 then faults_from mode (after_x_digit a) cs
    else reported_then mode (Err InvalidCharInHexEscape) cs (faults_from mode before_character cs)
faults_from mode (after_x_digit a) [] = TooShortHexEscape ∷ []
faults_from mode (after_x_digit a) (b ∷ cs) =
    if nat_lt (digit_value b) 16 then reported_then mode (hex_escape mode (digits_value 16 (a ∷ b ∷ []))) cs
    (faults_from mode before_character cs)
    else reported_then mode (Err InvalidCharInHexEscape) cs (faults_from mode before_character cs)
faults_from mode after_u [] = NoBraceInUnicodeEscape ∷ []
faults_from mode after_u (c ∷ cs) =
    if c == byte "{" then faults_from mode after_brace cs
    else reported_then mode (Err NoBraceInUnicodeEscape) cs (faults_from mode before_character cs)
faults_from mode after_brace [] = UnclosedUnicodeEscape ∷ []
faults_from mode after_brace (c ∷ cs) =
    if nat_lt (digit_value c) 16 then faults_from mode (in_digits (c ∷ [])) cs
    else reported_then mode
    (Err
    (if c == byte "_" then LeadingUnderscoreUnicodeEscape else
    (if c == byte "}" then EmptyUnicodeEscape else InvalidCharInUnicodeEscape))) cs
    (faults_from mode before_character cs)
faults_from mode (in_digits digits) [] = UnclosedUnicodeEscape ∷ []
faults_from mode (in_digits digits) (c ∷ cs) =
    if nat_lt (digit_value c) 16 then faults_from mode (in_digits (digits ++ c ∷ [])) cs
    else (if c == byte "_" then faults_from mode (in_digits digits) cs
    else reported_then mode (if c == byte "}" then unicode_escape mode digits else Err InvalidCharInUnicodeEscape) cs
    (faults_from mode before_character cs))

-- the faults of a literal's body
unfoldable pub faults : Mode → List ℕ → List Fault
faults mode [] = if is_single mode then ZeroChars ∷ [] else []
faults mode (c ∷ cs) =
    if is_single mode && (c == carriage_return) then [] else faults_from mode before_character (c ∷ cs)
