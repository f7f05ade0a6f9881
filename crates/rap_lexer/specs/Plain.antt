-- Tokens that are taken at once, by their bytes.
use Rattle.std.specs.Prelude.{◌≡◌, ◌≢◌, ◌<◌, ◌≤◌, ℕ, Bool, true, ◌||◌, ◌&&◌, ◌==◌, not, nat_lt, if◌then◌else◌, List, length, chars, drop, IsCharBoundary}
use Rattle.std.specs.Str.{byte}
use Rattle.rap_base.specs.TokenKind.{FLOAT_NUMBER, INT_NUMBER, STRING}
use Rattle.rap_base.specs.TokenTests.{IsTokenKind}
use Rattle.rap_base.specs.declared.edition.Edition.{Edition}
use Rattle.rap_lexer.specs.Class.{is_ascii_in}
use Rattle.rap_lexer.specs.Common.{next_fits, is_uncommon}
use Rattle.rap_lexer.specs.First.{First, is_reserved_hash}
use Rattle.rap_lexer.specs.Lexeme.{plain}
use Rattle.rap_lexer.specs.Number.{after_sign, starts_exponent}
use Rattle.rap_lexer.specs.Run.{next_is, tail, after_run}
use Rattle.rap_lexer.specs.declared.lexer.run.Class.{Class}
use Rattle.rap_lexer.specs.declared.lexer.run.Class.TheVariants.{IdentStart, IdentContinue, Digit, DigitOrUnderscore, HexOrUnderscore}

-- the byte may begin a suffix: it begins an identifier in ASCII, or it is past ASCII
abbrev pub begins_suffix : ℕ → Bool
begins_suffix b = nat_lt 127 b || is_ascii_in IdentStart b

-- A suffix, if one stands first, is of ASCII, and no byte past ASCII follows it.
abbrev pub has_plain_suffix : List ℕ → Bool
has_plain_suffix bs =
    not (next_fits begins_suffix bs && next_fits (nat_lt 127) (after_run (is_ascii_in IdentContinue) bs))

-- what follows such a suffix
abbrev pub after_plain_suffix : List ℕ → List ℕ
after_plain_suffix bs = if next_fits begins_suffix bs then after_run (is_ascii_in IdentContinue) bs else bs

-- An exponent past its sign: at once a digit, more and `_`, and such a suffix.
abbrev pub has_plain_power : List ℕ → Bool
has_plain_power bs = next_fits (is_ascii_in Digit) bs && has_plain_suffix (after_run (is_ascii_in DigitOrUnderscore) bs)

-- what follows it
abbrev pub after_plain_power : List ℕ → List ℕ
after_plain_power bs = after_plain_suffix (after_run (is_ascii_in DigitOrUnderscore) bs)

-- An exponent past its letter: the same after an optional sign.
abbrev pub has_plain_exponent : List ℕ → Bool
has_plain_exponent bs = has_plain_power (after_sign bs)

-- what follows it
abbrev pub after_plain_exponent : List ℕ → List ℕ
after_plain_exponent bs = after_plain_power (after_sign bs)

-- Past the last digits stands such an exponent, or such a suffix.
abbrev pub has_plain_end : List ℕ → Bool
has_plain_end bs = if starts_exponent bs then has_plain_exponent (tail bs) else has_plain_suffix bs

-- what follows it
abbrev pub after_plain_end : List ℕ → List ℕ
after_plain_end bs = if starts_exponent bs then after_plain_exponent (tail bs) else after_plain_suffix bs

-- the kind of a number of this kind, with what stands past its last digits
abbrev pub kind_with_end : ℕ → List ℕ → ℕ
kind_with_end kind bs = if starts_exponent bs then FLOAT_NUMBER else kind

-- A dot before these bytes is not the number's: a second dot follows it, or an identifier in ASCII.
abbrev pub ends_before_dot : List ℕ → Bool
ends_before_dot bs = next_is (byte ".") bs || next_fits (is_ascii_in IdentStart) bs

-- A fraction past its dot: at once a digit, more and `_`, and such an end; or nothing, if no byte past ASCII follows.
abbrev pub has_plain_fraction : List ℕ → Bool
has_plain_fraction bs =
    if next_fits (is_ascii_in Digit) bs then has_plain_end (after_run (is_ascii_in DigitOrUnderscore) bs)
    else not (next_fits (nat_lt 127) bs)

-- what follows it
abbrev pub after_plain_fraction : List ℕ → List ℕ
after_plain_fraction bs =
    if next_fits (is_ascii_in Digit) bs then after_plain_end (after_run (is_ascii_in DigitOrUnderscore) bs) else bs

-- Past the first digits stands a dot that is not the number's, or a dot and such a fraction, or such an end.
abbrev pub is_plain_past_digits : List ℕ → Bool
is_plain_past_digits bs =
    if next_is (byte ".") bs then (ends_before_dot (tail bs) || has_plain_fraction (tail bs)) else has_plain_end bs

-- what follows the number
abbrev pub after_past_digits : List ℕ → List ℕ
after_past_digits bs =
    if next_is (byte ".") bs then (if ends_before_dot (tail bs) then bs else after_plain_fraction (tail bs))
    else after_plain_end bs

-- the kind of the number
abbrev pub kind_past_digits : List ℕ → ℕ
kind_past_digits bs =
    if next_is (byte ".") bs then (if ends_before_dot (tail bs) then INT_NUMBER else FLOAT_NUMBER)
    else kind_with_end INT_NUMBER bs

-- the byte is a digit of the class
abbrev pub is_digit_of : Class → ℕ → Bool
is_digit_of class b = is_ascii_in class b && not (b == byte "_")

-- the text begins with `0` and this letter
abbrev pub is_based : ℕ → List ℕ → Bool
is_based letter text = next_is (byte "0") text && next_is letter (drop 1 text)

-- the text begins with `0b` or `0o`
abbrev pub is_binary : List ℕ → Bool
is_binary text = is_based (byte "b") text || is_based (byte "o") text

-- The text begins with `0x` and a hexadecimal digit, with `0b` or `0o` and a digit, or with none of these prefixes.
abbrev pub has_plain_digits : List ℕ → Bool
has_plain_digits text =
    if is_based (byte "x") text then next_fits (is_digit_of HexOrUnderscore) (drop 2 text)
    else (if is_binary text then next_fits (is_digit_of DigitOrUnderscore) (drop 2 text) else true)

-- what follows the prefix, the digits and `_`
abbrev pub after_plain_digits : List ℕ → List ℕ
after_plain_digits text =
    if is_based (byte "x") text then after_run (is_ascii_in HexOrUnderscore) (drop 2 text)
    else (if is_binary text then after_run (is_ascii_in DigitOrUnderscore) (drop 2 text)
    else after_run (is_ascii_in DigitOrUnderscore) text)

-- The text begins with a digit, and with such digits and such a rest of a number.
abbrev pub is_plain_number : List ℕ → Bool
is_plain_number text =
    next_fits (is_ascii_in Digit) text && (has_plain_digits text && is_plain_past_digits (after_plain_digits text))

-- The text begins with a `/` that begins no comment.
abbrev pub is_plain_slash : List ℕ → Bool
is_plain_slash text = next_is (byte "/") text && (not (next_is (byte "/") (drop 1 text)) && not (next_is (byte "*") (drop 1 text)))

-- The text begins with a `#` that begins no reserved guarded string.
abbrev pub is_plain_hash : Edition → List ℕ → Bool
is_plain_hash edition text = next_is (byte "#") text && not (is_reserved_hash edition (drop 1 text))

-- The text begins with a `/` or `#` that is a token of its own.
abbrev pub is_plain_sign : Edition → List ℕ → Bool
is_plain_sign edition text = is_plain_slash text || is_plain_hash edition text

-- The text begins with a token that is taken at once: a common one, a plain number, or a `/` or `#` alone.
abbrev pub is_quick : Edition → List ℕ → Bool
is_quick edition text = not (is_uncommon text) || (is_plain_number text || is_plain_sign edition text)

-- Past this many bytes these are left.
pub record Leaves (bs : List ℕ) (n : ℕ) (rest : List ℕ) : Type 0 where
  pub within : n ≤ length bs
  pub left : drop n bs ≡ rest

-- The text begins with a plain number of this kind and this length in bytes.
pub record IsPlainNumber (text : List ℕ) (kind n : ℕ) : Type 0 where
  pub token : (edition : Edition) → First edition (chars text) (plain kind) (chars (drop n text))
  pub number : IsTokenKind kind
  pub no_string : kind ≢ STRING
  pub positive : 0 < n
  pub border : IsCharBoundary text n
  pub plain : is_plain_number text ≡ true

-- The text begins with a `/` or `#` alone, of this kind and this length in bytes.
pub record IsPlainSign (edition : Edition) (text : List ℕ) (kind n : ℕ) : Type 0 where
  pub token : First edition (chars text) (plain kind) (chars (drop n text))
  pub sign : IsTokenKind kind
  pub no_string : kind ≢ STRING
  pub positive : 0 < n
  pub border : IsCharBoundary text n
  pub plain : is_plain_sign edition text ≡ true
