-- Numbers (the Reference, "Integer literals" and "Floating-point literals"): where their digits end and a suffix begins,
-- and what the digits come to. What is a number is the lexer's rule.
use Rattle.std.specs.Prelude.{◌≡◌, ℕ, ◌<◌, Bool, ◌&&◌, List, [], ◌++◌, if◌then◌else◌, codes, chars, encode_utf8_all}
use Rattle.std.specs.Char.{digit_value}
use Rattle.std.specs.List.{AllByRecursion}
use Rattle.std.specs.Str.{byte}
use Rattle.std.specs.Str.Parse.{digits_value}
use Rattle.rap_base.specs.TokenKind.{INT_NUMBER, FLOAT_NUMBER}
use Rattle.rap_lexer.specs.Class.{is_in}
use Rattle.rap_lexer.specs.Escape.{without_underscores}
use Rattle.rap_lexer.specs.Number.{starts_exponent, after_sign}
use Rattle.rap_lexer.specs.Run.{next_is, tail, after_run}
use Rattle.rap_lexer.specs.declared.lexer.run.Class.{Class}
use Rattle.rap_lexer.specs.declared.lexer.run.Class.TheVariants.{DigitOrUnderscore, HexOrUnderscore}
use Rattle.rap_literals.specs.Cut.{IsPlain}
use Rattle.rap_literals.specs.declared.digits.Radix.{Radix}
use Rattle.rap_literals.specs.declared.digits.Radix.TheVariants.{Binary, Octal, Decimal, Hexadecimal}

abbrev pub number_of : Radix → ℕ
number_of Binary = 2
number_of Octal = 8
number_of Decimal = 10
number_of Hexadecimal = 16

-- what a number of the radix begins with
abbrev pub prefix_of : Radix → List ℕ
prefix_of Binary = codes "0b"
prefix_of Octal = codes "0o"
prefix_of Decimal = []
prefix_of Hexadecimal = codes "0x"

-- a `0` and this letter stand first
abbrev pub has_prefix : ℕ → List ℕ → Bool
has_prefix letter text = next_is (byte "0") text && next_is letter (tail text)

abbrev pub radix_of : List ℕ → Radix
radix_of text =
    if has_prefix (byte "b") text then Binary
    else (if has_prefix (byte "o") text then Octal
    else (if has_prefix (byte "x") text then Hexadecimal
    else Decimal))

-- what the lexer takes for digits: with `_`, those of a hexadecimal number to `f`, and all others to `9`
abbrev pub class_of : Radix → Class
class_of Binary = DigitOrUnderscore
class_of Octal = DigitOrUnderscore
class_of Decimal = DigitOrUnderscore
class_of Hexadecimal = HexOrUnderscore

-- what follows the digits and `_` that stand first
abbrev pub after_digits : Radix → List ℕ → List ℕ
after_digits radix text = after_run (is_in (class_of radix)) text

-- The whole text is an integer: the prefix of its radix, its digits, and what follows these.
pub record IntegerLiteral (text : List ℕ) (radix : Radix) (digits suffix : List ℕ) : Type 0 where
  pub whole : IsPlain INT_NUMBER text
  pub base : radix ≡ radix_of text
  pub split : text ≡ prefix_of radix ++ (digits ++ suffix)
  pub rest : suffix ≡ after_digits radix (digits ++ suffix)

-- each of the digits is one of the radix
abbrev pub AreOf : Radix → List ℕ → Type 0
AreOf radix digits = AllByRecursion (λ c. digit_value c < number_of radix) (without_underscores digits)

-- the number that the digits write
abbrev pub value_of : Radix → List ℕ → ℕ
value_of radix digits = digits_value (number_of radix) (without_underscores digits)

-- what follows a dot and the digits after it, if a dot stands first
abbrev pub after_fraction : List ℕ → List ℕ
after_fraction text = if next_is (byte ".") text then after_digits Decimal (tail text) else text

-- what follows an exponent, if one stands first
abbrev pub after_exponent : List ℕ → List ℕ
after_exponent text = if starts_exponent text then after_digits Decimal (after_sign (tail text)) else text

-- The whole text is a decimal float: its digits with the fraction and the exponent, and what follows these.
pub record FloatLiteral (text digits suffix : List ℕ) : Type 0 where
  pub whole : IsPlain FLOAT_NUMBER text
  pub base : Decimal ≡ radix_of text
  pub split : text ≡ digits ++ suffix
  pub rest : suffix ≡ after_exponent (after_fraction (after_digits Decimal text))

-- a text without its `_`
abbrev pub bare : List ℕ → List ℕ
bare text = encode_utf8_all (without_underscores (chars text))

-- the rest stands at the end of the text
abbrev pub EndsWith : List ℕ → List ℕ → Type 0
EndsWith text rest = (front : List ℕ) × (text ≡ front ++ rest)
