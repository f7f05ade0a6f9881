-- What is returned of a literal.
use Rattle.std.specs.Prelude.{◌≡◌, ◌⊎◌, ℕ, ◌+◌, ◌-◌, ◌*◌, ◌^◌, ◌<◌, List, Some, None, length, IsUtf8}
use Rattle.std.specs.Float.{binary64}
use Rattle.std.specs.Float.Ieee.{Float, of_bits}
use Rattle.std.specs.Float.Parse.{parse_float}
use Rattle.rap_base.specs.TokenKind.{BYTE, BYTE_STRING, CHAR, C_STRING, FLOAT_NUMBER, INT_NUMBER, STRING}
use Rattle.rap_lexer.specs.declared.escape.Mode.{Mode}
use Rattle.rap_lexer.specs.declared.escape.Mode.TheVariants.{Byte, ByteStr, CStr, Char, Str}
use Rattle.rap_literals.specs.Cut.{IsPlain}
use Rattle.rap_literals.specs.Literal.{CharacterLiteral, StringLiteral}
use Rattle.rap_literals.specs.Number.{AreOf, FloatLiteral, IntegerLiteral, bare, number_of, value_of}
use Rattle.rap_literals.specs.Suffix.{HasSuffix}
use Rattle.rap_literals.specs.declared.digits.Radix.{Radix}
use Rattle.rap_c.specs.Filling.{overwritten}
use Rattle.rap_c.specs.declared.literal.RapNumber.{RapNumber}
use Rattle.rap_c.specs.declared.literal.RapString.{RapString}

-- The text is a string of this kind, which stands for these bytes.
pub data StandsFor (kind : ℕ) (text bytes : List ℕ) : Type 0 where
  of_string : kind ≡ STRING → StringLiteral Str text bytes → StandsFor kind text bytes
  of_byte_string : kind ≡ BYTE_STRING → StringLiteral ByteStr text bytes → StandsFor kind text bytes
  of_c_string : kind ≡ C_STRING → StringLiteral CStr text bytes → StandsFor kind text bytes

-- The bytes that a string stands for are returned; or it is said why there are none, and the room is unchanged.
pub data IsStringAnswer (kind : ℕ) (text old new : List ℕ) (answer : RapString) : Type 0 where
  a_string : (bytes : List ℕ) → IsUtf8 text → StandsFor kind text bytes → new ≡ overwritten old bytes
      → answer ≡ record { status = 0; bytes = length bytes } → IsStringAnswer kind text old new answer
  no_string : IsUtf8 text → ((bytes : List ℕ) → ¬ StandsFor kind text bytes) → new ≡ old
      → answer ≡ record { status = 13; bytes = 0 } → IsStringAnswer kind text old new answer
  no_text : ¬ IsUtf8 text → new ≡ old → answer ≡ record { status = 4; bytes = 0 } → IsStringAnswer kind text old new answer
  no_memory : IsUtf8 text → new ≡ old → answer ≡ record { status = 7; bytes = 0 } → IsStringAnswer kind text old new answer

-- the float that is no number's
abbrev pub no_float : Float
no_float = of_bits binary64 0

abbrev pub no_number : ℕ → RapNumber
no_number status = record { status = status; radix = 0; low = 0; high = 0; real = no_float; suffix = 0 }

-- The value of an integer in two halves, or none: a digit is none of its radix, or it is 2^128 or more.
pub data IsIntegerValue (radix : Radix) (digits : List ℕ) (answer : RapNumber) : Type 0 where
  an_integer : AreOf radix digits → value_of radix digits ≡ answer.high * 2 ^ 64 + answer.low → answer.status ≡ 0
      → IsIntegerValue radix digits answer
  no_integer : ¬ (AreOf radix digits × (value_of radix digits < 2 ^ 128)) → answer.status ≡ 14 → answer.low ≡ 0
      → answer.high ≡ 0 → IsIntegerValue radix digits answer

-- the parts of an integer
pub record IsIntegerGiven (text : List ℕ) (radix : Radix) (digits suffix : List ℕ) (answer : RapNumber) : Type 0 where
  pub radix_is : answer.radix ≡ number_of radix
  pub suffix_is : answer.suffix ≡ length text - length suffix
  pub value_is : IsIntegerValue radix digits answer
  pub real_is : answer.real ≡ no_float

pub data IsIntegerAnswer (text : List ℕ) (answer : RapNumber) : Type 0 where
  is_integer : (radix : Radix) (digits suffix : List ℕ) → IntegerLiteral text radix digits suffix
      → IsIntegerGiven text radix digits suffix answer → IsIntegerAnswer text answer
  is_none : ¬ IsPlain INT_NUMBER text → answer ≡ no_number 13 → IsIntegerAnswer text answer

-- The value of a float, or why there is none.
pub data IsFloatAnswer (text : List ℕ) (answer : RapNumber) : Type 0 where
  is_float : (digits suffix : List ℕ) → FloatLiteral text digits suffix
      → parse_float binary64 (bare digits) ≡ Some answer.real
      → answer ≡ record { status = 0; radix = 10; low = 0; high = 0; real = answer.real; suffix = length text - length suffix }
      → IsFloatAnswer text answer
  is_unread : (digits suffix : List ℕ) → FloatLiteral text digits suffix → parse_float binary64 (bare digits) ≡ None
      → answer ≡ no_number 14 → IsFloatAnswer text answer
  is_none : ((digits suffix : List ℕ) → ¬ FloatLiteral text digits suffix) → answer ≡ no_number 13 → IsFloatAnswer text answer
  is_refused : (digits suffix : List ℕ) → FloatLiteral text digits suffix → answer ≡ no_number 7 → IsFloatAnswer text answer

-- where the suffix of a literal in quotes begins; of what is none, where it ends
abbrev pub IsSuffixStart : List ℕ → ℕ → Type 0
IsSuffixStart text start =
    (((suffix : List ℕ) → ¬ HasSuffix text suffix) × (start ≡ length text))
    ⊎ ((suffix : List ℕ) × HasSuffix text suffix × (start ≡ length text - length suffix))

-- The value of a character or a byte, or that there is none.
pub data IsSingleAnswer (mode : Mode) (text : List ℕ) (answer : RapNumber) : Type 0 where
  is_single : (value start : ℕ) → CharacterLiteral mode text value → IsSuffixStart text start
      → answer ≡ record { status = 0; radix = 0; low = value; high = 0; real = no_float; suffix = start }
      → IsSingleAnswer mode text answer
  is_none : ((value : ℕ) → ¬ CharacterLiteral mode text value) → answer ≡ no_number 13 → IsSingleAnswer mode text answer

-- What is returned of a text that is to be a literal of this kind.
pub data IsNumberAnswer (kind : ℕ) (text : List ℕ) (answer : RapNumber) : Type 0 where
  of_integer : kind ≡ INT_NUMBER → IsUtf8 text → IsIntegerAnswer text answer → IsNumberAnswer kind text answer
  of_float : kind ≡ FLOAT_NUMBER → IsUtf8 text → IsFloatAnswer text answer → IsNumberAnswer kind text answer
  of_char : kind ≡ CHAR → IsUtf8 text → IsSingleAnswer Char text answer → IsNumberAnswer kind text answer
  of_byte : kind ≡ BYTE → IsUtf8 text → IsSingleAnswer Byte text answer → IsNumberAnswer kind text answer
  of_other : ¬ (kind ≡ INT_NUMBER) → ¬ (kind ≡ FLOAT_NUMBER) → ¬ (kind ≡ CHAR) → ¬ (kind ≡ BYTE) → IsUtf8 text
      → answer ≡ no_number 13 → IsNumberAnswer kind text answer
  no_text : ¬ IsUtf8 text → answer ≡ no_number 4 → IsNumberAnswer kind text answer
