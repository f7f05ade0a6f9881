-- Numbers (the Reference, "Number literals", and rustc_lexer where a number is malformed).
use Rattle.std.specs.Prelude.{◌≡◌, ℕ, Bool, not, ◌&&◌, ◌||◌, ◌==◌, List, if◌then◌else◌, MatchBool, MatchOption, Option, Some, None}
use Rattle.std.specs.Str.{byte}
use Rattle.rap_lexer.specs.Class.{is_in}
use Rattle.rap_lexer.specs.Lexeme.{plain, with_remark}
use Rattle.rap_lexer.specs.Run.{next_is, next_in, tail, after_run, after_suffix}
use Rattle.rap_base.specs.TokenKind.{INT_NUMBER, FLOAT_NUMBER}
use Rattle.rap_lexer.specs.declared.lexer.lexeme.Lexeme.{Lexeme}
use Rattle.rap_lexer.specs.declared.lexer.lexeme.Remark.TheVariants.{NoDigits, NoExponentDigits, Nothing}
use Rattle.rap_lexer.specs.declared.lexer.run.Class.{Class}
use Rattle.rap_lexer.specs.declared.lexer.run.Class.TheVariants.{IdentStart, Digit, Underscore, DigitOrUnderscore, HexOrUnderscore}

-- there is a digit among the digits and `_` that stand first: past the `_` another of them stands
abbrev pub has_digit : Class → List ℕ → Bool
has_digit class cs = next_in class (after_run (is_in Underscore) cs)

abbrev pub starts_exponent : List ℕ → Bool
starts_exponent cs = next_is (byte "e") cs || next_is (byte "E") cs

-- what follows an optional sign
abbrev pub after_sign : List ℕ → List ℕ
after_sign cs = if next_is (byte "+") cs || next_is (byte "-") cs then tail cs else cs

-- An exponent past its letter: an optional sign, then digits and `_`; that there is no digit is reported.
abbrev pub IsExponent : List ℕ → Lexeme → List ℕ → Type 0
IsExponent cs token rest =
    (token ≡ with_remark FLOAT_NUMBER
    (if has_digit DigitOrUnderscore (after_sign cs) then Nothing else NoExponentDigits))
    × (rest ≡ after_suffix (after_run (is_in DigitOrUnderscore) (after_sign cs)))

-- A float past its dot: if a digit follows at once, digits and `_`, and then perhaps an exponent.
abbrev pub IsFraction : List ℕ → Lexeme → List ℕ → Type 0
IsFraction cs token rest =
    MatchBool (next_in Digit cs && starts_exponent (after_run (is_in DigitOrUnderscore) cs))
    (IsExponent (tail (after_run (is_in DigitOrUnderscore) cs)) token rest)
    ((token ≡ plain FLOAT_NUMBER) ×
    (rest ≡ after_suffix (if next_in Digit cs then after_run (is_in DigitOrUnderscore) cs else cs)))

-- a dot belongs to the number unless a second dot or an identifier follows it
abbrev pub takes_dot : List ℕ → Bool
takes_dot cs = next_is (byte ".") cs && not (next_is (byte ".") (tail cs)) && not (next_in IdentStart (tail cs))

-- A number past its first digits.
abbrev pub IsPastDigits : List ℕ → Lexeme → List ℕ → Type 0
IsPastDigits cs token rest =
    MatchBool (takes_dot cs) (IsFraction (tail cs) token rest)
    (MatchBool (starts_exponent cs) (IsExponent (tail cs) token rest)
    ((token ≡ plain INT_NUMBER) × (rest ≡ after_suffix cs)))

-- A number past its base prefix, with the digits of the base and `_`; that there is no digit is reported.
abbrev pub IsBased : Class → List ℕ → Lexeme → List ℕ → Type 0
IsBased class cs token rest =
    MatchBool (has_digit class cs) (IsPastDigits (after_run (is_in class) cs) token rest)
    ((token ≡ with_remark INT_NUMBER NoDigits) × (rest ≡ after_suffix (after_run (is_in class) cs)))

-- the digits that a base prefix asks for: after `0b` and `0o` all decimal ones, after `0x` the hexadecimal ones
abbrev pub base_of : ℕ → List ℕ → Option Class
base_of c cs =
    if not (c == byte "0") then None
    else (if next_is (byte "b") cs || next_is (byte "o") cs then Some DigitOrUnderscore
    else (if next_is (byte "x") cs then Some HexOrUnderscore
    else None))

-- A number past its first digit `c`.
abbrev pub IsNumber : ℕ → List ℕ → Lexeme → List ℕ → Type 0
IsNumber c cs token rest =
    MatchOption (base_of c cs)
    (IsPastDigits (after_run (is_in DigitOrUnderscore) cs) token rest)
    (λ class. IsBased class (tail cs) token rest)
