-- Literals in quotes and lifetimes (the Reference, "Literals" and "Lifetimes and loop labels", and rustc_lexer where
-- one is malformed).
use Rattle.std.specs.Prelude.{◌≡◌, ◌≢◌, ◌≤◌, ℕ, Bool, true, false, not, ◌&&◌, ◌||◌, ◌==◌, nat_le, List, [], ◌∷◌, ◌++◌, length, replicate, if◌then◌else◌, MatchBool}
use Rattle.std.specs.Str.{byte}
use Rattle.rap_lexer.specs.Class.{is_in}
use Rattle.rap_lexer.specs.Lexeme.{plain, with_remark, literal}
use Rattle.rap_lexer.specs.Run.{next_is, next_in, tail, run_of, after_run, after_suffix}
use Rattle.rap_base.specs.TokenKind.{CHAR, LIFETIME_IDENT}
use Rattle.rap_lexer.specs.declared.escape.Mode.{Mode}
use Rattle.rap_lexer.specs.declared.escape.Mode.TheVariants.{Char}
use Rattle.rap_lexer.specs.declared.lexer.lexeme.Lexeme.{Lexeme}
use Rattle.rap_lexer.specs.declared.lexer.lexeme.Remark.TheVariants.{Nothing, InvalidRawString, UnknownLifetimePrefix, LifetimeStartsWithNumber, Escapes}
use Rattle.rap_lexer.specs.declared.lexer.run.Class.TheVariants.{IdentStart, IdentContinue, Digit, Hash}

-- a backslash before a backslash or a quote takes it along
abbrev pub takes_next : ℕ → List ℕ → Bool
takes_next c cs = (c == byte "\\") && (next_is (byte "\\") cs || next_is (byte "\"") cs)

-- A string past its opening quote: whether it is closed, and what follows it.
pub data StringRun : List ℕ → Bool → List ℕ → Type 0 where
  end : StringRun [] false []
  quote : (cs : List ℕ) → StringRun (byte "\"" ∷ cs) true cs
  escaped : (c : ℕ) (cs : List ℕ) (closed : Bool) (rest : List ℕ) → takes_next c cs ≡ true →
      StringRun (tail cs) closed rest → StringRun (c ∷ cs) closed rest
  other : (c : ℕ) (cs : List ℕ) (closed : Bool) (rest : List ℕ) →
      c ≢ byte "\"" → takes_next c cs ≡ false → StringRun cs closed rest → StringRun (c ∷ cs) closed rest

-- an unclosed character stops before `/`, and before a line feed that no quote follows
abbrev pub stops_at : ℕ → List ℕ → Bool
stops_at c cs = (c == byte "/") || ((c == 0xa) && not (next_is (byte "'") cs))

-- A character past its opening quote: whether it is closed, and what follows it. A backslash takes the next character
-- along, whatever it is.
pub data CharacterRun : List ℕ → Bool → List ℕ → Type 0 where
  end : CharacterRun [] false []
  stop : (c : ℕ) (cs : List ℕ) → stops_at c cs ≡ true → CharacterRun (c ∷ cs) false (c ∷ cs)
  quote : (cs : List ℕ) → CharacterRun (byte "'" ∷ cs) true cs
  escaped : (cs : List ℕ) (closed : Bool) (rest : List ℕ) → CharacterRun (tail cs) closed rest →
      CharacterRun (byte "\\" ∷ cs) closed rest
  other : (c : ℕ) (cs : List ℕ) (closed : Bool) (rest : List ℕ) → c ≢ byte "'" → c ≢ byte "\\" → stops_at c cs ≡ false →
      CharacterRun cs closed rest → CharacterRun (c ∷ cs) closed rest

abbrev pub is_one_character : List ℕ → Bool
is_one_character cs = next_is (byte "'") (tail cs) && not (next_is (byte "\\") cs)

-- One character that is no backslash, and a quote, are taken whatever the character is; else it runs on.
abbrev pub CharacterEnds : List ℕ → Bool → List ℕ → Type 0
CharacterEnds cs closed rest =
    MatchBool (is_one_character cs)
    ((closed ≡ true) × (rest ≡ tail (tail cs)))
    (CharacterRun cs closed rest)

-- A literal whose quotes end as `Run` says: a suffix only where it is closed.
abbrev pub IsLiteral : (List ℕ → Bool → List ℕ → Type 0) → ℕ → Mode → List ℕ → Lexeme → List ℕ → Type 0
IsLiteral Run kind mode cs token rest =
    (closed : Bool) × (after : List ℕ)
    × Run cs closed after
    × (token ≡ literal kind mode closed)
    × (rest ≡ (if closed then after_suffix after else after))

-- A lifetime past its quote: its first character, and then continues. With a quote directly after it is a character;
-- a `#` directly after, or a digit as its first character, is reported.
abbrev pub IsCommonLifetime : List ℕ → Lexeme → List ℕ → Type 0
IsCommonLifetime cs token rest =
    MatchBool (next_is (byte "'") (after_run (is_in IdentContinue) (tail cs)))
    ((token ≡ with_remark CHAR (Escapes Char)) × (rest ≡ tail (after_run (is_in IdentContinue) (tail cs))))
    ((rest ≡ after_run (is_in IdentContinue) (tail cs))
    × (token ≡ with_remark LIFETIME_IDENT
    (if next_in Digit cs then LifetimeStartsWithNumber else
    (if next_is (byte "#") rest then UnknownLifetimePrefix else Nothing))))

abbrev pub is_raw_lifetime : List ℕ → Bool
is_raw_lifetime cs = next_is (byte "r") cs && next_is (byte "#") (tail cs) && next_in IdentStart (tail (tail cs))

-- A raw lifetime is `r#` and an identifier.
abbrev pub IsLifetime : List ℕ → Lexeme → List ℕ → Type 0
IsLifetime cs token rest =
    MatchBool (is_raw_lifetime cs)
    ((token ≡ plain LIFETIME_IDENT) × (rest ≡ after_run (is_in IdentContinue) (tail (tail (tail cs)))))
    (IsCommonLifetime cs token rest)

-- the second character is no quote, and the first is an identifier's start or a digit
abbrev pub starts_lifetime : List ℕ → Bool
starts_lifetime cs = not (next_is (byte "'") (tail cs)) && (next_in IdentStart cs || next_in Digit cs)

-- What follows a quote is a lifetime or a character.
abbrev pub IsTick : List ℕ → Lexeme → List ℕ → Type 0
IsTick cs token rest =
    MatchBool (starts_lifetime cs)
    (IsLifetime cs token rest)
    (IsLiteral CharacterEnds CHAR Char cs token rest)

-- A quote and `n` of `#` stand at the place, and `rest` follows them.
pub record ClosesRaw (n : ℕ) (cs : List ℕ) (place : ℕ) (rest : List ℕ) : Type 0 where
  pub prefix : List ℕ
  pub split : cs ≡ prefix ++ byte "\"" ∷ (replicate n (byte "#") ++ rest)
  pub size : place ≡ length prefix

-- A raw string past its opening quote: the first such place closes it; where there is none it runs to the end.
pub data RawRun (n : ℕ) (cs : List ℕ) : Bool → List ℕ → Type 0 where
  closes_at : (place : ℕ) (rest : List ℕ) → ClosesRaw n cs place rest →
      ((other : ℕ) (after : List ℕ) → ClosesRaw n cs other after → place ≤ other) → RawRun n cs true rest
  runs_on : ((place : ℕ) (after : List ℕ) → ¬ ClosesRaw n cs place after) → RawRun n cs false []

-- closed, and with no more `#` than a raw string may have
abbrev pub is_well_formed : Bool → ℕ → Bool
is_well_formed closed n = closed && nat_le n 255

-- A raw string past its `r`: `#`s, a quote, and up to a quote and as many `#`. A character in place of the first
-- quote is taken in and ends it. A suffix only where it is well formed; else that is reported.
abbrev pub IsRawString : ℕ → List ℕ → Lexeme → List ℕ → Type 0
IsRawString kind cs token rest =
    MatchBool (next_is (byte "\"") (after_run (is_in Hash) cs))
    ((closed : Bool) × (after : List ℕ)
    × RawRun (length (run_of (is_in Hash) cs)) (tail (after_run (is_in Hash) cs)) closed after
    × (token ≡ with_remark kind
    (if is_well_formed closed (length (run_of (is_in Hash) cs)) then Nothing else InvalidRawString))
    × (rest ≡ (if is_well_formed closed (length (run_of (is_in Hash) cs)) then after_suffix after else after)))
    ((token ≡ with_remark kind InvalidRawString) × (rest ≡ tail (after_run (is_in Hash) cs)))
