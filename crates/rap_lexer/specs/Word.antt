-- Identifiers, keywords, and the prefixes of literals (the Reference, "Identifiers", "Keywords", "Reserved prefixes").
use Rattle.std.specs.Prelude.{◌≡◌, ℕ, Bool, ◌&&◌, ◌||◌, ◌==◌, List, ◌∷◌, if◌then◌else◌, MatchBool, bytes_eq, codes, encode_utf8_all, unwrap_or}
use Rattle.std.specs.Str.{byte}
use Rattle.rap_lexer.specs.Class.{is_in}
use Rattle.rap_base.specs.Keyword.{from_keyword}
use Rattle.rap_lexer.specs.Lexeme.{plain, with_remark}
use Rattle.rap_lexer.specs.Quoted.{IsLiteral, IsRawString, StringRun, CharacterEnds}
use Rattle.rap_lexer.specs.Run.{next_is, next_in, tail, run_of, after_run}
use Rattle.rap_base.specs.TokenKind.{UNDERSCORE, IDENT, STRING, BYTE, BYTE_STRING, C_STRING}
use Rattle.rap_base.specs.declared.edition.Edition.{Edition}
use Rattle.rap_lexer.specs.declared.escape.Mode.TheVariants.{Byte, ByteStr, CStr}
use Rattle.rap_lexer.specs.declared.lexer.lexeme.Lexeme.{Lexeme}
use Rattle.rap_lexer.specs.declared.lexer.lexeme.Remark.{Remark}
use Rattle.rap_lexer.specs.declared.lexer.lexeme.Remark.TheVariants.{Nothing, UnknownPrefix, InvalidIdent}
use Rattle.rap_lexer.specs.declared.lexer.run.Class.TheVariants.{IdentStart, IdentContinue, Emoji, InvalidContinue}

-- the kind of an identifier with this text: `_` alone, a keyword of the edition, or any other
abbrev pub word_kind : Edition → List ℕ → ℕ
word_kind edition text = if bytes_eq text (codes "_") then UNDERSCORE else unwrap_or (from_keyword text edition) IDENT

-- `#` or a quote directly after an identifier makes it a prefix
abbrev pub ends_prefix : List ℕ → Bool
ends_prefix cs = next_is (byte "#") cs || next_is (byte "\"") cs || next_is (byte "'") cs

-- what is to be reported about a prefix with this text: of `builtin` nothing
abbrev pub prefix_remark : List ℕ → Remark
prefix_remark text = if bytes_eq text (codes "builtin") then Nothing else UnknownPrefix

-- An identifier that met an emoji goes on over more of them.
abbrev pub IsInvalidWord : List ℕ → Lexeme → List ℕ → Type 0
IsInvalidWord cs token rest = (token ≡ with_remark IDENT InvalidIdent) × (rest ≡ after_run (is_in InvalidContinue) cs)

-- An identifier by its text and what follows it.
abbrev pub IsWordBefore : Edition → List ℕ → List ℕ → Lexeme → List ℕ → Type 0
IsWordBefore edition text after token rest =
    MatchBool (ends_prefix after)
    ((token ≡ with_remark IDENT (prefix_remark text)) × (rest ≡ after))
    (MatchBool (next_in Emoji after) (IsInvalidWord after token rest)
    ((token ≡ plain (word_kind edition text)) × (rest ≡ after)))

-- An identifier past its first character: as many continues as there are.
abbrev pub IsWord : Edition → ℕ → List ℕ → Lexeme → List ℕ → Type 0
IsWord edition c cs token rest =
    IsWordBefore edition (encode_utf8_all (c ∷ run_of (is_in IdentContinue) cs))
    (after_run (is_in IdentContinue) cs) token rest

-- what a raw string begins with past its `r`
abbrev pub starts_raw : List ℕ → Bool
starts_raw cs = next_is (byte "\"") cs || next_is (byte "#") cs

-- what a raw identifier begins with past its `r`
abbrev pub starts_raw_ident : List ℕ → Bool
starts_raw_ident cs = next_is (byte "#") cs && next_in IdentStart (tail cs)

-- what a raw string begins with
abbrev pub starts_prefixed_raw : List ℕ → Bool
starts_prefixed_raw cs = next_is (byte "r") cs && starts_raw (tail cs)

-- Past an `r`: a raw identifier, a raw string, or an identifier.
abbrev pub IsPastR : Edition → List ℕ → Lexeme → List ℕ → Type 0
IsPastR edition cs token rest =
    MatchBool (starts_raw_ident cs)
    ((token ≡ plain IDENT) × (rest ≡ after_run (is_in IdentContinue) (tail (tail cs))))
    (MatchBool (starts_raw cs) (IsRawString STRING cs token rest)
    (IsWord edition (byte "r") cs token rest))

-- Past a `b`: a byte, a byte string, a raw byte string, or an identifier.
abbrev pub IsPastB : Edition → List ℕ → Lexeme → List ℕ → Type 0
IsPastB edition cs token rest =
    MatchBool (next_is (byte "'") cs) (IsLiteral CharacterEnds BYTE Byte (tail cs) token rest)
    (MatchBool (next_is (byte "\"") cs) (IsLiteral StringRun BYTE_STRING ByteStr (tail cs) token rest)
    (MatchBool (starts_prefixed_raw cs) (IsRawString BYTE_STRING (tail cs) token rest)
    (IsWord edition (byte "b") cs token rest)))

-- Past a `c`: a C string, a raw C string, or an identifier.
abbrev pub IsPastC : Edition → List ℕ → Lexeme → List ℕ → Type 0
IsPastC edition cs token rest =
    MatchBool (next_is (byte "\"") cs) (IsLiteral StringRun C_STRING CStr (tail cs) token rest)
    (MatchBool (starts_prefixed_raw cs) (IsRawString C_STRING (tail cs) token rest)
    (IsWord edition (byte "c") cs token rest))

-- What begins with the start of an identifier.
abbrev pub IsWordLike : Edition → ℕ → List ℕ → Lexeme → List ℕ → Type 0
IsWordLike edition c cs token rest =
    MatchBool (c == byte "r") (IsPastR edition cs token rest)
    (MatchBool (c == byte "b") (IsPastB edition cs token rest)
    (MatchBool (c == byte "c") (IsPastC edition cs token rest)
    (IsWord edition c cs token rest)))
