-- The first token of a text, by its first characters.
use Rattle.std.specs.Prelude.{◌≡◌, ℕ, Bool, List, [], ◌∷◌, if◌then◌else◌, ◌&&◌, ◌||◌, ◌==◌, MatchBool}
use Rattle.std.specs.Str.{byte}
use Rattle.rap_lexer.specs.Class.{is_in}
use Rattle.rap_lexer.specs.Comment.{IsLineComment, IsBlockComment}
use Rattle.rap_base.specs.Edition.{at_least_2024}
use Rattle.rap_lexer.specs.Lexeme.{plain, with_remark}
use Rattle.rap_lexer.specs.Number.{IsNumber}
use Rattle.rap_lexer.specs.Quoted.{IsLiteral, StringRun, IsTick}
use Rattle.rap_lexer.specs.Run.{next_is, tail, after_run}
use Rattle.rap_lexer.specs.Word.{IsWordLike, IsInvalidWord}
use Rattle.rap_base.specs.TokenKind.{SEMICOLON, COMMA, L_PAREN, R_PAREN, L_CURLY, R_CURLY, L_BRACK, R_BRACK, L_ANGLE, R_ANGLE, AT, POUND, TILDE, QUESTION, DOLLAR, AMP, PIPE, PLUS, STAR, SLASH, CARET, PERCENT, DOT, COLON, EQ, BANG, MINUS, STRING, ERROR, WHITESPACE}
use Rattle.rap_base.specs.declared.edition.Edition.{Edition}
use Rattle.rap_lexer.specs.declared.escape.Mode.TheVariants.{Str}
use Rattle.rap_lexer.specs.declared.lexer.lexeme.Lexeme.{Lexeme}
use Rattle.rap_lexer.specs.declared.lexer.lexeme.Remark.TheVariants.{ReservedString}
use Rattle.rap_lexer.specs.declared.lexer.run.Class.TheVariants.{White, IdentStart, Digit, Emoji}

-- The kind of a punctuation character; any other character is an ERROR of its own (the Reference, "Punctuation").
abbrev pub single_kind : ℕ → ℕ
single_kind c =
    if c == byte ";" then SEMICOLON
    else (if c == byte "," then COMMA
    else (if c == byte "(" then L_PAREN
    else (if c == byte ")" then R_PAREN
    else (if c == byte "{" then L_CURLY
    else (if c == byte "}" then R_CURLY
    else (if c == byte "[" then L_BRACK
    else (if c == byte "]" then R_BRACK
    else (if c == byte "<" then L_ANGLE
    else (if c == byte ">" then R_ANGLE
    else (if c == byte "@" then AT
    else (if c == byte "#" then POUND
    else (if c == byte "~" then TILDE
    else (if c == byte "?" then QUESTION
    else (if c == byte "$" then DOLLAR
    else (if c == byte "&" then AMP
    else (if c == byte "|" then PIPE
    else (if c == byte "+" then PLUS
    else (if c == byte "*" then STAR
    else (if c == byte "/" then SLASH
    else (if c == byte "^" then CARET
    else (if c == byte "%" then PERCENT
    else (if c == byte "." then DOT
    else (if c == byte ":" then COLON
    else (if c == byte "=" then EQ
    else (if c == byte "!" then BANG
    else (if c == byte "-" then MINUS
    else ERROR))))))))))))))))))))))))))

-- One character, which is punctuation or an ERROR.
abbrev pub IsSingle : ℕ → List ℕ → Lexeme → List ℕ → Type 0
IsSingle c cs token rest = (token ≡ plain (single_kind c)) × (rest ≡ cs)

-- Past a `/`: a comment, or the character alone.
abbrev pub IsSlash : List ℕ → Lexeme → List ℕ → Type 0
IsSlash cs token rest =
    MatchBool (next_is (byte "/") cs) (IsLineComment (tail cs) token rest)
    (MatchBool (next_is (byte "*") cs) (IsBlockComment (tail cs) token rest)
    (IsSingle (byte "/") cs token rest))

abbrev pub is_reserved_hash : Edition → List ℕ → Bool
is_reserved_hash edition cs = at_least_2024 edition && (next_is (byte "\"") cs || next_is (byte "#") cs)

-- Past a `#`: from 2024 on `#"` and `##` are reserved (the Reference, "Reserved guarded string literals").
abbrev pub IsHash : Edition → List ℕ → Lexeme → List ℕ → Type 0
IsHash edition cs token rest =
    MatchBool (is_reserved_hash edition cs)
    ((token ≡ with_remark ERROR ReservedString) × (rest ≡ tail cs))
    (IsSingle (byte "#") cs token rest)

-- What begins with neither white space nor an identifier nor a digit.
abbrev pub IsSign : Edition → ℕ → List ℕ → Lexeme → List ℕ → Type 0
IsSign edition c cs token rest =
    MatchBool (c == byte "/") (IsSlash cs token rest)
    (MatchBool (c == byte "'") (IsTick cs token rest)
    (MatchBool (c == byte "\"") (IsLiteral StringRun STRING Str cs token rest)
    (MatchBool (c == byte "#") (IsHash edition cs token rest)
    (MatchBool (is_in Emoji c) (IsInvalidWord cs token rest)
    (IsSingle c cs token rest)))))

-- The first token of the text, and what follows it.
abbrev pub First : Edition → List ℕ → Lexeme → List ℕ → Type 0
First edition [] token rest = ⊥
First edition (c ∷ cs) token rest =
    MatchBool (is_in White c) ((token ≡ plain WHITESPACE) × (rest ≡ after_run (is_in White) cs))
    (MatchBool (is_in IdentStart c) (IsWordLike edition c cs token rest)
    (MatchBool (is_in Digit c) (IsNumber c cs token rest)
    (IsSign edition c cs token rest)))
