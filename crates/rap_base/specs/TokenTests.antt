-- Tests of kinds.
use Rattle.std.specs.Prelude.{◌≡◌, ◌≢◌, true, ℕ, Bool, ◌==◌, ◌||◌, nat_le}
use Rattle.rap_base.specs.TokenKind.{EOF, WHITESPACE, COMMENT, L_PAREN, R_PAREN, L_CURLY, R_CURLY, L_BRACK, R_BRACK, INT_NUMBER, FLOAT_NUMBER, CHAR, BYTE, STRING, BYTE_STRING, C_STRING, SHEBANG}

-- the kinds of tokens end at SHEBANG
abbrev pub is_token : ℕ → Bool
is_token kind = nat_le kind SHEBANG

-- the kind of a token that an input may have
pub record IsTokenKind (kind : ℕ) : Type 0 where
  pub token : is_token kind ≡ true
  pub some : kind ≢ EOF

-- white space, or a comment that is no doc comment: the grammar's input has none
abbrev pub is_trivia : ℕ → Bool
is_trivia kind = kind == WHITESPACE || kind == COMMENT

-- an opening bracket
abbrev pub is_l_delimiter : ℕ → Bool
is_l_delimiter kind = kind == L_PAREN || kind == L_CURLY || kind == L_BRACK

-- a closing bracket
abbrev pub is_r_delimiter : ℕ → Bool
is_r_delimiter kind = kind == R_PAREN || kind == R_CURLY || kind == R_BRACK

-- an opening or a closing bracket
abbrev pub is_delimiter : ℕ → Bool
is_delimiter kind = is_l_delimiter kind || is_r_delimiter kind

-- a number, a character or a string
abbrev pub is_literal : ℕ → Bool
is_literal kind =
    kind == INT_NUMBER ||
    kind == FLOAT_NUMBER ||
    kind == CHAR ||
    kind == BYTE ||
    kind == STRING ||
    kind == BYTE_STRING ||
    kind == C_STRING
