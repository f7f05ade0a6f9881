-- A text that is one literal in quotes, and the body between its quotes.
use Rattle.std.specs.Prelude.{◌≡◌, ◌≢◌, ◌⊎◌, ℕ, All, List, [], ◌∷◌, ◌++◌, chars}
use Rattle.std.specs.Str.{byte}
use Rattle.rap_base.specs.TokenKind.{CHAR, BYTE, STRING, BYTE_STRING, C_STRING}
use Rattle.rap_base.specs.declared.edition.Edition.TheVariants.{Edition2024}
use Rattle.rap_lexer.specs.First.{First}
use Rattle.rap_lexer.specs.declared.escape.Mode.{Mode}
use Rattle.rap_lexer.specs.declared.escape.Mode.TheVariants.{Char, Byte, Str, ByteStr, CStr}
use Rattle.rap_lexer.specs.declared.lexer.lexeme.Lexeme.{Lexeme}
use Rattle.rap_lexer.specs.declared.lexer.lexeme.Remark.TheVariants.{Nothing, Escapes}
use Rattle.rap_literals.specs.declared.cut.Form.{Form}
use Rattle.rap_literals.specs.declared.cut.Form.TheVariants.{Escaped, Raw}

-- the whole text is this token, as the lexer cuts it in the edition 2024
abbrev pub IsToken : List ℕ → Lexeme → Type 0
IsToken text token = First Edition2024 (chars text) token []

-- The whole text is a token of this kind, about which the lexer reports nothing.
pub record IsPlain (kind : ℕ) (text : List ℕ) : Type 0 where
  pub token : Lexeme
  pub whole : IsToken text token
  pub named : token.kind ≡ kind
  pub quiet : token.remark ≡ Nothing

-- The body stands between the first of these quotes and the last one; `after` follows the last one.
pub record IsBetween (quote : ℕ) (text body after : List ℕ) : Type 0 where
  pub before : List ℕ
  pub split : text ≡ before ++ quote ∷ (body ++ quote ∷ after)
  pub first : All (λ b. b ≢ quote) before
  pub last : All (λ b. b ≢ quote) after

-- The body of a literal and what follows its last quote. In a text without two quotes, which is no literal, both are
-- nothing.
abbrev pub AreParts : ℕ → List ℕ → List ℕ → List ℕ → Type 0
AreParts quote text body after =
    IsBetween quote text body after
    ⊎ ((body ≡ []) × (after ≡ []) × ((other rest : List ℕ) → ¬ IsBetween quote text other rest))

-- the quote of a literal
abbrev pub quote_of : Mode → ℕ
quote_of Char = byte "'"
quote_of Byte = byte "'"
quote_of Str = byte "\""
quote_of ByteStr = byte "\""
quote_of CStr = byte "\""

-- the kind of a token that is such a literal
abbrev pub kind_of : Mode → ℕ
kind_of Char = CHAR
kind_of Byte = BYTE
kind_of Str = STRING
kind_of ByteStr = BYTE_STRING
kind_of CStr = C_STRING

-- The token is a literal of this form: one whose escapes the lexer checks, or a raw one, about which it reports nothing.
abbrev pub IsForm : Form → Mode → Lexeme → Type 0
IsForm Escaped mode token = token.remark ≡ Escapes mode
IsForm Raw mode token = (token.remark ≡ Nothing) × (token.kind ≡ kind_of mode)

-- The whole text is a literal of this mode and form, with this body; `after` follows its last quote.
pub record IsQuoted (mode : Mode) (text : List ℕ) (form : Form) (body after : List ℕ) : Type 0 where
  pub token : Lexeme
  pub whole : IsToken text token
  pub written : IsForm form mode token
  pub parts : AreParts (quote_of mode) text body after
