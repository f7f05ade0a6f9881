-- A text that is one token.
use Rattle.std.specs.Prelude.{◌≡◌, ◌⊎◌, ℕ, ◌<◌, false, Option, MatchOption, List, [], ◌∷◌, ◌++◌, length, drop, chars, IsCharBoundary}
use Rattle.rap_lexer.specs.First.{First}
use Rattle.rap_lexer.specs.Lexeme.{with_remark}
use Rattle.rap_base.specs.declared.edition.Edition.{Edition}
use Rattle.rap_lexer.specs.declared.lexer.lexeme.Lexeme.{Lexeme}
use Rattle.rap_lexer.specs.declared.lexer.lexeme.Remark.{Remark}
use Rattle.rap_lexed.specs.Reported.{ReportsOf}

-- the last of the texts, if there is one
abbrev pub IsLast : List (List ℕ) → Option (List ℕ) → Type 0
IsLast texts last = MatchOption last (texts ≡ []) (λ text. (prefix : List (List ℕ)) × (texts ≡ prefix ++ text ∷ []))

-- the last message that is reported about the text, if there is one, with no token before it
abbrev pub ReportsLast : List ℕ → Remark → Option (List ℕ) → Type 0
ReportsLast text remark last = (texts : List (List ℕ)) × ReportsOf false text remark texts × IsLast texts last

-- The text is one token of this kind, and this is its last message.
abbrev pub IsOneToken : Edition → List ℕ → ℕ → Option (List ℕ) → Type 0
IsOneToken edition text kind last =
    (remark : Remark) × First edition (chars text) (with_remark kind remark) [] × ReportsLast text remark last

-- The text is empty, or its first token ends before the text does.
abbrev pub IsNotOneToken : Edition → List ℕ → Type 0
IsNotOneToken edition text =
    (text ≡ []) ⊎
    ((token : Lexeme) × (n : ℕ) × IsCharBoundary text n × First edition (chars text) token (chars (drop n text)) ×
    (n < length text))
