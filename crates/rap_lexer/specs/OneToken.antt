-- A text begins with one token: by the lexical rules, no other one and no other length of it can be read.
use Rattle.std.specs.Prelude.{◌≡◌, ℕ, List, chars, drop, IsCharBoundary}
use Rattle.rap_lexer.specs.First.{First}
use Rattle.rap_base.specs.declared.edition.Edition.{Edition}
use Rattle.rap_lexer.specs.declared.lexer.lexeme.Lexeme.{Lexeme}

-- Whatever token of whatever length the rules allow at the beginning of the text is this one.
abbrev pub IsOnlyToken : Edition → List ℕ → Lexeme → ℕ → Type 0
IsOnlyToken edition text token len =
    (other : Lexeme) (n : ℕ) → IsCharBoundary text n → First edition (chars text) other (chars (drop n text))
    → (other ≡ token) × (n ≡ len)
